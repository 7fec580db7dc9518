-- "Give the real value by 01's formula in 64 bits: 4,294,967,296 for class 240 up to 16,106,127,360 for 255." Document 02's fourth request: the
-- sixteen classes that a full report shows and no region enters, each with its value. Assumes nothing.
use Rattle.std.specs.Prelude.{◌≡◌, ℕ, List, [], ◌∷◌, ◌++◌, map}
use Rattle.small_float.specs.Class.{value}

abbrev pub last_values : List (ℕ × ℕ)
last_values =
    (240, 4_294_967_296)
    ∷ (241, 4_831_838_208)
    ∷ (242, 5_368_709_120)
    ∷ (243, 5_905_580_032)
    ∷ (244, 6_442_450_944)
    ∷ (245, 6_979_321_856)
    ∷ (246, 7_516_192_768)
    ∷ (247, 8_053_063_680)
    ∷ (248, 8_589_934_592)
    ∷ (249, 9_663_676_416)
    ∷ (250, 10_737_418_240)
    ∷ (251, 11_811_160_064)
    ∷ (252, 12_884_901_888)
    ∷ (253, 13_958_643_712)
    ∷ (254, 15_032_385_536)
    ∷ (255, 16_106_127_360)
    ∷ []

-- a row made anew from its class
abbrev pub value_row : ℕ × ℕ → ℕ × ℕ
value_row row = (row.0, value row.0)

-- the one claim: every row is what its class gives
abbrev pub LastValuesAreRight : Type 0
LastValuesAreRight = map value_row last_values ≡ last_values

-- told from the other side: they are the sixteen classes in their order, and of each row the second number is its class's value
pub record ValueByValue : Type 0 where
  pub classes : map (λ (row : ℕ × ℕ). row.0) last_values
      ≡ 240 ∷ 241 ∷ 242 ∷ 243 ∷ 244 ∷ 245 ∷ 246 ∷ 247 ∷ 248 ∷ 249 ∷ 250 ∷ 251 ∷ 252 ∷ 253 ∷ 254 ∷ 255 ∷ []
  pub each : (before after : List (ℕ × ℕ)) (class second : ℕ) → last_values ≡ before ++ ((class, second) ∷ after) → second ≡ value class
