-- Rows that are, all together, what is made anew of them are so one by one. Assumes nothing.
use mathlib.Core.Path.{◌≡◌, subst}
use mathlib.Core.List.{List, [], ◌∷◌, ◌++◌, map}
use Rattle.basics.proofs.Clash.{clash}

pub each_row : {A : Type 0} (made : A → A) (rows before after : List A) (row : A) → map made rows ≡ rows → rows ≡ before ++ (row ∷ after)
    → made row ≡ row
each_row made [] [] after row right e = clash (cc)
each_row made [] (y ∷ before) after row right e = clash (cc)
each_row made (x ∷ rows) [] after row right e =
    let its_own : made x ≡ x = cc in
    let it-is : x ≡ row = cc in
    subst (λ z. made z ≡ z) it-is its_own
each_row made (x ∷ rows) (y ∷ before) after row right e =
    let right-behind : map made rows ≡ rows = cc in
    let behind : rows ≡ before ++ (row ∷ after) = cc in
    each_row made rows before after row right-behind behind
