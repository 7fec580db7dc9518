-- A refusal of the packet layer is known by its number, and an answer of the code by what it says. Assumes nothing.
use mathlib.Core.Path.{◌≡◌, refl, sym, ap}
use mathlib.Core.Logic.{◌≢◌, inl, inr}
use mathlib.Core.List.{[], ◌∷◌}
use Prim.Native.Nat.{ℕ, ◌≤◌}
use native.Mathlib.Omega.{arith}
use Rattle.std.specs.Prelude.{Result, Ok, Err}
use Rattle.basics.proofs.Clash.{clash}
use Rattle.ledger.specs.Ledger.{refused}
use Rattle.small_float.specs.declared.Size.{Size}
use Rattle.answers.specs.declared.Refusal.{Refusal}
use Rattle.answers.specs.declared.StorageReport.{StorageReport}
use Rattle.answers.specs.declared.Refusal.TheVariants.{BadCount, TableTooShort, NoSpareRecord, NoRegion, NotLive, Unsound, StartsElsewhere}
use Rattle.answers.specs.Refusals.{number_of}
use Rattle.answers.proofs.Numbers.{number_means}
use Rattle.tables.specs.Claims.{OneOf}
use Rattle.packets.specs.declared.Packet.{Packet}
use Rattle.packets.specs.declared.PacketRefusal.{PacketRefusal}
use Rattle.packets.specs.declared.PacketRefusal.TheVariants.{StoreTooShort, OfStore, TooManyBytes}
use Rattle.packets.specs.Calls.{Answered, plain}
use Rattle.packets.specs.Answers.{why_number, says, done_says, grant_says, length_says, report_says}
use Rattle.packets.specs.OneValue.{PacketNumbers, PacketOneValue}

-- ---- numbers
-- a store's own number is at most 8
own_number : (refusal : Refusal) → number_of refusal ≤ 8
own_number refusal = (number_means.in_range refusal).1

none_shared : (why other : PacketRefusal) → why_number why ≡ why_number other → why ≡ other
none_shared StoreTooShort StoreTooShort e = refl
none_shared StoreTooShort (OfStore refusal) e = absurd (omega (arith, own_number refusal, e))
none_shared StoreTooShort TooManyBytes e = absurd (omega (arith, e))
none_shared (OfStore refusal) StoreTooShort e = absurd (omega (arith, own_number refusal, e))
none_shared (OfStore refusal) (OfStore other) e = ap OfStore (number_means.none_shared refusal other e)
none_shared (OfStore refusal) TooManyBytes e = absurd (omega (arith, own_number refusal, e))
none_shared TooManyBytes StoreTooShort e = absurd (omega (arith, e))
none_shared TooManyBytes (OfStore refusal) e = absurd (omega (arith, own_number refusal, e))
none_shared TooManyBytes TooManyBytes e = refl

store's : (why : PacketRefusal) → why_number why ≤ 8 → (refusal : Refusal) × (why ≡ OfStore refusal)
store's StoreTooShort l = absurd (omega (arith, l))
store's (OfStore refusal) l = (refusal, refl)
store's TooManyBytes l = absurd (omega (arith, l))

-- a store's own numbers
own_given : (refusal : Refusal) (n : ℕ) → number_of refusal ≡ n → OneOf (1 ∷ 2 ∷ 3 ∷ 4 ∷ 5 ∷ 6 ∷ 8 ∷ 9 ∷ 17 ∷ []) n
own_given BadCount n e = inl (sym e)
own_given TableTooShort n e = inr (inl (sym e))
own_given NoSpareRecord n e = inr (inr (inl (sym e)))
own_given NoRegion n e = inr (inr (inr (inl (sym e))))
own_given NotLive n e = inr (inr (inr (inr (inl (sym e)))))
own_given Unsound n e = inr (inr (inr (inr (inr (inl (sym e))))))
own_given StartsElsewhere n e = inr (inr (inr (inr (inr (inr (inl (sym e)))))))

given : (n : ℕ) (why : PacketRefusal) → why_number why ≡ n → OneOf (1 ∷ 2 ∷ 3 ∷ 4 ∷ 5 ∷ 6 ∷ 8 ∷ 9 ∷ 17 ∷ []) n
given n StoreTooShort e = inr (inr (inr (inr (inr (inr (inr (inl (sym e))))))))
given n (OfStore refusal) e = own_given refusal n e
given n TooManyBytes e = inr (inr (inr (inr (inr (inr (inr (inr (inl (sym e)))))))))

gives : (n : ℕ) → OneOf (1 ∷ 2 ∷ 3 ∷ 4 ∷ 5 ∷ 6 ∷ 8 ∷ 9 ∷ 17 ∷ []) n → (why : PacketRefusal) × (why_number why ≡ n)
gives n (inl e) = (OfStore BadCount, sym e)
gives n (inr (inl e)) = (OfStore TableTooShort, sym e)
gives n (inr (inr (inl e))) = (OfStore NoSpareRecord, sym e)
gives n (inr (inr (inr (inl e)))) = (OfStore NoRegion, sym e)
gives n (inr (inr (inr (inr (inl e))))) = (OfStore NotLive, sym e)
gives n (inr (inr (inr (inr (inr (inl e)))))) = (OfStore Unsound, sym e)
gives n (inr (inr (inr (inr (inr (inr (inl e))))))) = (OfStore StartsElsewhere, sym e)
gives n (inr (inr (inr (inr (inr (inr (inr (inl e)))))))) = (StoreTooShort, sym e)
gives n (inr (inr (inr (inr (inr (inr (inr (inr (inl e))))))))) = (TooManyBytes, sym e)
gives n (inr (inr (inr (inr (inr (inr (inr (inr (inr x9))))))))) = elim x9 [ ]

never_0 : (why : PacketRefusal) → why_number why ≡ 0 → ⊥
never_0 StoreTooShort e = omega (arith, e)
never_0 (OfStore refusal) e = omega (arith, (number_means.in_range refusal).0, e)
never_0 TooManyBytes e = omega (arith, e)

pub packet_numbers : PacketNumbers
packet_numbers = record {
  none_shared = none_shared;
  nine_means = λ why. (λ e. none_shared why StoreTooShort e, λ e. ap why_number e);
  seventeen_means = λ why. (λ e. none_shared why TooManyBytes e, λ e. ap why_number e);
  store's_means = λ why. (
    λ l. store's why l,
    λ p. let same : why_number why ≡ number_of p.0 = ap why_number p.1 in omega (arith, same, own_number p.0),
  );
  numbers = λ n. (λ p. given n p.0 p.1, λ o. gives n o);
  never_0 = never_0;
  of_refusal = λ why. refl;
  of_packet = λ s o r. refl;
  of_read = λ bytes. refl;
}

-- ---- answers
-- one number, one refusal
same_why : (why other : PacketRefusal) → plain (refused (why_number why)) ≡ plain (refused (why_number other)) → why ≡ other
same_why why other e = none_shared why other (cc)

-- an answer is given by what it says, if what is told is, and tells no refusal
of_said : {T : Type 0} (told : T → Answered) → ((x y : T) → told x ≡ told y → x ≡ y) → ((x : T) (n : ℕ) → told x ≢ plain (refused n))
    → (a b : Result T PacketRefusal) → says told a ≡ says told b → a ≡ b
of_said told one none (Ok x) (Ok y) e = ap Ok (one x y e)
of_said told one none (Ok x) (Err why) e = absurd (none x (why_number why) e)
of_said told one none (Err why) (Ok y) e = absurd (none y (why_number why) (sym e))
of_said told one none (Err why) (Err other) e = ap Err (same_why why other e)

of_done : (a b : Result Unit PacketRefusal) → done_says a ≡ done_says b → a ≡ b
of_done = of_said _ (λ x y e. refl) (λ x n e. clash (cc))

one_packet : (p q : Packet) → grant_says (Ok p) ≡ grant_says (Ok q) → p ≡ q
one_packet p q e =
    let stores : p.store ≡ q.store = cc in
    let offsets : p.span.offset ≡ q.span.offset = cc in
    let records : p.span.metadata.0 ≡ q.span.metadata.0 = cc in
    λ i. record { store = stores i; span = record { offset = offsets i; metadata = record { 0 = records i } } }

one_size : (s t : Size) → length_says (Ok s) ≡ length_says (Ok t) → s ≡ t
one_size s t e = let lengths : s.0 ≡ t.0 = cc in λ i. record { 0 = lengths i }

one_report : (r q : StorageReport) → report_says (Ok r) ≡ report_says (Ok q) → r ≡ q
one_report r q e =
    let totals : r.total_free_space.0 ≡ q.total_free_space.0 = cc in
    let largest : r.largest_free_region.0 ≡ q.largest_free_region.0 = cc in
    λ i. record { total_free_space = record { 0 = totals i }; largest_free_region = record { 0 = largest i } }

pub packet_one_value : PacketOneValue
packet_one_value = record {
  of_done = of_done;
  of_grant = of_said _ one_packet (λ x n e. clash (cc));
  of_length = of_said _ one_size (λ x n e. clash (cc));
  of_report = of_said _ one_report (λ x n e. clash (cc));
}
