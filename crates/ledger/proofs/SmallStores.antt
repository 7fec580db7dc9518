-- The sentences after document 01's run hold for every count that they speak of. Assumes nothing.
use mathlib.Core.Path.{◌≡◌, refl, ap, ◌∙◌}
use Prim.Native.Nat.{ℕ, ◌-◌, ◌≤◌}
use native.Mathlib.Omega.{arith}
use mathlib.Core.Bool.{true}
use mathlib.Core.List.{List, [], ◌∷◌}
use lib.ListN.{length}
use lib.Dec.{ltb}
use Rattle.basics.proofs.Decided.{below, beyond, below?}
use Rattle.small_float.specs.Class.{down, rounded_up}
use Rattle.ledger.specs.Ledger.{Ledger, live, free, Answer, granted, done, refused, by_class, Stacks}
use Rattle.ledger.specs.Ledger.{on_top, without, lowest_from, numbers_from, setup, take, hand_back}
use Rattle.ledger.specs.Calls.{Token, Call, HandBack, takes, gives_back, span_of, hands_back, answers, answer}
use Rattle.ledger.specs.Claims.{Reached}
use Rattle.ledger.specs.RunToFollow.{Answering, SmallStores}
use Rattle.ledger.proofs.Numbers.{length_numbers_from}
use Rattle.ledger.proofs.Stacks.{on_top_without}
use Rattle.ledger.proofs.Records.{all_records}
use Rattle.ledger.proofs.ByClass.{class_laws}
use Rattle.ledger.proofs.CallsWell.{reached_well}
use Rattle.ledger.proofs.Refusals.{refusal_3}

-- one region and two records leave one spare at most
count_2 : (size s : ℕ) (l : Ledger Stacks) → Reached by_class size 2 l → (take by_class s l).0 ≡ refused 3
count_2 size s l h =
    let w = reached_well by_class class_laws size 2 (omega arith) l h in
    (refusal_3 by_class class_laws size 2 s l w).1 (omega (arith, all_records w.lined, w.lined.some_region))

two_spare : (count : ℕ) → 3 ≤ count → ltb 1 (length (numbers_from 1 (count - 1))) ≡ true
two_spare count h = elim (below? 1 (length (numbers_from 1 (count - 1)))) [
  | below k e ↦ e
  | beyond k e ↦ absurd (omega (arith, length_numbers_from (count - 1) 1))
]

grants_16 : (count : ℕ) → 3 ≤ count → Answering 17 count (takes 16 ∷ []) (granted 0 0 ∷ [])
unfolding answer answers setup rounded_up on_top without lowest_from
grants_16 count h = rw (two_spare count h)

refuses_17 : (count : ℕ) → 3 ≤ count → Answering 17 count (takes 17 ∷ []) (refused 4 ∷ [])
unfolding answer answers setup rounded_up on_top without lowest_from
refuses_17 count h = rw (two_spare count h)

-- ---- a store of 0
-- a run call by call
answers_take : (size count s : ℕ) (cs : List Call) (l : Ledger Stacks) (a : Answer × Ledger Stacks) → take by_class s l ≡ a
    → answers (answer by_class size count) (takes s ∷ cs) l ≡ a.0 ∷ answers (answer by_class size count) cs a.1
unfolding answer answers on_top without lowest_from
answers_take size count s cs l a e = ap (λ x. x.0 ∷ answers (answer by_class size count) cs x.1) e

answers_hand_back : (size count : ℕ) (span : Token) (cs : List Call) (l : Ledger Stacks) (a : Answer × Ledger Stacks) → hands_back by_class span l ≡ a
    → answers (answer by_class size count) (HandBack span ∷ cs) l ≡ a.0 ∷ answers (answer by_class size count) cs a.1
unfolding answer answers on_top without lowest_from
answers_hand_back size count span cs l a e = ap (λ x. x.0 ∷ answers (answer by_class size count) cs x.1) e

-- its one region, free or live, with any spare records
zero_free : List ℕ → Ledger Stacks
zero_free pile = record { line = free 0 0 ∷ []; index = on_top (down 0) 0 (λ c. []); pile = pile }

zero_live : List ℕ → Ledger Stacks
zero_live pile = record { line = live 0 0 ∷ []; index = without (down 0) 0 (on_top (down 0) 0 (λ c. [])); pile = pile }

grants_0 : (pile : List ℕ) → ltb 1 (length pile) ≡ true → take by_class 0 (zero_free pile) ≡ (granted 0 0, zero_live pile)
unfolding zero_free zero_live take rounded_up on_top without lowest_from
grants_0 pile two = rw two

refuses_0 : (pile : List ℕ) → ltb 1 (length pile) ≡ true → take by_class 0 (zero_live pile) ≡ (refused 4, zero_live pile)
unfolding zero_live take rounded_up on_top without lowest_from
refuses_0 pile two = rw two

returns-0 : (pile : List ℕ) → hands_back by_class (span_of 0 0) (zero_live pile) ≡ (done, zero_free pile)
unfolding zero_free zero_live hand_back down on_top without lowest_from
returns-0 pile =
    let restored = on_top_without (down 0) 0 (on_top (down 0) 0 (λ c. [])) [] refl in
    λ i. (done, record { line = free 0 0 ∷ []; index = restored i; pile = pile })

store_of_0 : (count : ℕ) → 3 ≤ count
    → Answering 0 count (takes 0 ∷ takes 0 ∷ gives_back 0 0 ∷ takes 0 ∷ []) (granted 0 0 ∷ refused 4 ∷ done ∷ granted 0 0 ∷ [])
unfolding answer setup zero_free answers on_top without lowest_from
store_of_0 count h =
    let pile = numbers_from 1 (count - 1) in
    let two = two_spare count h in
    let take_again = answers_take 0 count 0 [] (zero_free pile) _ (grants_0 pile two) in
    let return-it = answers_hand_back 0 count (span_of 0 0) (takes 0 ∷ []) (zero_live pile) _ (returns-0 pile) in
    let take-another = answers_take 0 count 0 (gives_back 0 0 ∷ takes 0 ∷ []) (zero_live pile) _ (refuses_0 pile two) in
    let take-one = answers_take 0 count 0 (takes 0 ∷ gives_back 0 0 ∷ takes 0 ∷ []) (zero_free pile) _ (grants_0 pile two) in
    take-one ∙ ap (λ rest. granted 0 0 ∷ rest) (take-another ∙ ap (λ rest. refused 4 ∷ rest) (return-it ∙ ap (λ rest. done ∷ rest) take_again))

pub small_stores : SmallStores
small_stores = record { count_2 = count_2; grants_16 = grants_16; refuses_17 = refuses_17; store_of_0 = store_of_0 }
