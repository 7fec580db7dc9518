-- What the two loops of setup leave: every used word 0, and a pile of all the records, 0 on top. Assumes nothing.
use mathlib.Core.Path.{◌≡◌, refl, ap, ap₂, ◌∙◌}
use mathlib.Core.List.{List, ◌∷◌}
use Prim.Native.Nat.{ℕ, zero, suc, ◌-◌, ◌≤◌, ◌<◌}
use native.Mathlib.Omega.{arith}
use lib.ListN.{length, get_or, set, length-set}
use lib.Seq.{get_or-set_same, get_or-set_other}
use Rattle.basics.proofs.Decided.{Same, same, differ, same?}
use Rattle.ledger.specs.Ledger.{numbers_from}
use Rattle.tables.specs.Layout.{used, word, put, nodes_needed}
use Rattle.tables.specs.Setup.{wiped, piled}
use Rattle.tables.specs.Linked.{stack_of}
use Rattle.tables.proofs.Fields.{fits_below, word_put_rec, word_put_same, length_put}

-- ---- every record not live
pub length_wiped : (k : ℕ) (nodes : List ℕ) → length (wiped k nodes) ≡ length nodes
unfolding wiped
length_wiped zero nodes = refl
length_wiped (suc k) nodes = length_put k used 0 (wiped k nodes) ∙ length_wiped k nodes

pub wiped_word : (k : ℕ) (nodes : List ℕ) (q : ℕ) → nodes_needed k ≤ length nodes → q < k → word (wiped k nodes) used q ≡ 0
unfolding wiped
wiped_word zero nodes q room h = absurd (omega arith)
wiped_word (suc k) nodes q room h = go (same? q k) (wiped_word k nodes q (omega arith))
  where
    go : Same q k → (q < k → word (wiped k nodes) used q ≡ 0) → word (put k used 0 (wiped k nodes)) used q ≡ 0
    go (same e _) lower = rw e (word_put_same (wiped k nodes) k used 0 refl
        (fits_below (wiped k nodes) (suc k) k (omega (arith, length_wiped k nodes)) (omega arith)))
    go (differ e _) lower = word_put_rec (wiped k nodes) k used 0 q used refl refl e ∙ lower (omega arith)

-- ---- every record on the pile
pub length_piled : (k n : ℕ) (pile : List ℕ) → length (piled k n pile) ≡ length pile
unfolding piled
length_piled zero n pile = refl
length_piled (suc k) n pile = length-set (piled k n pile) k (n - k - 1) ∙ length_piled k n pile

pub piled_word : (k n : ℕ) (pile : List ℕ) (i : ℕ) → k ≤ length pile → i < k → get_or (piled k n pile) i 0 ≡ n - i - 1
unfolding piled
piled_word zero n pile i room h = absurd (omega arith)
piled_word (suc k) n pile i room h = go (same? i k) (piled_word k n pile i (omega arith))
  where
    go : Same i k → (i < k → get_or (piled k n pile) i 0 ≡ n - i - 1) → get_or (set (piled k n pile) k (n - k - 1)) i 0 ≡ n - i - 1
    go (same e _) lower = rw e (get_or-set_same (piled k n pile) k (n - k - 1) 0 (omega (arith, length_piled k n pile)))
    go (differ e _) lower = get_or-set_other (piled k n pile) k i (n - k - 1) 0 e ∙ lower (omega arith)

-- words that fall by one to the bottom, read as a stack
pub stack_numbers : (n k : ℕ) (pile : List ℕ) → k ≤ n → ((i : ℕ) → i < k → get_or pile i 0 ≡ n - i - 1)
    → stack_of pile k ≡ numbers_from (n - k) k
unfolding numbers_from
stack_numbers n zero pile h f = refl
stack_numbers n (suc k) pile h f =
    let here : n - k - 1 ≡ n - suc k = omega arith in
    let next : n - k ≡ suc (n - suc k) = omega arith in
    ap₂ {C = List ℕ} ◌∷◌ (f k (omega arith) ∙ here)
    (stack_numbers n k pile (omega arith) (λ i l. f i (omega arith)) ∙ ap (λ (r : ℕ). numbers_from r k) next)
