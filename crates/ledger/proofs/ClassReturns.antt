-- A hand-back by classes: the merged region on top of its class, the records of its neighbours out of their stacks. Assumes nothing.
use mathlib.Core.Path.{◌≡◌, refl, sym, ap, ◌∙◌}
use Prim.Native.Nat.{ℕ, ◌+◌, ◌≤◌}
use native.Mathlib.Omega.{arith}
use mathlib.Core.Bool.{cond}
use mathlib.Core.Logic.{◌≢◌}
use mathlib.Core.List.{List, [], ◌∷◌, ◌++◌, map}
use lib.Dec.{eqb}
use Rattle.basics.specs.Sum.{one, is, tally}
use Rattle.basics.proofs.Decided.{Same, same, differ, same?, eqb_same, Below, below, beyond, below?}
use Rattle.basics.proofs.Counts.{Match, hit, miss, match?, is_own}
use Rattle.basics.proofs.Sums.{tally_le, tally_append, one_most, both_first}
use Rattle.small_float.specs.Class.{down}
use Rattle.ledger.specs.Ledger.{Ledger, Stacks, by_class, Side, Region, live, free, len, rec, done}
use Rattle.ledger.specs.Ledger.{on_top, remove, without, stands, beside, merge}
use Rattle.ledger.specs.Calls.{span_of, hands_back}
use Rattle.ledger.specs.WellFormed.{WellFormed, has}
use Rattle.ledger.specs.Spans.{At}
use Rattle.ledger.specs.Claims.{lacking, ClassReturn}
use Rattle.ledger.proofs.Places.{Between, sum_at}
use Rattle.ledger.proofs.Records.{once_in_line}
use Rattle.ledger.proofs.KeptLine.{side_has}
use Rattle.ledger.proofs.KeptStacks.{stands_le, side_stands}
use Rattle.ledger.proofs.Cases.{held}
use Rattle.ledger.proofs.Returns.{merged, return_of}

-- ---- a stack without records
lacking_nothing : (stack : List ℕ) → lacking [] stack ≡ stack
unfolding lacking
lacking_nothing [] = refl
lacking_nothing (x ∷ stack) = ap {B = List ℕ} (λ xs. x ∷ xs) (lacking_nothing stack)

lacking_goes : (gone : List ℕ) (x : ℕ) (stack : List ℕ) → 1 ≤ tally (is x) gone → lacking gone (x ∷ stack) ≡ lacking gone stack
unfolding lacking
lacking_goes gone x stack h = elim (below? 0 (tally (is x) gone)) [ below k e ↦ rw e | beyond k e ↦ absurd (omega arith) ]

lacking_stays : (gone : List ℕ) (x : ℕ) (stack : List ℕ) → tally (is x) gone ≡ 0 → lacking gone (x ∷ stack) ≡ x ∷ lacking gone stack
unfolding lacking
lacking_stays gone x stack h = elim (below? 0 (tally (is x) gone)) [ below k e ↦ absurd (omega arith) | beyond k e ↦ rw e ]

lacking_absent : (q : ℕ) (stack : List ℕ) → tally (is q) stack ≡ 0 → lacking (q ∷ []) stack ≡ stack
unfolding lacking
lacking_absent q [] h = refl
lacking_absent q (x ∷ stack) h = go (match? x q) (lacking_absent q stack)
  where
    go : Match x q → (tally (is q) stack ≡ 0 → lacking (q ∷ []) stack ≡ stack) → lacking (q ∷ []) (x ∷ stack) ≡ x ∷ stack
    go (hit p e) further = absurd (omega (arith, ap (is q) p, is_own q))
    go (miss p e) further =
        lacking_stays (q ∷ []) x stack (omega arith) ∙ ap {B = List ℕ} (λ xs. x ∷ xs) (further (omega arith))

lacking_one : (q : ℕ) (stack : List ℕ) → tally (is q) stack ≤ 1 → lacking (q ∷ []) stack ≡ remove q stack
unfolding lacking remove
lacking_one q [] h = refl
lacking_one q (x ∷ stack) h = go (same? x q) (match? x q) (lacking_one q stack)
  where
    go : Same x q → Match x q → (tally (is q) stack ≤ 1 → lacking (q ∷ []) stack ≡ remove q stack)
        → lacking (q ∷ []) (x ∷ stack) ≡ cond (eqb x q) stack (x ∷ remove q stack)
    go (same p e) (hit f k) further = rw e
        (lacking_goes (q ∷ []) x stack (omega arith) ∙ lacking_absent q stack (omega (arith, ap one e)))
    go (same p e) (miss f k) further = absurd (f p)
    go (differ p e) (hit f k) further = absurd (p f)
    go (differ p e) (miss f k) further = rw e
        (lacking_stays (q ∷ []) x stack (omega arith) ∙ ap {B = List ℕ} (λ xs. x ∷ xs) (further (omega arith)))

lacking_both : (some others stack : List ℕ) → lacking others (lacking some stack) ≡ lacking (some ++ others) stack
unfolding lacking
lacking_both some others [] = refl
lacking_both some others (x ∷ stack) = go (below? 0 (tally (is x) some)) (below? 0 (tally (is x) others)) (lacking_both some others stack)
  where
    sum : tally (is x) (some ++ others) ≡ tally (is x) some + tally (is x) others
    sum = tally_append (is x) some others

    go : Below 0 (tally (is x) some) → Below 0 (tally (is x) others) → lacking others (lacking some stack) ≡ lacking (some ++ others) stack
        → lacking others (lacking some (x ∷ stack)) ≡ lacking (some ++ others) (x ∷ stack)
    go (below h e) b further =
        ap (lacking others) (lacking_goes some x stack h) ∙ further
        ∙ sym (lacking_goes (some ++ others) x stack (omega (arith, sum)))
    go (beyond h e) (below k f) further =
        ap (lacking others) (lacking_stays some x stack (omega arith)) ∙ lacking_goes others x (lacking some stack) k
        ∙ further ∙ sym (lacking_goes (some ++ others) x stack (omega (arith, sum)))
    go (beyond h e) (beyond k f) further =
        ap (lacking others) (lacking_stays some x stack (omega arith)) ∙ lacking_stays others x (lacking some stack) (omega arith)
        ∙ ap {B = List ℕ} (λ xs. x ∷ xs) further
        ∙ sym (lacking_stays (some ++ others) x stack (omega (arith, sum)))

-- a record that leaves the stack of its class, where it stands once, and no other holds it
without_is : (c q : ℕ) (stacks : Stacks) (d : ℕ) → tally (is q) (stacks d) ≤ one (eqb d c) → without c q stacks d ≡ lacking (q ∷ []) (stacks d)
unfolding without
without_is c q stacks d h = go (same? d c)
  where
    go : Same d c → cond (eqb d c) (remove q (stacks d)) (stacks d) ≡ lacking (q ∷ []) (stacks d)
    go (same p e) = rw e (sym (lacking_one q (stacks d) (omega (arith, one_most (eqb d c)))))
    go (differ p e) = rw e (sym (lacking_absent q (stacks d) (omega (arith, ap one e))))

-- ---- one side: its free neighbour leaves the stacks
side_lacks : (side others : List Region) (stacks : Stacks)
    → ((c i : ℕ) → tally (is i) (stacks c) ≡ tally (stands c i) side + tally (stands c i) others)
    → ((i : ℕ) → tally (has i) side + tally (has i) others ≤ 1)
    → (d : ℕ) → (beside by_class side stacks).index d ≡ lacking (map rec (merged side)) (stacks d)
unfolding beside merged
side_lacks [] others stacks exactly once d = sym (lacking_nothing (stacks d))
side_lacks (live n r ∷ rest) others stacks exactly once d = sym (lacking_nothing (stacks d))
side_lacks (free n r ∷ rest) others stacks exactly once d = without_is (down n) r stacks d (omega (
  arith,
  exactly d r,
  once r,
  ap one (eqb_same r),
  both_first (eqb d (down n)) (eqb r r),
  tally_le (stands d r) (has r) (stands_le d r) rest,
  tally_le (stands d r) (has r) (stands_le d r) others,
))

module _ (size count : ℕ) where
  class_return_of : {before after : List Region} {n r o : ℕ} (l : Ledger Stacks) → WellFormed by_class size count l
      → Between before (live n r) after l.line → tally len before ≡ o → hands_back by_class (span_of o r) l ≡ (done, merge by_class before n r after l)
      → ClassReturn n r o l
  unfolding return_of merge on_top
  class_return_of {before} {after} {n} {r} {o} l w b g e = record {
    returned = return_of by_class size count l w b g e;
    gone = map rec (merged before) ++ map rec (merged after);
    gone_are = refl;
    on_top_lem = ap (λ a. a.1.index (down whole)) e ∙ rw (eqb_same (down whole)) (ap {B = List ℕ} (λ xs. r ∷ xs) (left (down whole)));
    elsewhere = λ c h. ap (λ a. a.1.index c) e ∙ not_there c h (same? c (down whole));
  }
    where
      b_side : Side Stacks
      b_side = beside by_class before l.index

      a_side : Side Stacks
      a_side = beside by_class after b_side.index

      whole : ℕ
      whole = b_side.added + n + a_side.added

      -- what the stacks hold is what stands on the two sides
      held : (c i : ℕ) → tally (is i) (l.index c) ≡ tally (stands c i) before + tally (stands c i) after
      held c i = omega (arith, w.kept.exactly c i, sum_at b (stands c i))

      once : (i : ℕ) → tally (has i) before + tally (has i) after ≤ 1
      once i = omega (arith, once_in_line w.lined i, sum_at b (has i))

      left : (c : ℕ) → a_side.index c ≡ lacking (map rec (merged before) ++ map rec (merged after)) (l.index c)
      left c =
          side_lacks after b_side.rest b_side.index
          (λ d i. omega (arith, held d i, side_stands l.index before (λ k j. omega (arith, held k j)) d i))
          (λ i. omega (arith, once i, side_has by_class i before l.index)) c
          ∙ ap (lacking (map rec (merged after))) (side_lacks before after l.index held once c)
          ∙ lacking_both (map rec (merged before)) (map rec (merged after)) (l.index c)

      not_there : (c : ℕ) → c ≢ down whole → Same c (down whole)
          → cond (eqb c (down whole)) (r ∷ a_side.index c) (a_side.index c)
          ≡ lacking (map rec (merged before) ++ map rec (merged after)) (l.index c)
      not_there c h (same p k) = absurd (h p)
      not_there c h (differ p k) = rw k (left c)

  pub class_return : (n r o : ℕ) (l : Ledger Stacks) → WellFormed by_class size count l → At (live n r) o l.line → ClassReturn n r o l
  class_return n r o l w a = let t = held by_class w a in class_return_of l w t.place t.place_is t.outcome
