-- A list that goes on for more steps than there are records ends the full report with 6, and nothing else does. Assumes nothing.
use mathlib.Core.Path.{◌≡◌, refl, ap, ◌∙◌}
use mathlib.Core.Logic.{◌↔◌, ◌≢◌}
use mathlib.Core.List.{List}
use Prim.Native.Nat.{ℕ, zero, suc, ◌+◌, ◌≤◌, ◌<◌}
use native.Mathlib.Omega.{arith}
use lib.ListN.{length, get_or, set, replicate}
use borrow.Author.Tests.{lt-ltb}
use Rattle.basics.proofs.Clash.{clash}
use Rattle.basics.proofs.Decided.{Below, below, beyond, below?}
use Rattle.ledger.specs.Ledger.{Answer, refused}
use Rattle.ledger.specs.Calls.{FullReport, Ask}
use Rattle.tables.specs.Layout.{bin_next, word}
use Rattle.tables.specs.Words.{Words, Edition}
use Rattle.tables.specs.Questions.{Walked, steps, lost, list_length, Counts, counts, circular, noted, count_from, full_answer, full_report_of, told_by}
use Rattle.tables.specs.Calls.{behind, answer_words}
use Rattle.tables.specs.Room.{Room}
use Rattle.tables.specs.Claims.{along, Circular}
use Rattle.tables.proofs.Gate.{call_open}

-- the walk that meets a record at every step is lost
walk_lost : (fuel : ℕ) (nodes : List ℕ) (count a n : ℕ) → ((k : ℕ) → k ≤ fuel → along nodes a k < count)
    → list_length fuel nodes count a n ≡ lost
unfolding list_length along
walk_lost zero nodes count a n h = rw (lt-ltb a count (h 0 (omega arith)))
walk_lost (suc fuel) nodes count a n h =
    rw (lt-ltb a count (h 0 (omega arith))) (walk_lost fuel nodes count (word nodes bin_next a) (n + 1) (λ k l. h (suc k) (omega arith)))

-- one class whose walk is lost, among the k classes from b on
module _ (w : Words) (c : ℕ) (around : list_length w.count w.nodes w.count (get_or w.bin_indices c 0) 0 ≡ lost) where
  counting_ends : (k b : ℕ) (so_far : List ℕ) → b ≤ c → c < b + k → count_from k w b so_far ≡ circular
  unfolding count_from noted
  counting_ends zero b so_far l h = absurd (omega arith)
  counting_ends (suc k) b so_far l h =
      go (list_length w.count w.nodes w.count (get_or w.bin_indices b 0) 0) refl (counting_ends k (suc b))
    where
      go : (x : Walked) → list_length w.count w.nodes w.count (get_or w.bin_indices b 0) 0 ≡ x
          → ((next : List ℕ) → suc b ≤ c → c < suc b + k → count_from k w (suc b) next ≡ circular)
          → noted x (count_from k w (suc b)) b so_far ≡ circular
      go lost e later = refl
      go (steps n) e later = later (set so_far b n) (omega (arith, not_here)) (omega arith)
        where
          not_here : b ≢ c
          not_here q = let z : ◌≡◌ {A = ℕ} 0 1 = cc in omega arith

pub circular_6 : (E : Edition) (w : Words) (c : ℕ) → c < 256 → Circular w c → Room E w.count (length w.nodes) (length w.pile)
    → (answer_words E (Ask FullReport) w).0 ≡ refused 6
unfolding behind
circular_6 E w c l h room =
    ap (λ (o : Answer × Words). o.0) (call_open E (Ask FullReport) w room)
    ∙ (unfold told_by full_report_of full_answer in ap full_answer (counting_ends w c around 256 0 (replicate 256 0) (omega arith) (omega arith)))
  where
    around : list_length w.count w.nodes w.count (get_or w.bin_indices c 0) 0 ≡ lost
    around = walk_lost w.count w.nodes w.count (get_or w.bin_indices c 0) 0 h

-- ---- and nothing else ends it so
-- a walk that is lost met a record at every step
lost_walks : (fuel : ℕ) (nodes : List ℕ) (count a n : ℕ) → list_length fuel nodes count a n ≡ lost
    → (k : ℕ) → k ≤ fuel → along nodes a k < count
unfolding list_length along
lost_walks zero nodes count a n e k l = go k l (below? a count)
  where
    go : (j : ℕ) → j ≤ 0 → Below a count → along nodes a j < count
    go zero h (below m t) = m
    go zero h (beyond m t) = let z : steps n ≡ lost = rw t at e in clash (cc)
    go (suc j) h x = absurd (omega arith)
lost_walks (suc fuel) nodes count a n e k l = go k l (below? a count) (lost_walks fuel nodes count (word nodes bin_next a) (n + 1))
  where
    go : (j : ℕ) → j ≤ suc fuel → Below a count
        → (list_length fuel nodes count (word nodes bin_next a) (n + 1) ≡ lost
        → (i : ℕ) → i ≤ fuel → along nodes (word nodes bin_next a) i < count)
        → along nodes a j < count
    go j h (beyond m t) onward = let z : steps n ≡ lost = rw t at e in clash (cc)
    go zero h (below m t) onward = m
    go (suc j) h (below m t) onward = onward (rw t at e) j (omega arith)

-- a full report without figures has a class whose walk is lost
lost_among : (w : Words) (k b : ℕ) (so_far : List ℕ) → count_from k w b so_far ≡ circular
    → (c : ℕ) × (c < b + k) × (list_length w.count w.nodes w.count (get_or w.bin_indices c 0) 0 ≡ lost)
unfolding count_from noted
lost_among w zero b so_far e = clash (cc)
lost_among w (suc k) b so_far e =
    go (list_length w.count w.nodes w.count (get_or w.bin_indices b 0) 0) refl e (lost_among w k (suc b))
  where
    go : (x : Walked) → list_length w.count w.nodes w.count (get_or w.bin_indices b 0) 0 ≡ x
        → noted x (count_from k w (suc b)) b so_far ≡ circular
        → ((next : List ℕ) → count_from k w (suc b) next ≡ circular
        → (c : ℕ) × (c < suc b + k) × (list_length w.count w.nodes w.count (get_or w.bin_indices c 0) 0 ≡ lost))
        → (c : ℕ) × (c < b + suc k) × (list_length w.count w.nodes w.count (get_or w.bin_indices c 0) 0 ≡ lost)
    go lost f q later = (b, omega arith, f)
    go (steps n) f q later = let found = later (set so_far b n) q in (found.0, omega (arith, found.1), found.2)

told_circular : (x : Counts) → full_answer x ≡ refused 6 → x ≡ circular
unfolding full_answer
told_circular (counts l) e = clash (cc)
told_circular circular e = refl

pub circular_exactly : (E : Edition) (w : Words) → Room E w.count (length w.nodes) (length w.pile)
    → ((answer_words E (Ask FullReport) w).0 ≡ refused 6) ↔ ((c : ℕ) × (c < 256) × Circular w c)
circular_exactly E w room = (λ e. tells (rw (opens) at e), λ x. circular_6 E w x.0 x.1 x.2 room)
  where
    opens : (answer_words E (Ask FullReport) w).0 ≡ full_answer (count_from 256 w 0 (replicate 256 0))
    opens = unfold behind told_by full_report_of in ap (λ (o : Answer × Words). o.0) (call_open E (Ask FullReport) w room)

    tells : full_answer (count_from 256 w 0 (replicate 256 0)) ≡ refused 6 → (c : ℕ) × (c < 256) × Circular w c
    tells e =
        let found = lost_among w 256 0 (replicate 256 0) (told_circular (count_from 256 w 0 (replicate 256 0)) e) in
        (found.0, omega (arith, found.1), lost_walks w.count w.nodes w.count (get_or w.bin_indices found.0 0) 0 found.2)
