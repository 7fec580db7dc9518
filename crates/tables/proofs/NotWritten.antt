-- No call writes a word beyond those that its count of records needs; size, count and lengths stay: on any words. Assumes nothing.
use mathlib.Core.Path.{refl, ◌∙◌}
use mathlib.Core.Bool.{Bool, true, false}
use Prim.Native.Nat.{ℕ, ◌+◌, ◌-◌, ◌≤◌, ◌<◌}
use native.Mathlib.Omega.{arith}
use lib.ListN.{length-set, length-replicate}
use lib.Seq.{get_or-set_other}
use Rattle.basics.specs.Sum.{one}
use Rattle.small_float.specs.Class.{down}
use Rattle.ledger.specs.Ledger.{Answer}
use Rattle.ledger.specs.Calls.{Call, Take, HandBack, Reset, Ask}
use Rattle.tables.specs.Layout.{data_size, bin_prev, bin_next, neighbor_next, used, word, put}
use Rattle.tables.specs.Words.{Words, Edition, Bounds, bounds, with_nodes, with_total}
use Rattle.tables.specs.Steps.{insert_at, insert, unlink_at, unlink, push_pile, pop_pile}
use Rattle.tables.specs.Gate.{gate_of}
use Rattle.tables.specs.Setup.{blank, fresh}
use Rattle.tables.specs.Take.{TakePlan, whole, split, plan_take, granting, splitting, do_take}
use Rattle.tables.specs.HandBack.{BackPlan, merge, Merged, plan_back, drop_if, merging, do_back}
use Rattle.tables.specs.Calls.{behind, answer_words}
use Rattle.tables.specs.Reach.{KeptBeyond}
use Rattle.tables.specs.Guards.{TakeGuards, BackGuards}
use Rattle.tables.proofs.Fields.{length_put}
use Rattle.tables.proofs.Gate.{gate_has_room}
use Rattle.tables.proofs.Guards.{take_guards, back_guards}
use Rattle.tables.proofs.Drops.{drop_off}
use Rattle.tables.proofs.PlanEnds.{gated_ends}
use Rattle.tables.proofs.Untouched.{put_elsewhere, insert_elsewhere, unlink_at_elsewhere, wiped_elsewhere, piled_beyond}
use Rattle.tables.proofs.Untouched.{insert_nodes_length, insert_heads_length, insert_leaves_length}
use Rattle.tables.proofs.Wiped.{length_wiped, length_piled}
use Rattle.tables.proofs.Untouched.{unlink_at_nodes_length, unlink_at_heads_length, unlink_at_leaves_length}

nothing_written : (n : ℕ) (w : Words) → KeptBeyond n w w
nothing_written n w = record {
  size_is = refl;
  count_is = refl;
  heads_length = λ e. e;
  leaves_length = λ e. e;
  nodes_length = refl;
  pile_length = refl;
  nodes_beyond = λ i h. refl;
  pile_beyond = λ i h. refl;
}

-- one step after another
and_then : (n : ℕ) {u v w : Words} → KeptBeyond n u v → KeptBeyond n v w → KeptBeyond n u w
and_then n a b = record {
  size_is = b.size_is ∙ a.size_is;
  count_is = b.count_is ∙ a.count_is;
  heads_length = λ e. b.heads_length (a.heads_length e);
  leaves_length = λ e. b.leaves_length (a.leaves_length e);
  nodes_length = b.nodes_length ∙ a.nodes_length;
  pile_length = b.pile_length ∙ a.pile_length;
  nodes_beyond = λ i h. b.nodes_beyond i h ∙ a.nodes_beyond i h;
  pile_beyond = λ i h. b.pile_beyond i h ∙ a.pile_beyond i h;
}

-- ---- the steps
insert_kept : (K : Bounds) (w : Words) (s o m p x : ℕ) → m < K.n → KeptBeyond K.n w (insert K w s o m p x)
unfolding insert insert_at
insert_kept K w s o m p x l = record {
  size_is = refl;
  count_is = refl;
  heads_length = λ e. insert_heads_length K w s o m p x ∙ e;
  leaves_length = λ e. insert_leaves_length K w s o m p x ∙ e;
  nodes_length = insert_nodes_length K w s o m p x;
  pile_length = refl;
  nodes_beyond = λ i g. insert_elsewhere K w s o m p x i (λ k h. omega arith) (λ h. omega arith) (λ h. omega arith) (λ h. omega arith);
  pile_beyond = λ i g. refl;
}

unlink_at_kept : (K : Bounds) (w : Words) (c p x : ℕ) → KeptBeyond K.n w (unlink_at K w c p x)
unfolding unlink_at
unlink_at_kept K w c p x = record {
  size_is = refl;
  count_is = refl;
  heads_length = λ e. unlink_at_heads_length K w c p x ∙ e;
  leaves_length = λ e. unlink_at_leaves_length K w c p x ∙ e;
  nodes_length = unlink_at_nodes_length K w c p x;
  pile_length = refl;
  nodes_beyond = λ i g. unlink_at_elsewhere K w c p x i (λ h. omega arith) (λ h. omega arith);
  pile_beyond = λ i g. refl;
}

push_pile_kept : (n : ℕ) (w : Words) (r : ℕ) → w.free_offset + 1 < n → KeptBeyond n w (push_pile w r)
unfolding push_pile
push_pile_kept n w r l = record {
  size_is = refl;
  count_is = refl;
  heads_length = λ e. e;
  leaves_length = λ e. e;
  nodes_length = refl;
  pile_length = length-set w.pile (w.free_offset + 1) r;
  nodes_beyond = λ i h. refl;
  pile_beyond = λ i h. get_or-set_other w.pile (w.free_offset + 1) i r 0 (omega arith);
}

pop_pile_kept : (n : ℕ) (w : Words) → KeptBeyond n w (pop_pile w)
unfolding pop_pile
pop_pile_kept n w = record {
  size_is = refl;
  count_is = refl;
  heads_length = λ e. e;
  leaves_length = λ e. e;
  nodes_length = refl;
  pile_length = refl;
  nodes_beyond = λ i h. refl;
  pile_beyond = λ i h. refl;
}

total_kept : (n : ℕ) {w v : Words} (t : ℕ) → KeptBeyond n w v → KeptBeyond n w (with_total v t)
total_kept n t k = record {
  size_is = k.size_is;
  count_is = k.count_is;
  heads_length = k.heads_length;
  leaves_length = k.leaves_length;
  nodes_length = k.nodes_length;
  pile_length = k.pile_length;
  nodes_beyond = k.nodes_beyond;
  pile_beyond = k.pile_beyond;
}

-- ---- take
module _ (K : Bounds) (w : Words) (s c r : ℕ) (r-low : r < K.n) where
  granting_kept : KeptBeyond K.n w (granting K w s c r)
  unfolding granting
  granting_kept = and_then K.n (unlink_at_kept K w c K.none (word w.nodes bin_next r)) marked
    where
      u : Words
      u = unlink_at K w c K.none (word w.nodes bin_next r)

      marked : KeptBeyond K.n u (with_nodes u (put r used 1 (put r data_size s u.nodes)))
      marked = record {
        size_is = refl;
        count_is = refl;
        heads_length = λ e. e;
        leaves_length = λ e. e;
        nodes_length = simp length_put;
        pile_length = refl;
        nodes_beyond = λ i h.
            put_elsewhere r used 1 (put r data_size s u.nodes) i (omega arith) ∙ put_elsewhere r data_size s u.nodes i (omega arith);
        pile_beyond = λ i h. refl;
      }

  splitting_kept : (o rest m : ℕ) → m < K.n → KeptBeyond K.n w (splitting K w s c r o rest m)
  unfolding splitting
  splitting_kept o rest m m_low =
      and_then K.n granting_kept
      (and_then K.n (pop_pile_kept K.n (granting K w s c r))
      (insert_kept K (pop_pile (granting K w s c r)) rest (o + s) m r (word w.nodes neighbor_next r) m_low))

take_written : (E : Edition) (w : Words) (s : ℕ) (p : TakePlan) → TakeGuards w s p → KeptBeyond w.count w (do_take E w s p).1
unfolding do_take
take_written E w s (TakePlan.stop k) g = nothing_written w.count w
take_written E w s (whole c r o) g =
    total_kept w.count (w.free_storage - s) (granting_kept (bounds E w) w s c r g.record_low)
take_written E w s (split c r o rest m) g =
    total_kept w.count (w.free_storage - s) (splitting_kept (bounds E w) w s c r g.0.record_low o rest m g.1.spare_low)

-- ---- hand back
drop_kept : (K : Bounds) (is_free : Bool) (q : ℕ) (w : Words) → w.free_offset + one is_free < K.n → KeptBeyond K.n w (drop_if K is_free q w)
unfolding unlink
drop_kept K true q w l =
    and_then K.n (unlink_at_kept K w (down (word w.nodes data_size q)) (word w.nodes bin_prev q) (word w.nodes bin_next q))
    (push_pile_kept K.n (unlink K w q) q (unfold unlink_at in l))
drop_kept K false q w l = nothing_written K.n w

merging_kept : (K : Bounds) (w : Words) (r p x : ℕ) (p_free x_free : Bool) (m : Merged) → r < K.n
    → w.free_offset + one p_free + one x_free < K.n → KeptBeyond K.n w (merging K w r p x p_free x_free m)
unfolding merging
merging_kept K w r p x p_free x_free m r-low room =
    total_kept K.n m.total
    (and_then K.n (drop_kept K p_free p w (omega arith))
    (and_then K.n (drop_kept K x_free x v (omega (arith, drop_off K p_free p w)))
    (insert_kept K (drop_if K x_free x v) m.length m.start r m.before m.after r-low)))
  where
    v : Words
    v = drop_if K p_free p w

back_written : (E : Edition) (w : Words) (r : ℕ) (p : BackPlan) → BackGuards w r p → KeptBeyond w.count w (do_back E w r p).1
unfolding do_back
back_written E w r (BackPlan.stop k) g = nothing_written w.count w
back_written E w r (merge p x p_free x_free m) g =
    merging_kept (bounds E w) w r p x p_free x_free m g.record_low g.pile_room

-- ---- reset
blank_kept : (E : Edition) (w : Words) → KeptBeyond w.count w (blank E w.size w.count w.nodes w.pile)
unfolding blank
blank_kept E w = record {
  size_is = refl;
  count_is = refl;
  heads_length = λ e. length-replicate 256 E.none;
  leaves_length = λ e. length-replicate {A = ℕ} 32 0;
  nodes_length = length_wiped w.count w.nodes;
  pile_length = length_piled w.count w.count w.pile;
  nodes_beyond = λ i h. wiped_elsewhere w.count w.nodes i (λ r l. omega arith);
  pile_beyond = λ i h. piled_beyond w.count w.count w.pile i h;
}

reset_written : (E : Edition) (w : Words) → 1 ≤ w.count → KeptBeyond w.count w (fresh E w.size w.count w.nodes w.pile)
unfolding fresh pop_pile
reset_written E w l =
    and_then w.count (blank_kept E w)
    (and_then w.count (pop_pile_kept w.count b) (insert_kept (bounds E (pop_pile b)) (pop_pile b) w.size 0 0 E.none E.none l))
  where
    b : Words
    b = blank E w.size w.count w.nodes w.pile

-- ---- every call
behind_written : (E : Edition) (c : Call) (w : Words) → 1 ≤ w.count → KeptBeyond w.count w (behind E c w).1
unfolding behind
behind_written E (Take asked) w l = take_written E w asked.size (plan_take w asked.size) (take_guards w asked.size)
behind_written E (HandBack span) w l = back_written E w span.number (plan_back w span) (back_guards w span)
behind_written E Reset w l = reset_written E w l
behind_written E (Ask q) w l = nothing_written w.count w

pub not_written : (E : Edition) (c : Call) (w : Words) → KeptBeyond w.count w (answer_words E c w).1
unfolding answer_words
not_written E c w =
    gated_ends (λ (x : Answer × Words). KeptBeyond w.count w x.1) (gate_of E w) w (behind E c w) (λ k. nothing_written w.count w)
    (λ e. behind_written E c w (omega (arith, (gate_has_room E w e).count_low)))
