-- A hand-back on sound words answers as the ledger, and leaves words that stand for the ledger after it. Assumes nothing.
use mathlib.Core.Path.{◌≡◌, refl, ap, ◌∙◌, subst}
use mathlib.Core.Bool.{Bool, true, false}
use mathlib.Core.List.{List, [], ◌∷◌, ◌++◌, reverse, reverse_aux-eq}
use Prim.Native.Nat.{ℕ, ◌+◌, ◌≤◌, ◌<◌}
use native.Mathlib.Nat.{zero-add}
use native.Mathlib.Omega.{arith}
use lib.ListN.{length-append}
use borrow.Author.Tests.{lt-ltb, le-ltb, eq-eqb, ne_eqb}
use Rattle.basics.specs.Sum.{one, is, tally}
use Rattle.basics.proofs.Sums.{tally_le, tally_reverse_aux}
use Rattle.small_float.proofs.Rounding.{down_most}
use Rattle.ledger.specs.Ledger.{Ledger, Region, live, free, len, free_len, stands, Answer, done, by_class, Stacks}
use Rattle.ledger.specs.Ledger.{merge, Side, beside}
use Rattle.ledger.specs.Calls.{Token, HandBack, hands_back, answer}
use Rattle.ledger.specs.WellFormed.{WellFormed, has}
use Rattle.ledger.proofs.Places.{Between, sum_at}
use Rattle.ledger.proofs.KeptStacks.{stands_le, side_stands}
use Rattle.ledger.proofs.Records.{all_records}
use Rattle.ledger.proofs.Cases.{LiveCase, is_live_case, is_elsewhere, not_live, live_case}
use Rattle.ledger.proofs.CallsWell.{keeps_well}
use Rattle.ledger.proofs.Outcomes.{call_case}
use Rattle.basics.proofs.Clash.{clash}
use Rattle.ledger.proofs.ByClass.{class_laws}
use Rattle.tables.specs.Layout.{neighbor_prev, neighbor_next, word}
use Rattle.tables.specs.Words.{Words, Edition, bounds}
use Rattle.tables.specs.Steps.{insert_at, insert, unlink_at, unlink, push_pile}
use Rattle.tables.specs.HandBack.{Merged, BackPlan, stop, merged_of, plan_merged, plan_back, drop_if, merging, do_back}
use Rattle.tables.specs.Linked.{first, recs, Reads}
use Rattle.tables.specs.Sound.{Sound}
use Rattle.tables.proofs.Linked.{last, linked_split}
use Rattle.tables.proofs.Lines.{recs_append, Chain, reads_at}
use Rattle.tables.proofs.Place.{Standing, Gap, placed}
use Rattle.tables.proofs.SoundOf.{standing, head_kept, head_of, sound_from}
use Rattle.tables.proofs.SizeSound.{known_idle, known_live, known_start}
use Rattle.tables.proofs.Sides.{opens, one_owed, SideBefore, side_before, SideAfter, side_after}

free_most : (x : Region) → free_len x ≤ len x
free_most (live n r) = omega arith
free_most (free n r) = omega arith

-- what a side loses to the region is free
side_free : (side : List Region) (stacks : Stacks)
    → tally free_len side ≡ tally free_len (beside by_class side stacks).rest + (beside by_class side stacks).added
unfolding beside
side_free [] stacks = refl
side_free (live n r ∷ rest) stacks = omega arith
side_free (free n r ∷ rest) stacks = omega arith

module _ (E : Edition) (w : Words) (l : Ledger Stacks) (S : Sound E w l) (span : Token) where
  abbrev r : ℕ
  r = span.number

  module _ (n : ℕ) (before after : List Region) (place : Between before (live n r) after l.line) where
    -- ---- the two sides
    reads : Reads w.nodes 0 (reverse before) × Reads w.nodes (0 + tally len (reverse before)) (live n r ∷ after)
    reads = reads_at w.nodes place S.line.reads

    st : Standing (bounds E w) w (reverse before ++ live n r ∷ after) l.index l.pile
    st = subst (λ (line : List Region). Standing (bounds E w) w line l.index l.pile)
        (place.line_is ∙ reverse_aux-eq before (live n r ∷ after)) (standing E w l S)

    chain : Chain w.nodes E.none (recs (reverse before)) r
        × Chain w.nodes (last E.none (recs (reverse before))) (r ∷ recs after) E.none
    chain = linked_split (word w.nodes neighbor_next) (word w.nodes neighbor_prev) E.none (recs (reverse before)) (r ∷ recs after) E.none
        (rw (recs_append (reverse before) (live n r ∷ after)) at st.chain)

    -- what the stacks hold is what stands on the two sides
    held : (d q : ℕ) → tally (is q) (l.index d) ≡ tally (stands d q) before + tally (stands d q) after
    held d q = omega (arith, S.well.kept.exactly d q, sum_at place (stands d q))

    in_reverse : (q : ℕ) → tally (has q) (reverse before) ≡ tally (has q) before + 0
    in_reverse q = tally_reverse_aux (has q) before []

    own_gap : Gap (bounds E w) w (reverse before) after l.index l.pile r n
    own_gap = record {
      shelf = st.shelf;
      reads_before = reads.0;
      reads_after = subst (λ (o : ℕ). Reads w.nodes (o + n) after) (zero-add (tally len (reverse before))) reads.1.3;
      a = r;
      b = r;
      chain_before = chain.0;
      chain_after = chain.1.2;
      dead = st.dead;
      once = λ q. omega (arith, S.well.lined.once q, sum_at place (has q), in_reverse q);
      inside = λ d q. omega (
        arith,
        held d q,
        in_reverse q,
        tally_le (stands d q) (has q) (stands_le d q) before,
        tally_le (stands d q) (has q) (stands_le d q) after,
      );
    }

    -- the two sides as the ledger reads them, and the neighbours
    abbrev b_side : Side Stacks
    b_side = beside by_class before l.index

    abbrev a_side : Side Stacks
    a_side = beside by_class after b_side.index

    abbrev p : ℕ
    p = last E.none (recs (reverse before))

    abbrev x : ℕ
    x = first (recs after) E.none

    B : SideBefore E w r n before after b_side l.pile p
    B = side_before E w r n before after l.index l.pile own_gap (λ d q. omega (arith, held d q)) (omega (arith, reads.1.0))

    abbrev v : Words
    v = drop_if (bounds E w) (opens before) p w

    A : SideAfter E w r n v (reverse b_side.rest) after a_side (b_side.owed ++ l.pile) (b_side.added + n) x
    A = side_after E w r n v (reverse b_side.rest) after (0 + tally len (reverse before) + n)
        b_side.index (b_side.owed ++ l.pile)
        (b_side.added + n) B.gap_is
        (λ d q. omega (arith, held d q, side_stands l.index before (λ c i. omega (arith, held c i)) d q)) reads.1.3 chain.1.2

    -- ---- so the plan finds what the ledger says of the merged region
    abbrev whole : ℕ
    whole = b_side.added + n + a_side.added

    abbrev merged : Merged
    merged = record {
      length = whole;
      start = tally len (reverse b_side.rest);
      before = last E.none (recs (reverse b_side.rest));
      after = first (recs a_side.rest) E.none;
      total = w.free_storage + n;
    }

    merged_is : merged_of w r p x (opens before) (opens after) ≡ merged
    unfolding merged_of
    merged_is = λ i. record {
      length = B.length_is i + reads.1.1 i + A.length_is i;
      start = B.start_is i;
      before = B.link_is i;
      after = A.link_is i;
      total = w.free_storage + reads.1.1 i;
    }

    module _ (starts : tally len before ≡ span.offset) (outcome : hands_back by_class span l ≡ (done, merge by_class before n r after l)) where
      next_well : WellFormed by_class w.size w.count (merge by_class before n r after l)
      next_well = subst (λ (a : Answer × Ledger Stacks). WellFormed by_class w.size w.count a.1) outcome
          (unfold answer in keeps_well by_class class_laws w.size w.count l S.well
          (call_case by_class class_laws w.size w.count S.well (HandBack span)) (λ e. clash (cc)))

      -- its numbers are within their limits, the ledger after it being in order
      next_sum : (f : Region → ℕ)
          → tally f (merge by_class before n r after l).line ≡ tally f b_side.rest + (f (free whole r) + tally f a_side.rest)
      unfolding merge
      next_sum f = tally_reverse_aux f b_side.rest (free whole r ∷ a_side.rest)

      total_is : w.free_storage + n ≡ tally free_len (merge by_class before n r after l).line
      total_is = omega (arith, S.total, sum_at place free_len, next_sum free_len, side_free before l.index, side_free after b_side.index)

      whole_most : whole ≤ w.size
      whole_most = omega (arith, next_well.lined.cover, next_sum len)

      total_most : w.free_storage + n ≤ w.size
      total_most = omega (arith, next_well.lined.cover, total_is, tally_le free_len len free_most (merge by_class before n r after l).line)

      off_below : w.free_offset + one (opens before) + one (opens after) < w.count
      off_below = unfold merge in omega (
        arith,
        S.spare.spares,
        all_records next_well.lined,
        next_well.lined.some_region,
        length-append a_side.owed (b_side.owed ++ l.pile),
        length-append b_side.owed l.pile,
        one_owed before l.index,
        one_owed after b_side.index,
      )

      plan_is : plan_back w span ≡ BackPlan.merge p x (opens before) (opens after) merged
      plan_is = read ∙ ap (plan_merged w p x (opens before) (opens after)) merged_is ∙ passed
        where
          read : plan_back w span ≡ plan_merged w p x (opens before) (opens after) (merged_of w r p x (opens before) (opens after))
          read = unfold plan_back in rw (
            known_live E w l S r place,
            known_start E w l S r place,
            eq-eqb (tally len before) span.offset starts,
            chain.1.0,
            chain.1.1,
            B.free_is,
            A.free_is,
          )

          passed : plan_merged w p x (opens before) (opens after) merged ≡ BackPlan.merge p x (opens before) (opens after) merged
          passed = unfold plan_merged in rw (
            le-ltb w.size whole whole_most,
            le-ltb w.size (w.free_storage + n) total_most,
            lt-ltb (w.free_offset + one (opens before) + one (opens after)) w.count off_below,
          )

      -- ---- and the words after it stand for the ledger after it
      drop_kept : (t : Bool) (q : ℕ) (u : Words) → drop_if (bounds E w) t q u ≡ head_kept u (drop_if (bounds E w) t q u)
      unfolding push_pile unlink unlink_at
      drop_kept true q u = refl
      drop_kept false q u = refl

      abbrev u : Words
      u = drop_if (bounds E w) (opens after) x v

      u_kept : u ≡ head_kept w u
      u_kept = drop_kept (opens after) x v ∙ ap (λ (z : Words). head_kept z u) (drop_kept (opens before) p w)

      abbrev z : Words
      z = insert (bounds E w) u whole merged.start r merged.before merged.after

      z_kept : z ≡ head_kept w z
      unfolding insert insert_at
      z_kept = ap (λ (y : Words). head_kept y z) u_kept

      merging_sound : Sound E (merging (bounds E w) w r p x (opens before) (opens after) merged) (merge by_class before n r after l)
      unfolding merging merge
      merging_sound = sound_from E w z (w.free_storage + n) (merge by_class before n r after l) (head_of S) z_kept next_well
          (rw (reverse_aux-eq b_side.rest (free whole r ∷ a_side.rest))
          (placed (bounds E w) u (reverse b_side.rest) a_side.rest a_side.index
          (a_side.owed ++ (b_side.owed ++ l.pile))
          r whole merged.start merged.before merged.after A.gap_is
          (omega (arith, down_most whole (omega (arith, whole_most, S.room.of_head.size_fits, E.fits)))) refl refl refl))
          total_is

  -- ---- the call
  pub back_sound : ((do_back E w r (plan_back w span)).0 ≡ (hands_back by_class span l).0)
      × Sound E (do_back E w r (plan_back w span)).1 (hands_back by_class span l).1
  unfolding do_back
  back_sound = go (live_case by_class S.well span.offset r)
    where
      go : LiveCase by_class span.offset r l
          → ((do_back E w r (plan_back w span)).0 ≡ (hands_back by_class span l).0) × Sound E (do_back E w r (plan_back w span)).1 (hands_back by_class span l).1
      go (is_live_case n before after place p e q) = rw (plan_is n before after place p e, e) (refl, merging_sound n before after place p e)
      go (is_elsewhere n before after place p e q) =
          let astray : plan_back w span ≡ stop 8
          = unfold plan_back in rw (known_live E w l S r place, known_start E w l S r place, ne_eqb (tally len before) span.offset p) in
          rw (astray, e) (refl, S)
      go (not_live h e q) = let idle : plan_back w span ≡ stop 5 = unfold plan_back in rw (known_idle E w l S r h) in rw (idle, e) (refl, S)
