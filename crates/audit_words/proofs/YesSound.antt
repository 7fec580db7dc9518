-- Yes, so sound: what the walks met is a ledger, and it stands in the words. Assumes nothing.
use mathlib.Core.Path.{◌≡◌, refl, ap, sym, ◌∙◌}
use mathlib.Core.Bool.{true}
use mathlib.Core.List.{List, [], ◌∷◌, ◌++◌}
use Prim.Native.Nat.{ℕ, zero, suc, ◌+◌, ◌≤◌, ◌<◌}
use native.Mathlib.Nat.{zero-add}
use native.Mathlib.Omega.{arith}
use lib.Dec.{ltb, eqb}
use lib.ListN.{length, get_or, length-append}
use borrow.Author.Tests.{ltb-true, eqb-true, lt-ltb}
use Rattle.basics.specs.Sum.{one, is, tally}
use Rattle.basics.proofs.Decided.{below, beyond, below?}
use Rattle.basics.proofs.Sums.{tally_append, below_zero}
use Rattle.basics.proofs.Counts.{In, Distinct}
use Rattle.basics.proofs.Pigeons.{AllBelow, within_whole}
use Rattle.ledger.specs.Ledger.{Ledger, Region, len, numbers_from, stands, Stacks}
use Rattle.ledger.specs.WellFormed.{has}
use Rattle.ledger.proofs.Numbers.{tally_numbers_from, length_numbers_from}
use Rattle.tables.specs.Layout.{bin_prev, bin_next, neighbor_prev, neighbor_next, word}
use Rattle.tables.specs.Words.{Words, Edition}
use Rattle.tables.specs.Linked.{Linked, recs, stack_of}
use Rattle.tables.specs.Sound.{Sound}
use Rattle.tables.specs.Room.{Room, OfHead}
use Rattle.tables.proofs.Lines.{recs_count}
use Rattle.tables.proofs.Bits.{Bits}
use Rattle.audit_words.specs.declared.Walk.{Walk}
use Rattle.audit_words.specs.Spares.{mark_from}
use Rattle.audit_words.specs.Chain.{first_record, started, walk_from, walk_ends}
use Rattle.audit_words.specs.Lists.{lists_from}
use Rattle.audit_words.specs.Bits.{bits_agree}
use Rattle.audit_words.specs.Audit.{chain_walk, end_is_sound, records_are_sound, pile_is_sound, words_are_sound}
use Rattle.audit_words.proofs.Tests.{both}
use Rattle.audit_words.proofs.NoRepeats.{linked_distinct}
use Rattle.audit_words.proofs.Marks.{MarkedUpTo, marked_all, length_stack_of}
use Rattle.audit_words.proofs.ChainMet.{Found, walk_found}
use Rattle.audit_words.proofs.ListsMet.{SoFar, none_yet, lists_found}
use Rattle.audit_words.proofs.BitsMet.{bits_met}
use Rattle.audit_words.proofs.FreeRegions.{standing_free, exactly_free, none_high}

pub length_recs : (line : List Region) → length (recs line) ≡ length line
length_recs [] = refl
length_recs (x ∷ line) = ap suc (length_recs line)

tally_below : (q n : ℕ) → tally (is q) (numbers_from 0 n) ≡ one (ltb q n)
tally_below q n = omega (arith, tally_numbers_from q n 0, below_zero q, ap (λ (m : ℕ). one (ltb q m)) (zero-add n))

module _ (E : Edition) (w : Words) (R : Room E w.count (length w.nodes) (length w.pile)) (H : OfHead E w) where
  small : w.count ≤ E.none
  small = omega (arith, R.count_high, E.small)

  -- ---- what the tests have found, taken together
  record AllMet (marks : List ℕ) : Type 0 where
    pub room : w.free_offset + 1 < w.count
    pub marked : MarkedUpTo w.nodes w.pile w.count (w.free_offset + 1) marks
    pub first : ℕ
    pub end : Walk
    pub found : Found E w.nodes marks w.count w.size small (started E first) end
    pub at_size : end.offset ≡ w.size
    pub counted : end.records + (w.free_offset + 1) ≡ w.count
    pub total_is : end.total ≡ w.free_storage
    pub lists : SoFar E w.nodes marks w.count small w.bin_indices 256 end.frees
    pub bits : bits_agree E w.bin_indices w.used_bins w.used_bins_top ≡ true

  module _ (marks : List ℕ) (A : AllMet marks) where
    spares : List ℕ
    spares = stack_of w.pile (w.free_offset + 1)

    line : List Region
    line = A.found.line

    stacks : ℕ → List ℕ
    stacks = A.lists.stacks

    -- ---- every record below the count once, in the line or on the pile
    line_low : (q : ℕ) → In q (recs line) → q < w.count
    unfolding line
    line_low q m = A.found.stands.low q m

    not_spare : (q : ℕ) → q < w.count → get_or marks q 0 ≡ 0 → tally (is q) spares ≡ 0
    unfolding spares
    not_spare q l e = sym (A.marked.counts q l) ∙ e

    line_distinct : Distinct (recs line)
    unfolding line
    line_distinct = linked_distinct (word w.nodes neighbor_next) (word w.nodes neighbor_prev) E.none (recs A.found.line) E.none
        (λ q m. let l = A.found.stands.low q m in omega (arith, small)) A.found.stands.chain

    spare_low : (q : ℕ) → In q spares → q < w.count
    unfolding spares
    spare_low q m = A.marked.in_order.low q m

    all_low : AllBelow w.count (numbers_from 0 w.count)
    all_low q m = Rattle.basics.proofs.Counts.one_below q w.count (omega (arith, tally_below q w.count))

    at_most_once : (q : ℕ) → tally (is q) (recs line ++ spares) ≤ tally (is q) (numbers_from 0 w.count)
    unfolding spares line
    at_most_once q = go (tally (is q) (recs line)) refl (tally (is q) spares) refl
      where
        numbers : q < w.count → tally (is q) (numbers_from 0 w.count) ≡ 1
        numbers l = tally_below q w.count ∙ ap one (lt-ltb q w.count l)

        go : (n : ℕ) → tally (is q) (recs line) ≡ n → (m : ℕ) → tally (is q) spares ≡ m
            → tally (is q) (recs line ++ spares) ≤ tally (is q) (numbers_from 0 w.count)
        go zero e zero f = omega (arith, tally_append (is q) (recs line) spares)
        go zero e (suc m) f = omega (
          arith,
          tally_append (is q) (recs line) spares,
          A.marked.in_order.distinct q,
          numbers (spare_low q (omega arith)),
        )
        go (suc n) e m f =
            let l = line_low q (omega arith) in
            omega (
              arith,
              tally_append (is q) (recs line) spares,
              line_distinct q,
              not_spare q l (A.found.stands.unmarked q (omega arith)),
              numbers l,
            )

    spares_length : length spares ≡ w.free_offset + 1
    unfolding spares
    spares_length = length_stack_of w.pile (w.free_offset + 1)

    line_length : length (recs line) + (w.free_offset + 1) ≡ w.count
    unfolding line
    line_length = omega (arith, length_recs line, A.found.met.records_is, A.counted)

    once : (q : ℕ) → tally (has q) line + tally (is q) spares ≡ one (ltb q w.count)
    once q = omega (
      arith,
      recs_count q line,
      tally_append (is q) (recs line) spares,
      within_whole w.count (recs line ++ spares) (numbers_from 0 w.count) all_low at_most_once
          (length-append (recs line) spares ∙ omega (arith, spares_length, line_length, length_numbers_from w.count 0)) q,
      tally_below q w.count,
    )

    -- ---- the lists hold exactly the free regions of their class
    cover : tally len line ≡ w.size
    unfolding line
    cover = omega (arith, A.found.met.offset_is, A.at_size)

    list_distinct : (c : ℕ) → c < 256 → Distinct (stacks c)
    unfolding stacks
    list_distinct c l = linked_distinct (word w.nodes bin_next) (word w.nodes bin_prev) E.none (stacks c) E.none
        (λ q m. let h = ((A.lists.runs c l).members q m).low in omega (arith, small)) (A.lists.runs c l).links

    in_class : (c : ℕ) → c < 256 → (q : ℕ) → tally (is q) (stacks c) ≤ tally (stands c q) line
    unfolding stacks line
    in_class c l q = go (tally (is q) (stacks c)) refl
      where
        go : (n : ℕ) → tally (is q) (stacks c) ≡ n → tally (is q) (stacks c) ≤ tally (stands c q) line
        go zero e = omega arith
        go (suc n) e =
            let m = (A.lists.runs c l).members q (omega arith) in
            let in_line : In q (recs line) = omega (
              arith,
              once q,
              recs_count q line,
              not_spare q m.low m.unmarked,
              ap one (lt-ltb q w.count m.low),
            ) in
            omega (
              arith,
              list_distinct c l q,
              standing_free w.nodes 0 line A.found.stands.reads c q in_line m.dead m.class_is,
            )

    exactly : (c q : ℕ) → tally (is q) (stacks c) ≡ tally (stands c q) line
    unfolding stacks line
    exactly c q = elim (below? c 256) [
      | below l t ↦ exactly_free w.count line stacks (omega (arith, cover, H.size_fits, E.fits)) line_low in_class
          (A.lists.sum_is ∙ omega (arith, A.found.met.frees_is)) c l q
      | beyond l t ↦ ap (λ (xs : List ℕ). tally (is q) xs) (A.lists.beyond c l)
          ∙ sym (none_high line (omega (arith, cover, H.size_fits, E.fits)) c q l)
    ]

    the_bits : Bits w.used_bins w.used_bins_top stacks
    unfolding stacks
    the_bits = bits_met E w.bin_indices w.used_bins w.used_bins_top stacks
        (λ c q l m e. omega (arith, ((A.lists.runs c l).members q m).low, small))
        (λ c l. sym (A.lists.runs c l).start) H.leaves_room A.bits

    list_links : (c : ℕ) → Linked (word w.nodes bin_next) (word w.nodes bin_prev) E.none (stacks c) E.none
    unfolding stacks
    list_links c = elim (below? c 256) [ below l t ↦ (A.lists.runs c l).links | beyond l t ↦ rw (A.lists.beyond c l) tt ]

    met_sound : Sound E w record { line = line; index = stacks; pile = spares }
    unfolding line stacks spares
    met_sound = record {
      room = record { tables = R; of_head = H };
      well = record {
        lined = record {
          cover = cover;
          apart = A.found.stands.apart;
          once = once;
          spare = omega (arith, spares_length);
          some_region = omega (arith, line_length, length_recs line, A.room);
        };
        kept = record { exactly = exactly };
      };
      spare = record { piled = ap (stack_of w.pile) spares_length; spares = sym spares_length; dead = A.marked.in_order.dead };
      line = record { reads = A.found.stands.reads; chain = A.found.stands.chain };
      lists = record { lists = list_links; tops = λ c l. sym (A.lists.runs c l).start };
      bits = record { leaf_bits = the_bits.leaf_bits; top_bits = the_bits.top_bits };
      total = sym A.total_is ∙ omega (arith, A.found.met.total_is);
    }

  -- ---- the tests say so
  all_met : (marks : List ℕ) → w.free_offset + 1 < w.count → MarkedUpTo w.nodes w.pile w.count (w.free_offset + 1) marks
      → records_are_sound E w marks ≡ true → AllMet marks
  unfolding records_are_sound end_is_sound chain_walk walk_ends
  all_met marks room m e =
      let first = first_record E w.count w.nodes marks 0 in
      let end = walk_from w.count w.nodes marks w.count w.size (started E first) in
      let t2 = both _ (bits_agree E w.bin_indices w.used_bins w.used_bins_top) e in
      let t1 = both _ (lists_from E 256 w.nodes marks w.bin_indices w.count end.frees 0 0) t2.0 in
      let a3 = both _ (eqb end.total w.free_storage) t1.0 in
      let a2 = both _ (eqb (end.records + (w.free_offset + 1)) w.count) a3.0 in
      let a1 = both (eqb end.here E.none) (eqb end.offset w.size) a2.0 in
      record {
        room = room;
        marked = m;
        first = first;
        end = end;
        found = walk_found E w.nodes marks w.count w.size small w.count (started E first) (eqb-true _ _ a1.0);
        at_size = eqb-true _ _ a1.1;
        counted = eqb-true _ _ a2.1;
        total_is = eqb-true _ _ a3.1;
        lists = lists_found E w.nodes marks w.count small w.bin_indices end.frees 256 0 0
            (none_yet E w.nodes marks w.count small w.bin_indices) t1.1;
        bits = t2.1;
      }

  pub yes_sound : (clear : List ℕ) → MarkedUpTo w.nodes w.pile w.count 0 clear → words_are_sound E w clear ≡ true
      → (l : Ledger Stacks) × Sound E w l
  unfolding words_are_sound pile_is_sound
  yes_sound clear m e =
      let t1 = both (ltb (w.free_offset + 1) w.count) _ e in
      let all = mark_from (w.free_offset + 1) w.nodes w.pile w.count 0 clear in
      let t2 = both all.fine _ t1.1 in
      let marked = rw (zero-add (w.free_offset + 1)) at (marked_all w.nodes w.pile w.count (w.free_offset + 1) 0 clear m t2.0) in
      (_, met_sound all.marks (all_met all.marks (ltb-true _ _ t1.0) marked t2.1))
