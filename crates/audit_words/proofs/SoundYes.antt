-- Sound, so yes: the walks meet the ledger that stands in the words, part by part. Assumes nothing.
use mathlib.Core.Path.{◌≡◌, refl, ap, sym, ◌∙◌, subst}
use mathlib.Core.Bool.{true}
use mathlib.Core.List.{List, [], ◌∷◌}
use Prim.Native.Nat.{ℕ, ◌+◌, ◌≤◌, ◌<◌}
use native.Mathlib.Nat.{zero-add}
use native.Mathlib.Omega.{arith}
use lib.Dec.{ltb, eqb}
use lib.ListN.{length, get_or}
use borrow.Author.Tests.{eqb-true, lt-ltb, eq-eqb}
use Rattle.basics.specs.Sum.{one, is, tally}
use Rattle.basics.proofs.Sums.{one_most, held_first}
use Rattle.basics.proofs.Counts.{In, one_below}
use Rattle.basics.proofs.Pigeons.{sum_below, sum_same}
use Rattle.ledger.specs.Ledger.{Ledger, Region, rec, Stacks}
use Rattle.ledger.specs.Claims.{free_of_class}
use Rattle.ledger.proofs.Records.{all_records}
use Rattle.ledger.proofs.FullReport.{stack_length}
use Rattle.ledger.proofs.ClassCases.{free_of}
use Rattle.tables.specs.Layout.{neighbor_prev, neighbor_next, word}
use Rattle.tables.specs.Words.{Words, Edition, bounds}
use Rattle.tables.specs.Linked.{first, recs, stack_of}
use Rattle.tables.specs.Sound.{Sound}
use Rattle.tables.proofs.Lines.{recs_count, reads_at, Chain}
use Rattle.tables.proofs.Shelf.{in_below, in_some}
use Rattle.tables.proofs.SoundOf.{count_none, line_low, line_some, shelf_of}
use Rattle.tables.proofs.OneLedger.{first_one}
use Rattle.audit_words.specs.Chain.{starts_chain, first_record, started, walk_ends}
use Rattle.audit_words.specs.Audit.{chain_walk, end_is_sound, records_are_sound, pile_is_sound, words_are_sound}
use Rattle.audit_words.proofs.Tests.{both}
use Rattle.audit_words.proofs.Marks.{InOrder, MarkedUpTo, marked_all, all_marked}
use Rattle.audit_words.proofs.FirstRecord.{first_found}
use Rattle.audit_words.proofs.ChainMet.{Stands, Met, walk_meets}
use Rattle.audit_words.proofs.ListsMet.{Lists, lists_end}
use Rattle.audit_words.proofs.BitsMet.{bits_agree_lem}
use Rattle.audit_words.proofs.FreeRegions.{classes_add_up}

module _ (E : Edition) (w : Words) (l : Ledger Stacks) (S : Sound E w l) where
  small : w.count ≤ E.none
  small = count_none E w l S

  -- ---- the pile
  spares_are : stack_of w.pile (w.free_offset + 1) ≡ l.pile
  spares_are = ap (stack_of w.pile) S.spare.spares ∙ S.spare.piled

  pile_in_order : InOrder w.nodes w.pile w.count l.pile
  pile_in_order = record {
    low = λ q m. one_below q w.count (omega (arith, S.well.lined.once q));
    dead = S.spare.dead;
    distinct = λ q. omega (arith, S.well.lined.once q, one_most (ltb q w.count));
  }

  room : w.free_offset + 1 < w.count
  room = omega (arith, S.spare.spares, all_records S.well.lined, S.well.lined.some_region)

  -- ---- the records of the line
  start : ℕ
  start = first (recs l.line) E.none

  -- the first of the line is a record of it with nothing before it
  record Begins (r : ℕ) : Type 0 where
    pub in_line : In r (recs l.line)
    pub nothing_before : word w.nodes neighbor_prev r ≡ E.none

  begins : Begins start
  unfolding start
  begins = go l.line refl
    where
      go : (line : List Region) → l.line ≡ line → Begins (first (recs l.line) E.none)
      go [] e = absurd (omega (arith, S.well.lined.some_region, ap (length {A = Region}) e))
      go (x ∷ line) e =
          let chain = subst (λ (zs : List Region). Chain w.nodes E.none (recs zs) E.none) e S.line.chain in
          let first_is : first (recs l.line) E.none ≡ rec x = ap (λ (zs : List Region). first (recs zs) E.none) e in
          record {
            in_line = rw first_is (subst (λ (zs : List Region). In (rec x) (recs zs)) (sym e) (held_first (rec x) (recs line)));
            nothing_before = ap (word w.nodes neighbor_prev) first_is ∙ chain.0;
          }

  -- ---- behind a pile that is marked
  module _ (marks : List ℕ) (M : MarkedUpTo w.nodes w.pile w.count (w.free_offset + 1) marks) where
    spare_count : (q : ℕ) → q < w.count → get_or marks q 0 ≡ tally (is q) l.pile
    spare_count q h = M.counts q h ∙ ap (tally (is q)) spares_are

    unmarked : (q : ℕ) → In q (recs l.line) → get_or marks q 0 ≡ 0
    unmarked q m =
        let low = line_low E w l S q m in
        omega (arith, spare_count q low, S.well.lined.once q, recs_count q l.line, one_most (ltb q w.count))

    -- only the first of the line starts the chain
    starts : starts_chain E w.nodes marks start ≡ true
    unfolding starts_chain
    starts = rw (eq-eqb _ _ (unmarked start begins.in_line), eq-eqb _ _ begins.nothing_before)

    starts_only : (r : ℕ) → r < w.count → starts_chain E w.nodes marks r ≡ true → r ≡ start
    unfolding starts_chain start
    starts_only r low e =
        let t = both (eqb (get_or marks r 0) 0) _ e in
        let in_line : In r (recs l.line) = omega (
          arith,
          spare_count r low,
          eqb-true (get_or marks r 0) 0 t.0,
          S.well.lined.once r,
          recs_count r l.line,
          ap one (lt-ltb r w.count low),
        ) in
        sym (first_one (word w.nodes neighbor_next) (word w.nodes neighbor_prev) E.none E.none (recs l.line) r
        (line_some E w l S) S.line.chain in_line (eqb-true _ _ t.1))

    found_start : first_record E w.count w.nodes marks 0 ≡ start
    found_start = first_found E w.nodes marks start starts w.count 0 (omega arith)
        (omega (arith, line_low E w l S start begins.in_line)) (λ r a b e. starts_only r (omega arith) e)

    -- ---- the chain
    line_stands : Stands E w.nodes marks w.count w.size small (started E start) l.line
    unfolding start
    line_stands = record {
      reads = S.line.reads;
      chain = S.line.chain;
      start = refl;
      low = line_low E w l S;
      unmarked = unmarked;
      apart = S.well.lined.apart;
      after = λ z. absurd (omega arith);
    }

    met : Met E w.nodes marks w.count w.size small (started E start) l.line (chain_walk E w marks)
    unfolding chain_walk
    met = rw found_start (walk_meets E w.nodes marks w.count w.size small w.count (started E start) l.line
        (omega (arith, all_records S.well.lined)) (omega (arith, S.well.lined.cover)) line_stands)

    chain_ends : walk_ends E w.size w.count w.free_storage (w.free_offset + 1) (chain_walk E w marks) ≡ true
    unfolding walk_ends
    chain_ends =
        let at_size : (chain_walk E w marks).offset ≡ w.size = omega (arith, met.offset_is, S.well.lined.cover) in
        let counted : (chain_walk E w marks).records + (w.free_offset + 1) ≡ w.count =
        omega (arith, met.records_is, all_records S.well.lined, S.spare.spares) in
        let total_is : (chain_walk E w marks).total ≡ w.free_storage = omega (arith, met.total_is, S.total) in
        rw (eq-eqb _ _ met.ends, eq-eqb _ _ at_size, eq-eqb _ _ counted, eq-eqb _ _ total_is)

    -- ---- the lists
    lists_stand : Lists E w.nodes marks w.count small w.bin_indices 256 l.index
    lists_stand c low = record {
      links = S.lists.lists c;
      start = sym (S.lists.tops c low);
      members = λ q m.
          let f = free_of S.well c q m in
          let words = (reads_at w.nodes f.place S.line.reads).1 in
          let below-count = in_below (bounds E w) w l.index l.pile (shelf_of E w l S) c q m in
          record {
            low = below-count;
            unmarked = omega (arith, spare_count q below-count, (shelf_of E w l S).held c q, one_most (ltb q w.count));
            dead = words.2;
            class_is = (shelf_of E w l S).in_lists.class_is c q m;
          };
    }

    free_regions : sum_below 256 (λ c. length (l.index c)) ≡ (chain_walk E w marks).frees
    free_regions =
        sum_same 256 (λ c. length (l.index c)) (λ c. tally (free_of_class c) l.line) (λ c _. stack_length w.size w.count l S.well c)
        ∙ classes_add_up l.line (omega (arith, S.well.lined.cover, S.room.of_head.size_fits, E.fits))
        ∙ omega (arith, met.frees_is)

    records_sound : records_are_sound E w marks ≡ true
    unfolding records_are_sound end_is_sound sum_below
    records_sound = rw (
      chain_ends,
      lists_end E w.nodes marks w.count small w.bin_indices (chain_walk E w marks).frees l.index lists_stand free_regions 256 0 0 refl refl,
    ) (bits_agree_lem E w.bin_indices w.used_bins w.used_bins_top l.index
        (λ c q low m. in_some (bounds E w) w l.index l.pile (shelf_of E w l S) c q m) S.lists.tops
        record { leaves_room = S.room.of_head.leaves_room; leaf_bits = S.bits.leaf_bits; top_bits = S.bits.top_bits })

  pub sound_yes : (clear : List ℕ) → MarkedUpTo w.nodes w.pile w.count 0 clear → words_are_sound E w clear ≡ true
  unfolding words_are_sound pile_is_sound
  sound_yes clear m =
      let upto : 0 + (w.free_offset + 1) ≡ w.free_offset + 1 = zero-add (w.free_offset + 1) in
      let fine = all_marked w.nodes w.pile w.count (w.free_offset + 1) 0 clear m (rw (upto, spares_are) pile_in_order) in
      let marked = rw upto at (marked_all w.nodes w.pile w.count (w.free_offset + 1) 0 clear m fine) in
      rw (lt-ltb _ _ room, fine) (records_sound _ marked)
