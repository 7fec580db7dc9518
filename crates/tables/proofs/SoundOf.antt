-- Sound words, seen as a shelf and a standing line, and made again from these. Assumes nothing.
use mathlib.Core.Path.{◌≡◌, refl, ap, sym, ◌∙◌, subst}
use mathlib.Core.List.{List, [], ◌∷◌}
use mathlib.Core.Logic.{◌≢◌}
use Prim.Native.Nat.{ℕ, ◌≤◌, ◌<◌}
use native.Mathlib.Omega.{arith}
use lib.ListN.{length}
use Rattle.basics.specs.Sum.{is, tally}
use Rattle.basics.proofs.Sums.{tally_le, held_first}
use Rattle.basics.proofs.Counts.{In, one_below}
use Rattle.small_float.specs.Class.{down, classes_in_use}
use Rattle.small_float.proofs.Rounding.{down_most}
use Rattle.ledger.specs.Ledger.{Ledger, len, free_len, stands, by_class, Stacks}
use Rattle.ledger.specs.WellFormed.{WellFormed, has}
use Rattle.ledger.proofs.Places.{sum_at}
use Rattle.ledger.proofs.KeptStacks.{stands_le}
use Rattle.ledger.proofs.ClassCases.{free_of}
use Rattle.tables.specs.Layout.{data_size, word}
use Rattle.tables.specs.Words.{Words, Edition, bounds, with_total}
use Rattle.tables.specs.Setup.{blank}
use Rattle.tables.specs.Linked.{recs}
use Rattle.tables.specs.Sound.{Sound}
use Rattle.tables.specs.Room.{Room}
use Rattle.tables.proofs.Lines.{recs_count, reads_at}
use Rattle.tables.proofs.Shelf.{Shelf}
use Rattle.tables.proofs.Place.{Standing}

module _ (E : Edition) (w : Words) (l : Ledger Stacks) (S : Sound E w l) where
  pub room_of : Room E w.count (length w.nodes) (length w.pile)
  room_of = S.room.tables

  pub count_none : w.count ≤ E.none
  count_none = omega (arith, S.room.tables.count_high, E.small)

  -- the records of the line are below the count, and so none is taken for an absent one
  pub line_low : (q : ℕ) → In q (recs l.line) → q < w.count
  line_low q h = one_below q w.count (omega (arith, S.well.lined.once q, recs_count q l.line))

  pub line_some : (q : ℕ) → In q (recs l.line) → q ≢ E.none
  line_some q h = omega (arith, line_low q h, count_none)

  -- a stack holds free regions of the line alone
  pub stacks_inside : (c q : ℕ) → tally (is q) (l.index c) ≤ tally (has q) l.line
  stacks_inside c q = omega (arith, S.well.kept.exactly c q, tally_le (stands c q) (has q) (stands_le c q) l.line)

  -- a record in the stack of class c: its words say so, and the class is one of those in use
  class_of : (c q : ℕ) → In q (l.index c) → (down (word w.nodes data_size q) ≡ c) × (c < classes_in_use)
  class_of c q h =
      let f = free_of S.well c q h in
      let length_is = (reads_at w.nodes f.place S.line.reads).1.1 in
      let in_store : f.n ≤ w.size = omega (arith, sum_at f.place len, S.well.lined.cover) in
      (ap down length_is ∙ f.class_is, omega (arith, f.class_is, down_most f.n (omega (arith, S.room.of_head.size_fits, E.fits))))

  pub high_empty : (c : ℕ) → classes_in_use ≤ c → l.index c ≡ []
  high_empty c h = go (l.index c) refl
    where
      go : (xs : List ℕ) → l.index c ≡ xs → l.index c ≡ []
      go [] e = e
      go (q ∷ xs) e = absurd (omega (arith, (class_of c q (rw e (held_first q xs))).1))

  pub shelf_of : Shelf (bounds E w) w l.index l.pile
  shelf_of = record {
    small = count_none;
    nodes_room = S.room.tables.nodes_room;
    held = λ c q. omega (arith, S.well.lined.once q, stacks_inside c q);
    in_lists = record {
      heads_room = S.room.of_head.heads_room;
      class_is = λ c q h. (class_of c q h).0;
      class_low = λ c q h. omega (arith, (class_of c q h).1);
      lists = S.lists.lists;
      tops = S.lists.tops;
    };
    on_pile = record { pile_room = S.room.tables.pile_room; piled = S.spare.piled; spares = S.spare.spares };
    in_bits = record { leaves_room = S.room.of_head.leaves_room; leaf_bits = S.bits.leaf_bits; top_bits = S.bits.top_bits };
  }

  pub standing : Standing (bounds E w) w l.line l.index l.pile
  standing = record { shelf = shelf_of; reads = S.line.reads; chain = S.line.chain; dead = S.spare.dead; once = S.well.lined.once }

-- the words v under what of w's head no take and no hand-back changes
abbrev pub head_kept : Words → Words → Words
head_kept w v = record {
  size = w.size;
  count = w.count;
  free_storage = v.free_storage;
  free_offset = v.free_offset;
  used_bins_top = v.used_bins_top;
  used_bins = v.used_bins;
  bin_indices = v.bin_indices;
  nodes = v.nodes;
  pile = v.pile;
}

-- and what sound words have of it
pub record HeadHolds (E : Edition) (w : Words) : Type 0 where
  pub count_low : 2 ≤ w.count
  pub count_high : w.count ≤ E.limit
  pub size_fits : w.size ≤ E.greatest

pub head_of : {E : Edition} {w : Words} {l : Ledger Stacks} → Sound E w l → HeadHolds E w
head_of S = record {
  count_low = S.room.tables.count_low;
  count_high = S.room.tables.count_high;
  size_fits = S.room.of_head.size_fits;
}

pub head_of_blank : (E : Edition) (size count : ℕ) (nodes pile : List ℕ) → 2 ≤ count → count ≤ E.limit → size ≤ E.greatest
    → HeadHolds E (blank E size count nodes pile)
unfolding blank
head_of_blank E size count nodes pile low high fits = record { count_low = low; count_high = high; size_fits = fits }

-- words under that head, in which a ledger in order stands, are sound with its true total
pub sound_from : (E : Edition) (w v : Words) (total : ℕ) (l : Ledger Stacks) → HeadHolds E w → v ≡ head_kept w v
    → WellFormed by_class w.size w.count l → Standing (bounds E w) v l.line l.index l.pile → total ≡ tally free_len l.line
    → Sound E (with_total v total) l
sound_from E w v total l H kept well st sum = subst (λ (z : Words). Sound E (with_total z total) l) (sym kept) record {
  room = record {
    tables = record {
      count_low = H.count_low;
      count_high = H.count_high;
      nodes_room = st.shelf.nodes_room;
      pile_room = st.shelf.on_pile.pile_room;
    };
    of_head = record {
      size_fits = H.size_fits;
      heads_room = st.shelf.in_lists.heads_room;
      leaves_room = st.shelf.in_bits.leaves_room;
    };
  };
  well = well;
  spare = record { piled = st.shelf.on_pile.piled; spares = st.shelf.on_pile.spares; dead = st.dead };
  line = record { reads = st.reads; chain = st.chain };
  lists = record { lists = st.shelf.in_lists.lists; tops = st.shelf.in_lists.tops };
  bits = record { leaf_bits = st.shelf.in_bits.leaf_bits; top_bits = st.shelf.in_bits.top_bits };
  total = sum;
}
