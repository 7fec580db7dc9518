-- Setup and reset: whatever the words held, what they leave is sound and stands for the ledger's setup. Assumes nothing.
use mathlib.Core.Path.{◌≡◌, refl, ap, sym, ◌∙◌, subst}
use mathlib.Core.List.{List, [], ◌∷◌}
use Prim.Native.Nat.{ℕ, suc, ◌+◌, ◌-◌, ◌≤◌}
use native.Mathlib.Omega.{arith}
use lib.Dec.{ltb}
use lib.ListN.{length, get_or, replicate, length-replicate, get_or-replicate}
use Rattle.basics.specs.Sum.{one, is, tally}
use Rattle.basics.proofs.Counts.{one_below}
use Rattle.small_float.proofs.Rounding.{down_most}
use Rattle.ledger.specs.Ledger.{done, numbers_from, setup, by_class}
use Rattle.ledger.specs.Calls.{Reset}
use Rattle.ledger.proofs.Numbers.{length_numbers_from}
use Rattle.ledger.proofs.CallsWell.{setup_well}
use Rattle.ledger.proofs.ByClass.{class_laws}
use Rattle.tables.specs.Words.{Words, Edition, Bounds}
use Rattle.tables.specs.Steps.{insert_at, insert, pop_pile}
use Rattle.tables.specs.Setup.{Lent, piled, blank, fresh, setup_words}
use Rattle.tables.specs.Calls.{behind, answer_words}
use Rattle.tables.specs.Linked.{stack_of, mask, non_zero}
use Rattle.tables.specs.Sound.{Sound}
use Rattle.tables.specs.Room.{Room}
use Rattle.tables.proofs.Gate.{call_open}
use Rattle.tables.proofs.Masks.{mask_same, non_zero_zero}
use Rattle.tables.proofs.Shelf.{Shelf}
use Rattle.tables.proofs.Steps.{pop_shelf}
use Rattle.tables.proofs.Refusals.{setup_done, setup_opens}
use Rattle.tables.proofs.Wiped.{length_wiped, wiped_word, length_piled, piled_word, stack_numbers}
use Rattle.tables.proofs.Place.{Gap, placed}
use Rattle.tables.proofs.SoundOf.{head_of_blank, sound_from}

-- ---- the fresh words
module _ (E : Edition) (size count : ℕ) (nodes pile : List ℕ) (size_fits : size ≤ E.greatest) (R : Room E count (length nodes) (length pile)) where
  abbrev K : Bounds
  K = record { n = count; none = E.none }

  abbrev others : List ℕ
  others = numbers_from 1 (count - 1)

  all_numbers : numbers_from 0 count ≡ 0 ∷ others
  all_numbers =
      let one_more : count ≡ suc (count - 1) = omega (arith, R.count_low) in
      ap (numbers_from 0) one_more ∙ unfold numbers_from in refl

  -- each number below the count is 0 or one of the others
  once : (q : ℕ) → is q 0 + tally (is q) others ≡ one (ltb q count)
  once q = unfold setup in omega (arith, (setup_well by_class class_laws size count R.count_low).lined.once q)

  blank_shelf : Shelf K (blank E size count nodes pile) (λ c. []) (0 ∷ others)
  unfolding blank
  blank_shelf = record {
    small = omega (arith, R.count_high, E.small);
    nodes_room = rw (length_wiped count nodes) R.nodes_room;
    held = λ c q. omega (arith, once q);
    in_lists = record {
      heads_room = length-replicate 256 E.none;
      class_is = λ c q h. absurd (omega arith);
      class_low = λ c q h. absurd (omega arith);
      lists = λ c. tt;
      tops = λ c l. get_or-replicate 256 c E.none 0 l;
    };
    on_pile = record {
      pile_room = rw (length_piled count count pile) R.pile_room;
      piled = subst (λ (xs : List ℕ). stack_of (piled count count pile) (length xs) ≡ xs) all_numbers
          (ap (stack_of (piled count count pile)) (length_numbers_from count 0)
          ∙ stack_numbers count count (piled count count pile) (omega arith) (λ i l. piled_word count count pile i R.pile_room l)
          ∙ ap (λ (r : ℕ). numbers_from r count) none_left);
      spares = rw (length_numbers_from (count - 1) 1) (omega (arith, R.count_low));
    };
    in_bits = record {
      leaves_room = length-replicate {A = ℕ} 32 0;
      leaf_bits = λ t l. get_or-replicate {A = ℕ} 32 t 0 0 l ∙ unfold mask in refl;
      top_bits = sym (mask_same 32 (λ t. non_zero (get_or (replicate {A = ℕ} 32 0) t 0)) (λ t. 0)
          (λ t l. ap non_zero (get_or-replicate {A = ℕ} 32 t 0 0 l) ∙ non_zero_zero) ∙ unfold mask in refl);
    };
  }
    where
      none_left : count - count ≡ 0
      none_left = omega arith

  fresh_gap : Gap K (pop_pile (blank E size count nodes pile)) [] [] (λ c. []) others 0 size
  unfolding blank pop_pile
  fresh_gap = record {
    shelf = pop_shelf K (blank E size count nodes pile) (λ c. []) 0 others (omega (arith, length_numbers_from (count - 1) 1, R.count_low)) blank_shelf;
    reads_before = tt;
    reads_after = tt;
    a = 0;
    b = 0;
    chain_before = tt;
    chain_after = tt;
    dead = λ q h. wiped_word count nodes q R.nodes_room (one_below q count (omega (arith, once q)));
    once = λ q. omega (arith, once q);
    inside = λ d q. omega arith;
  }

  fresh_sound : Sound E (fresh E size count nodes pile) (setup by_class size count)
  unfolding fresh setup pop_pile insert insert_at
  fresh_sound = sound_from E (blank E size count nodes pile) (fresh E size count nodes pile) size (setup by_class size count)
      (head_of_blank E size count nodes pile R.count_low R.count_high size_fits) refl (setup_well by_class class_laws size count R.count_low)
      (placed K (pop_pile (blank E size count nodes pile)) [] [] (λ c. []) others 0 size 0 E.none E.none fresh_gap
      (omega (arith, down_most size (omega (arith, E.fits)))) refl refl refl)
      (omega arith)

-- ---- the calls
module _ (E : Edition) where
  pub setup_sound : (size count : ℕ) (lent : Lent) → (setup_words E size count lent).0 ≡ done
      → Sound E (setup_words E size count lent).1 (setup by_class size count)
  setup_sound size count lent e =
      let room = (setup_done E size count lent).0 e in
      rw (setup_opens E size count lent room.0 room.1) (fresh_sound E size count lent.nodes lent.pile room.0 room.1)

  pub reset_sound : (w : Words) → w.size ≤ E.greatest → Room E w.count (length w.nodes) (length w.pile)
      → ((answer_words E Reset w).0 ≡ done) × Sound E (answer_words E Reset w).1 (setup by_class w.size w.count)
  unfolding behind
  reset_sound w small R = rw (call_open E Reset w R) (refl, fresh_sound E w.size w.count w.nodes w.pile small R)
