-- What an accepted setup writes, whatever its tables held: record 0 is the one region, every record is not live, and the pile runs from the last
-- record down to 0. Assumes nothing.
use mathlib.Core.Path.{◌≡◌, refl, sym, ap, subst, ◌∙◌}
use mathlib.Core.Logic.{inl, inr}
use mathlib.Core.List.{List, [], ◌∷◌}
use Prim.Native.Nat.{ℕ, zero, suc, ◌+◌, ◌*◌, ◌-◌, ◌/◌, ◌%◌, ◌<◌}
use native.Mathlib.Omega.{arith}
use lib.ListN.{get_or}
use borrow.Author.Tests.{lt-ltb, ne_eqb}
use Rattle.basics.specs.Sum.{one}
use Rattle.basics.proofs.Decided.{Same, same, differ, same?, eqb_same}
use Rattle.small_float.specs.Class.{down}
use Rattle.ledger.specs.Ledger.{Answer, setup, by_class, on_top, done}
use Rattle.tables.specs.Layout.{bin_prev, bin_next, used, word, nodes_needed}
use Rattle.tables.specs.Words.{Words, Edition}
use Rattle.tables.specs.Steps.{insert, insert_at, pop_pile}
use Rattle.tables.specs.Setup.{Lent, blank, fresh, setup_words}
use Rattle.tables.specs.Linked.{Linked}
use Rattle.tables.specs.Sound.{Sound}
use Rattle.tables.specs.Reach.{Written}
use Rattle.tables.proofs.Refusals.{setup_done, setup_opens}
use Rattle.tables.proofs.Wiped.{piled_word}
use Rattle.tables.proofs.SetupSound.{setup_sound}

-- the seven words of record 0; beyond them what is written is a used word, 0
unfoldable value_at : Edition → (size i : ℕ) → ℕ
value_at E size zero = 0
value_at E size (suc zero) = size
value_at E size (suc (suc zero)) = E.none
value_at E size (suc (suc (suc zero))) = E.none
value_at E size (suc (suc (suc (suc zero)))) = E.none
value_at E size (suc (suc (suc (suc (suc zero))))) = E.none
value_at E size (suc (suc (suc (suc (suc (suc i)))))) = 0

setup_count : (E : Edition) (size count : ℕ) (lent : Lent) → (setup_words E size count lent).0 ≡ done → (setup_words E size count lent).1.count ≡ count
setup_count E size count lent p =
    ap (λ (o : Answer × Words). o.1.count) (setup_opens E size count lent ((setup_done E size count lent).0 p).0 ((setup_done E size count lent).0 p).1)
    ∙ unfold fresh insert insert_at pop_pile blank in refl

module _ (E : Edition) (size count : ℕ) (w : Words) (counted : w.count ≡ count) (S : Sound E w (setup by_class size count)) where
  own_class : on_top (down size) 0 (λ c. []) (down size) ≡ 0 ∷ []
  unfolding on_top
  own_class = rw (eqb_same (down size))

  listed : Linked (word w.nodes bin_next) (word w.nodes bin_prev) E.none (0 ∷ []) E.none
  unfolding setup
  listed = subst (λ (xs : List ℕ). Linked (word w.nodes bin_next) (word w.nodes bin_prev) E.none xs E.none) own_class (S.lists.lists (down size))

  marks : (r : ℕ) → r < count → word w.nodes used r ≡ 0
  unfolding setup
  marks r l = go (same? r 0)
    where
      go : Same r 0 → word w.nodes used r ≡ 0
      go (same e t) = rw e S.line.reads.2
      go (differ e t) = S.spare.dead r (omega (
        arith,
        S.well.lined.once r,
        ap one (lt-ltb r w.count (omega (arith, counted))),
        ap one (ne_eqb 0 r (λ q. e (sym q))),
      ))

  first_seven : (i : ℕ) → i < 7 → get_or w.nodes i 0 ≡ value_at E size i
  unfolding word setup value_at
  first_seven zero l = S.line.reads.0
  first_seven (suc zero) l = S.line.reads.1
  first_seven (suc (suc zero)) l = listed.0
  first_seven (suc (suc (suc zero))) l = listed.1
  first_seven (suc (suc (suc (suc zero)))) l = S.line.chain.0
  first_seven (suc (suc (suc (suc (suc zero))))) l = S.line.chain.1
  first_seven (suc (suc (suc (suc (suc (suc zero)))))) l = S.line.reads.2
  first_seven (suc (suc (suc (suc (suc (suc (suc i))))))) l = absurd (omega arith)

  marked : (i : ℕ) → i < nodes_needed count → i % 8 ≡ used → get_or w.nodes i 0 ≡ 0
  unfolding word
  marked i l e =
      let place : i ≡ 8 * (i / 8) + used = omega arith in
      ap (λ (j : ℕ). get_or w.nodes j 0) place ∙ marks (i / 8) (omega arith)

-- of two setups alike, each on tables of its own, every word that was written is the same
pub setup_fixed : (E : Edition) (size count : ℕ) (a b : Lent)
    → (setup_words E size count a).0 ≡ done → (setup_words E size count b).0 ≡ done → (i : ℕ) → Written count i
    → get_or (setup_words E size count a).1.nodes i 0 ≡ get_or (setup_words E size count b).1.nodes i 0
setup_fixed E size count a b p q i = go
  where
    v : Words
    v = (setup_words E size count a).1

    u : Words
    u = (setup_words E size count b).1

    go : Written count i → get_or v.nodes i 0 ≡ get_or u.nodes i 0
    go (inl l) =
        first_seven E size count v (setup_count E size count a p) (setup_sound E size count a p) i l
        ∙ sym (first_seven E size count u (setup_count E size count b q) (setup_sound E size count b q) i l)
    go (inr h) =
        marked E size count v (setup_count E size count a p) (setup_sound E size count a p) i h.0 h.1
        ∙ sym (marked E size count u (setup_count E size count b q) (setup_sound E size count b q) i h.0 h.1)

-- and so is every word of the pile
pub setup_pile_fixed : (E : Edition) (size count : ℕ) (lent : Lent) → (setup_words E size count lent).0 ≡ done → (i : ℕ) → i < count
    → get_or (setup_words E size count lent).1.pile i 0 ≡ count - i - 1
setup_pile_fixed E size count lent p i l =
    let room = (setup_done E size count lent).0 p in
    ap (λ (o : Answer × Words). get_or o.1.pile i 0) (setup_opens E size count lent room.0 room.1)
    ∙ unfold fresh insert insert_at pop_pile blank in piled_word count count lent.pile i room.1.pile_room l
