-- A setup begins bare, accepted or refused. Assumes nothing.
use mathlib.Core.Path.{◌≡◌, refl, sym, ap, subst, ◌∙◌}
use mathlib.Core.Logic.{◌⊎◌, inl, inr}
use mathlib.Core.Bool.{Bool, true, false, ◌||◌}
use Prim.Native.Nat.{ℕ, zero, suc}
use lib.ListN.{length}
use Rattle.ledger.specs.Ledger.{Answer, done, refused}
use Rattle.tables.specs.Words.{Words, Edition}
use Rattle.tables.specs.Setup.{Lent, setup_words}
use Rattle.tables.proofs.Gate.{SetupCase, count_bad, too_large, table_short, accepted, setup_case}
use Rattle.tables.proofs.Claims as tables
use Rattle.packets.specs.declared.Store.{Store}
use Rattle.packets.specs.declared.Store.TheVariants.{OnChip, External}
use Rattle.packets.specs.Stores.{Kept, Two, two, at, put, other}
use Rattle.packets.specs.OneStore.{lent_in, no_store_yet, set_up_in}
use Rattle.packets.specs.Calls.{Answered, plain, shorter, either_shorter, nine, on, neither, refused_by, gate_in, set_up_words, set_up_both_words}
use Rattle.packets.specs.Promise.{PacketSetup, PacketSetupBoth}
use Rattle.packets.proofs.Setups.{at_put}
use Rattle.packets.specs.Claims.{Bare, no_store, just_set_up, AllBare}

-- the setup below is accepted or refused
setup_ends : (E : Edition) (size count : ℕ) (lent : Lent)
    → ((setup_words E size count lent).0 ≡ done) ⊎ ((k : ℕ) × ((setup_words E size count lent).0 ≡ refused k))
setup_ends E size count lent = go (setup_case E size count (length lent.nodes) (length lent.pile))
  where
    go : SetupCase E size count (length lent.nodes) (length lent.pile)
        → ((setup_words E size count lent).0 ≡ done) ⊎ ((k : ℕ) × ((setup_words E size count lent).0 ≡ refused k))
    go (count_bad b e) = inr (1, ((tables.claims E).setup_1 size count lent).1 b)
    go (too_large b e) = inr (10, ((tables.claims E).setup_10 size count lent).1 b)
    go (table_short f b e) = inr (2, ((tables.claims E).setup_2 size count lent).1 (f, b))
    go (accepted f b e) = inl (((tables.claims E).setup_done size count lent).1 (f, b))

none_bare : {E : Edition} (k m : Kept) → k ≡ no_store_yet m → Bare E k
none_bare k m e = no_store (ap (λ (x : Kept). x.words.count) e) (ap (λ (x : Kept). x.words.size) e)

module _ (E : Edition) where
  -- ---- of one store
  pub set_up_bare : {s : Store} {size count : ℕ} {t u : Two} {a : Answered} → PacketSetup E s size count t u a → Bare E (at s u)
  set_up_bare {s} {size} {count} {t} {u} {a} p =
      by_length (shorter size (at s t) || shorter (at (other s) t).words.size (at (other s) t)) refl
    where
      none_left : u ≡ put s (no_store_yet (at s t)) t → Bare E (at s u)
      none_left e = none_bare (at s u) (at s t) (ap (λ (x : Two). at s x) e ∙ at_put s (no_store_yet (at s t)) t)

      by_length : (short : Bool) → (shorter size (at s t) || shorter (at (other s) t).words.size (at (other s) t)) ≡ short → Bare E (at s u)
      by_length true e =
          let outcome : ◌≡◌ {A = Answered × Two} (a, u) (plain (refused 9), put s (no_store_yet (at s t)) t) =
          p.exact ∙ (unfold set_up_words in ap (λ (b : Bool). nine b (put s (no_store_yet (at s t)) t) (on s t (set_up_in E size count (at s t)))) e) in
          none_left (ap (λ (x : Answered × Two). x.1) outcome)
      by_length false e =
          let made = p.made e in
          let answer_is : made.0 ≡ (setup_words E size count (lent_in (at s t).words)).0 = ap (λ (x : Answer × Words). x.0) made.2.exact in
          elim (setup_ends E size count (lent_in (at s t).words)) [
            | inl f ↦ let begins = p.begins (made.1 ∙ ap plain (answer_is ∙ f)) in just_set_up size count begins.0 begins.1
            | inr f ↦ none_left (p.refused_none f.0 (made.1 ∙ ap plain (answer_is ∙ f.1)))
          ]

  -- ---- of both
  -- what the tests come to, whatever they say
  tested : (short : Bool) (k m : ℕ) (left right : Two)
      → let outcome : Answered × Two = nine short left (refused_by k left (refused_by m left (plain done, right))) in
      (outcome.0 ≡ plain done) ⊎ ((n : ℕ) × (outcome.0 ≡ plain (refused n)))
  tested true k m left right = inr (9, refl)
  tested false (suc k) m left right = inr (suc k, refl)
  tested false zero (suc m) left right = inr (suc m, refl)
  tested false zero zero left right = inl refl

  pub set_up_both_bare : {size count other-size other-count : ℕ} {t u : Two} {a : Answered} → PacketSetupBoth E size count other-size other-count t u a
      → AllBare E u
  set_up_both_bare {size} {count} {other-size} {other-count} {t} {u} {a} p = by_answer ends
    where
      ends : (a ≡ plain done) ⊎ ((n : ℕ) × (a ≡ plain (refused n)))
      ends =
          let answer_is = ap (λ (x : Answered × Two). x.0) p.exact in
          subst (λ (x : Answered). (x ≡ plain done) ⊎ ((n : ℕ) × (x ≡ plain (refused n)))) (sym answer_is)
          (unfold set_up_both_words in tested (either_shorter size other-size t) (gate_in E size count t.on_chip)
          (gate_in E other-size other-count t.external) (neither t)
          (two (set_up_in E size count t.on_chip).1 (set_up_in E other-size other-count t.external).1))

      bare_on_chip : (a ≡ plain done) ⊎ ((n : ℕ) × (a ≡ plain (refused n))) → Bare E u.on_chip
      bare_on_chip (inl e) = just_set_up size count (p.begins e).0.0 (p.begins e).0.1
      bare_on_chip (inr e) = none_bare u.on_chip t.on_chip (ap (λ (x : Two). x.on_chip) (p.refused_none e.0 e.1))

      bare_external : (a ≡ plain done) ⊎ ((n : ℕ) × (a ≡ plain (refused n))) → Bare E u.external
      bare_external (inl e) = just_set_up other-size other-count (p.begins e).1.0 (p.begins e).1.1
      bare_external (inr e) = none_bare u.external t.external (ap (λ (x : Two). x.external) (p.refused_none e.0 e.1))

      by_answer : (a ≡ plain done) ⊎ ((n : ℕ) × (a ≡ plain (refused n))) → AllBare E u
      by_answer e = record { each = λ s. elim s as (λ (s : Store). Bare E (at s u)) [ OnChip ↦ bare_on_chip e | External ↦ bare_external e ] }
