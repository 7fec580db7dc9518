-- Words that stand for one ledger in tables of one length, or are both shut out by a refused setup, answer alike for ever: calls, audits and setups.
-- Assumes nothing.
use mathlib.Core.Path.{◌≡◌, refl, sym, ap, ap₂, subst, ◌∙◌}
use mathlib.Core.Logic.{◌⊎◌, inl, inr}
use mathlib.Core.List.{List, ◌∷◌}
use Prim.Native.Nat.{ℕ}
use native.Mathlib.Omega.{arith}
use lib.ListN.{length}
use Rattle.basics.proofs.Clash.{clash}
use Rattle.basics.proofs.Decided.{Below, below, beyond, below?}
use Rattle.ledger.specs.Ledger.{Ledger, Answer, refused, setup, by_class, Stacks}
use Rattle.ledger.specs.Calls.{Call, answer}
use Rattle.ledger.proofs.Records.{all_records}
use Rattle.tables.specs.Words.{Words, Edition}
use Rattle.tables.specs.Setup.{Lent, setup_words}
use Rattle.tables.specs.Sound.{Sound}
use Rattle.tables.specs.Room.{Room}
use Rattle.tables.specs.Claims.{TooShort}
use Rattle.tables.specs.Promise.{Promise, SetupPromise}
use Rattle.tables.proofs.Gate.{SetupCase, count_bad, too_large, table_short, accepted, setup_case}
use Rattle.tables.proofs.SoundOf.{room_of}
use Rattle.tables.proofs.Claims as tables
use Rattle.audit_words.specs.Promise.{AuditPromise}
use Rattle.audit_words.proofs.Claims as auditing
use Rattle.demands.specs.Runs.{Asked, Done, LentFrom, Step, called, audited, set_up, Run, nothing, then, asked_of, answers_of}

-- tables of one length
pub record OneLength (w v : Words) : Type 0 where
  pub nodes_are : length w.nodes ≡ length v.nodes
  pub pile_are : length w.pile ≡ length v.pile

pub record Twin (E : Edition) (w v : Words) : Type 0 where
  pub lengths : OneLength w v
  pub kind : ((l : Ledger Stacks) × Sound E w l × Sound E v l) ⊎ ((w.count ≡ 0) × (v.count ≡ 0))

module _ (E : Edition) where
  -- ---- no step changes the length of a table
  step_lengths : {w v : Words} {q : Asked} {a : Answer} → Step E w q a v → OneLength v w
  step_lengths (called {w = w} {v = v} {c = c} p) =
      let kept = (tables.claims E).not_written c w in
      let words_are = ap (λ (x : Answer × Words). x.1) p.exact in
      record {
        nodes_are = ap (λ (x : Words). length x.nodes) words_are ∙ kept.nodes_length;
        pile_are = ap (λ (x : Words). length x.pile) words_are ∙ kept.pile_length;
      }
  step_lengths (audited e p) = record { nodes_are = refl; pile_are = refl }
  step_lengths (set_up {w = w} {v = v} {size = size} {count = count} {lent = lent} t p) =
      let kept = (tables.claims E).setup_lengths size count lent in
      let words_are = ap (λ (x : Answer × Words). x.1) p.exact in
      record {
        nodes_are = ap (λ (x : Words). length x.nodes) words_are ∙ kept.0 ∙ ap (λ (x : List ℕ). length x) t.nodes_are;
        pile_are = ap (λ (x : Words). length x.pile) words_are ∙ kept.1 ∙ ap (λ (x : List ℕ). length x) t.pile_are;
      }

  pub run_lengths : {w u : Words} {ds : List Done} → Run E w ds u → OneLength u w
  run_lengths nothing = record { nodes_are = refl; pile_are = refl }
  run_lengths (then s rest) =
      let first = step_lengths s in
      let later = run_lengths rest in
      record { nodes_are = later.nodes_are ∙ first.nodes_are; pile_are = later.pile_are ∙ first.pile_are }

  -- ---- one ledger has one size and one count
  module _ {w v : Words} {l : Ledger Stacks} (S : Sound E w l) (T : Sound E v l) where
    same_size : v.size ≡ w.size
    same_size = sym T.well.lined.cover ∙ S.well.lined.cover

    same_count : v.count ≡ w.count
    same_count = sym (all_records T.well.lined) ∙ all_records S.well.lined

  -- ---- a call
  call_alike : {w v w' v' : Words} {c : Call} {a b : Answer} → Twin E w v → Promise E c w w' a → Promise E c v v' b
      → (a ≡ b) × (((l : Ledger Stacks) × Sound E w' l × Sound E v' l) ⊎ ((w'.count ≡ 0) × (v'.count ≡ 0)))
  call_alike {w} {v} {w'} {v'} {c} {a} {b} t p q = go t.kind
    where
      go : ((l : Ledger Stacks) × Sound E w l × Sound E v l) ⊎ ((w.count ≡ 0) × (v.count ≡ 0))
          → (a ≡ b) × (((l : Ledger Stacks) × Sound E w' l × Sound E v' l) ⊎ ((w'.count ≡ 0) × (v'.count ≡ 0)))
      go (inl (l, S, T)) =
          let this = p.ledger l S in
          let that : (b ≡ (answer by_class w.size w.count c l).0) × Sound E v' (answer by_class w.size w.count c l).1 =
          subst (λ (n : ℕ). (b ≡ (answer by_class w.size n c l).0) × Sound E v' (answer by_class w.size n c l).1) (same_count S T)
          (subst (λ (n : ℕ). (b ≡ (answer by_class n v.count c l).0) × Sound E v' (answer by_class n v.count c l).1) (same_size S T)
          (q.ledger l T)) in
          (this.0 ∙ sym that.0, inl ((answer by_class w.size w.count c l).1, this.1, that.1))
      go (inr (e, f)) =
          let this = p.exact ∙ (tables.claims E).call_6 c w (inl (omega (arith, e))) in
          let that = q.exact ∙ (tables.claims E).call_6 c v (inl (omega (arith, f))) in (
            ap (λ (x : Answer × Words). x.0) this ∙ sym (ap (λ (x : Answer × Words). x.0) that),
            inr (ap (λ (x : Answer × Words). x.1.count) this ∙ e, ap (λ (x : Answer × Words). x.1.count) that ∙ f),
          )

  -- ---- an audit
  audit_alike : {w v : Words} {n : ℕ} {scratch left other other-left : List ℕ} {a b : Answer} → Twin E w v
      → length scratch ≡ n → length other ≡ n → AuditPromise E w scratch left a → AuditPromise E v other other-left b → a ≡ b
  audit_alike {w} {v} {n} {scratch} {left} {other} {other-left} {a} {b} t e f p q = go t.kind (below? n w.count)
    where
      go : ((l : Ledger Stacks) × Sound E w l × Sound E v l) ⊎ ((w.count ≡ 0) × (v.count ≡ 0)) → Below n w.count → a ≡ b
      go (inl (l, S, T)) (beyond h z) =
          let this = p.exact ∙ (auditing.claims E).sound_yes w l scratch S (omega (arith, e, h)) in
          let that = q.exact ∙ (auditing.claims E).sound_yes v l other T (omega (arith, f, h, same_count S T)) in
          ap (λ (x : Answer × List ℕ). x.0) this ∙ sym (ap (λ (x : Answer × List ℕ). x.0) that)
      go (inl (l, S, T)) (below h z) =
          let this = p.exact ∙ (auditing.claims E).too_short w scratch (inr (room_of E w l S, omega (arith, e, h))) in
          let that = q.exact ∙ (auditing.claims E).too_short v other (inr (room_of E v l T, omega (arith, f, h, same_count S T))) in
          ap (λ (x : Answer × List ℕ). x.0) this ∙ sym (ap (λ (x : Answer × List ℕ). x.0) that)
      go (inr (c, d)) z =
          let this = p.exact ∙ (auditing.claims E).bad_count w scratch (inl (omega (arith, c))) in
          let that = q.exact ∙ (auditing.claims E).bad_count v other (inl (omega (arith, d))) in
          ap (λ (x : Answer × List ℕ). x.0) this ∙ sym (ap (λ (x : Answer × List ℕ). x.0) that)

  -- ---- a setup: the count and the lengths decide, so both are accepted or both refused
  setup_alike : {w v w' v' : Words} {size count : ℕ} {lent other : Lent} {a b : Answer} → OneLength w v → LentFrom w lent → LentFrom v other
      → SetupPromise E size count lent w' a → SetupPromise E size count other v' b
      → (a ≡ b) × (((l : Ledger Stacks) × Sound E w' l × Sound E v' l) ⊎ ((w'.count ≡ 0) × (v'.count ≡ 0)))
  setup_alike {w} {v} {w'} {v'} {size} {count} {lent} {other} {a} {b} one-length t u p q =
      go (setup_case E size count (length lent.nodes) (length lent.pile))
    where
      nodes_same : length lent.nodes ≡ length other.nodes
      nodes_same = ap (λ (x : List ℕ). length x) t.nodes_are ∙ one-length.nodes_are ∙ sym (ap (λ (x : List ℕ). length x) u.nodes_are)

      pile_same : length lent.pile ≡ length other.pile
      pile_same = ap (λ (x : List ℕ). length x) t.pile_are ∙ one-length.pile_are ∙ sym (ap (λ (x : List ℕ). length x) u.pile_are)

      here : a ≡ (setup_words E size count lent).0
      here = ap (λ (x : Answer × Words). x.0) p.exact

      there : b ≡ (setup_words E size count other).0
      there = ap (λ (x : Answer × Words). x.0) q.exact

      shut : (k : ℕ) → (setup_words E size count lent).0 ≡ refused k → (setup_words E size count other).0 ≡ refused k
          → (a ≡ b) × (((l : Ledger Stacks) × Sound E w' l × Sound E v' l) ⊎ ((w'.count ≡ 0) × (v'.count ≡ 0)))
      shut k e f = (
        here ∙ e ∙ sym (there ∙ f),
        inr (ap (λ (x : Words). x.count) (p.kept k (here ∙ e)), ap (λ (x : Words). x.count) (q.kept k (there ∙ f))),
      )

      over : (P : ℕ → ℕ → Type 0) → P (length lent.nodes) (length lent.pile) → P (length other.nodes) (length other.pile)
      over P h =
          subst (λ (n : ℕ). P (length other.nodes) n) pile_same (subst (λ (n : ℕ). P n (length lent.pile)) nodes_same h)

      go : SetupCase E size count (length lent.nodes) (length lent.pile)
          → (a ≡ b) × (((l : Ledger Stacks) × Sound E w' l × Sound E v' l) ⊎ ((w'.count ≡ 0) × (v'.count ≡ 0)))
      go (count_bad h e) = shut 1 (((tables.claims E).setup_1 size count lent).1 h) (((tables.claims E).setup_1 size count other).1 h)
      go (too_large h e) = shut 10 (((tables.claims E).setup_10 size count lent).1 h) (((tables.claims E).setup_10 size count other).1 h)
      go (table_short f h e) =
          shut 2 (((tables.claims E).setup_2 size count lent).1 (f, h))
          (((tables.claims E).setup_2 size count other).1 (f, over (TooShort E count) h))
      go (accepted f h e) =
          let begun = here ∙ ((tables.claims E).setup_done size count lent).1 (f, h) in
          let begun-too = there ∙ ((tables.claims E).setup_done size count other).1 (f, over (Room E count) h) in
          (begun ∙ sym begun-too, inl (setup by_class size count, p.ledger begun, q.ledger begun-too))

  -- ---- a step, and a run
  joined : {w v w' v' : Words} → OneLength w v → OneLength w' w → OneLength v' v → OneLength w' v'
  joined t p q = record {
    nodes_are = p.nodes_are ∙ t.nodes_are ∙ sym q.nodes_are;
    pile_are = p.pile_are ∙ t.pile_are ∙ sym q.pile_are;
  }

  step_alike : {w v w' v' : Words} {q : Asked} {a b : Answer} → Twin E w v → Step E w q a w' → Step E v q b v' → (a ≡ b) × Twin E w' v'
  step_alike t (called p) (called p') =
      let x = call_alike t p p' in
      (x.0, record { lengths = joined t.lengths (step_lengths (called p)) (step_lengths (called p')); kind = x.1 })
  step_alike t (audited e p) (audited f p') = (audit_alike t e f p p', t)
  step_alike t (set_up u p) (set_up u' p') =
      let x = setup_alike t.lengths u u' p p' in
      (x.0, record { lengths = joined t.lengths (step_lengths (set_up u p)) (step_lengths (set_up u' p')); kind = x.1 })

  pub twins : {w v x y : Words} {later instead : List Done} → Twin E w v → Run E w later x → Run E v instead y → asked_of later ≡ asked_of instead
      → answers_of later ≡ answers_of instead
  unfolding asked_of answers_of
  twins t nothing nothing e = refl
  twins t nothing (then s rest) e = clash (cc)
  twins t (then s rest) nothing e = clash (cc)
  twins {v = v} t (then {q = q} {ds = ds} s rest) (then {v = next} {q = other} {a = b} {ds = es} s' rest') e =
      let asked_is : other ≡ q = cc in
      let further : asked_of ds ≡ asked_of es = cc in
      let x = step_alike t s (subst (λ (z : Asked). Step E v z b next) asked_is s') in
      ap₂ {C = List Answer} ◌∷◌ x.0 (twins x.1 rest rest' further)
