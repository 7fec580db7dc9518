-- Two stores and their twins are told the same for ever: calls, setups and audits. Assumes nothing.
use mathlib.Core.Path.{◌≡◌, refl, sym, ap, ap₂, subst, ◌∙◌}
use mathlib.Core.Logic.{inl, inr}
use mathlib.Core.List.{List, ◌∷◌}
use Prim.Native.Nat.{ℕ}
use native.Mathlib.Omega.{arith}
use lib.ListN.{length}
use Rattle.basics.proofs.Clash.{clash}
use Rattle.basics.proofs.Decided.{Below, below, beyond, below?}
use Rattle.ledger.specs.Ledger.{Answer}
use Rattle.tables.specs.Words.{Words, Edition}
use Rattle.tables.proofs.SoundOf.{room_of}
use Rattle.audit_words.specs.Promise.{AuditPromise}
use Rattle.audit_words.proofs.Claims as auditing
use Rattle.packets.specs.declared.Store.{Store}
use Rattle.packets.specs.Stores.{Two}
use Rattle.packets.specs.Calls.{Answered, plain}
use Rattle.packets.specs.Promise.{PacketAudit}
use Rattle.packets.specs.Runs.{Asking, Happened, PacketStep, called, set_up, set_up_both, audited, PacketRun, nothing, then, asked_of}
use Rattle.packets.specs.Stretch.{told_of, all_told}
use Rattle.packets.proofs.StoreTwins.{OneLedger, stand, neither, same_count}
use Rattle.packets.proofs.CallTwins.{Twins, twins_at, one_long, other_long, call_twins}
use Rattle.packets.proofs.SetupTwins.{setup_twins, setup_both_twins}

module _ (E : Edition) where
  -- ---- an audit: yes of every ledger, if its scratch is long enough, and 6 of no store
  answers_of : {w v : Words} {scratch other left other-left : List ℕ} {a b : Answer} → OneLedger E w v → length scratch ≡ length other
      → AuditPromise E w scratch left a → AuditPromise E v other other-left b → a ≡ b
  answers_of {w} {v} {scratch} {other} {left} {other-left} {a} {b} (stand l S T) e p q = go (below? (length scratch) w.count)
    where
      go : Below (length scratch) w.count → a ≡ b
      go (beyond h z) =
          let this = p.exact ∙ (auditing.claims E).sound_yes w l scratch S h in
          let that = q.exact ∙ (auditing.claims E).sound_yes v l other T (omega (arith, e, h, same_count S T)) in
          ap (λ (x : Answer × List ℕ). x.0) this ∙ sym (ap (λ (x : Answer × List ℕ). x.0) that)
      go (below h z) =
          let this = p.exact ∙ (auditing.claims E).too_short w scratch (inr (room_of E w l S, h)) in
          let that = q.exact ∙ (auditing.claims E).too_short v other (inr (room_of E v l T, omega (arith, e, h, same_count S T))) in
          ap (λ (x : Answer × List ℕ). x.0) this ∙ sym (ap (λ (x : Answer × List ℕ). x.0) that)
  answers_of {w} {v} {scratch} {other} (neither c d) e p q =
      let this = p.exact ∙ (auditing.claims E).bad_count w scratch (inl (omega (arith, c))) in
      let that = q.exact ∙ (auditing.claims E).bad_count v other (inl (omega (arith, d))) in
      ap (λ (x : Answer × List ℕ). x.0) this ∙ sym (ap (λ (x : Answer × List ℕ). x.0) that)

  audit_twins : {s : Store} {n : ℕ} {t u : Two} {scratch other left other-left : List ℕ} {a b : Answered} → Twins E t u
      → length scratch ≡ n → length other ≡ n → PacketAudit E s t scratch left a → PacketAudit E s u other other-left b → a ≡ b
  audit_twins {s} h e f p q =
      let this = p.made (one_long h) in
      let that = q.made (other_long h) in
      this.1 ∙ ap plain (answers_of (twins_at h s).alike.ledgers (e ∙ sym f) this.2 that.2) ∙ sym that.1

  -- ---- a step, and a run
  step_twins : {t u t' u' : Two} {q : Asking} {a b : Answered} → Twins E t u → PacketStep E t q a t' → PacketStep E u q b u'
      → (told_of a ≡ told_of b) × Twins E t' u'
  step_twins h (called p) (called p') = call_twins E h p p'
  step_twins h (set_up l beside p) (set_up l' beside' p') =
      let both = setup_twins E h l l' beside beside' p p' in
      (ap told_of both.0, both.1)
  step_twins h (set_up_both l m p) (set_up_both l' m' p') =
      let both = setup_both_twins E h l m l' m' p p' in
      (ap told_of both.0, both.1)
  step_twins h (audited e p) (audited f p') = (ap told_of (audit_twins h e f p p'), h)

  pub told_alike : {t u one_end other-end : Two} {later instead : List Happened} → Twins E t u → PacketRun E t later one_end
      → PacketRun E u instead other-end → asked_of later ≡ asked_of instead → all_told later ≡ all_told instead
  unfolding asked_of all_told
  told_alike h nothing nothing e = refl
  told_alike h nothing (then s rest) e = clash (cc)
  told_alike h (then s rest) nothing e = clash (cc)
  told_alike {u = u} h (then {q = q} {hs = hs} s rest) (then {u = next} {q = other} {a = b} {hs = gs} s' rest') e =
      let asked_is : other ≡ q = cc in
      let further : asked_of hs ≡ asked_of gs = cc in
      let this = step_twins h s (subst (λ (z : Asking). PacketStep E u z b next) asked_is s') in
      ap₂ {C = List Answered} ◌∷◌ this.0 (told_alike this.1 rest rest' further)
