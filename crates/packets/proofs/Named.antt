-- What the walks over both stores go by: the promise of a call, from what became of the store that is named. Assumes nothing.
use mathlib.Core.Path.{◌≡◌, refl, sym, ap, subst, ◌∙◌}
use mathlib.Core.Bool.{Bool, true, false, cond}
use mathlib.Core.List.{List, []}
use Prim.Native.Nat.{ℕ}
use Rattle.std.specs.Prelude.{Result, Ok, Err}
use Rattle.basics.proofs.Clash.{clash}
use Rattle.ledger.specs.Ledger.{Answer, refused}
use Rattle.ledger.specs.Calls as ledger
use Rattle.answers.specs.declared.Refusal.{Refusal}
use Rattle.answers.specs.Answers as store
use Rattle.tables.specs.Words.{Words, Edition}
use Rattle.tables.specs.Calls.{answer_words}
use Rattle.tables.specs.Promise.{Promise}
use Rattle.audit_words.specs.Audit.{audit_words}
use Rattle.audit_words.specs.Promise.{AuditPromise}
use Rattle.packets.specs.declared.Store.{Store}
use Rattle.packets.specs.Stores.{Kept, Two, two, at, put, with_words}
use Rattle.packets.specs.OneStore.{take_in, hand_back_in, length_in, fill_in, read_in}
use Rattle.packets.specs.Calls.{PacketCall, Take, HandBack, Fill, Read, LengthOf, ReportOf, Answered, shows, plain, plainly}
use Rattle.packets.specs.Calls.{too_short, nine, after_first, take_from, on, packet_words, audit_in}
use Rattle.packets.specs.Answers.{says, from_store}
use Rattle.packets.specs.Promise.{PacketPromise, PacketAudit}
use Rattle.packets.proofs.Promised.{promised}

-- every call but a read says its refusal
abbrev pub Says : PacketCall → Type 0
Says (Take asked) = Unit
Says (HandBack s span) = Unit
Says (Fill s span new) = Unit
Says (Read s span) = ⊥
Says (LengthOf s span) = Unit
Says (ReportOf s) = Unit

-- what an allocator answered, as the layer's answer
pub says_from_store : {T : Type 0} (told : T → Answer) (a : Result T Refusal)
    → says (λ x. plain (told x)) (from_store a) ≡ plain (store.says told a)
says_from_store told (Ok x) = refl
says_from_store told (Err why) = refl

-- past the test for 9
long_nine : (t : Two) (outcome : Answered × Two) → too_short t ≡ false → outcome ≡ nine (too_short t) t outcome
long_nine t outcome e = sym (ap (λ (b : Bool). nine b t outcome) e)

short_nine : (t : Two) (outcome : Answered × Two) → too_short t ≡ true → ◌≡◌ {A = Answered × Two} (plain (refused 9), t) (nine (too_short t) t outcome)
short_nine t outcome e = sym (ap (λ (b : Bool). nine b t outcome) e)

-- what one store answered and kept, as both stores' outcome
named : (s : Store) (t : Two) (outcome : Answer × Kept) (a : Answered) (left : Kept) → (a, left) ≡ plainly outcome
    → ◌≡◌ {A = Answered × Two} (a, put s left t) (on s t outcome)
named s t outcome a left e = ap (λ (x : Answered × Kept). (x.0, put s x.1 t)) e

module _ (E : Edition) where
  pub as_named : (call : Store → PacketCall) {p s : Store} {t u : Two} {a : Answered} → p ≡ s → PacketPromise E (call s) t u a
      → PacketPromise E (call p) t u a
  as_named call {t = t} {u = u} {a = a} e promise = subst (λ (x : Store). PacketPromise E (call x) t u a) (sym e) promise

  pub refused_9 : (c : PacketCall) (t : Two) → Says c → too_short t ≡ true → PacketPromise E c t t (plain (refused 9))
  unfolding packet_words
  refused_9 (Take asked) t says e = promised E (Take asked) t t (plain (refused 9)) (short_nine t _ e)
  refused_9 (HandBack s span) t says e = promised E (HandBack s span) t t (plain (refused 9)) (short_nine t _ e)
  refused_9 (Fill s span new) t says e = promised E (Fill s span new) t t (plain (refused 9)) (short_nine t _ e)
  refused_9 (LengthOf s span) t says e = promised E (LengthOf s span) t t (plain (refused 9)) (short_nine t _ e)
  refused_9 (ReportOf s) t says e = promised E (ReportOf s) t t (plain (refused 9)) (short_nine t _ e)
  refused_9 (Read _ _) t says e = elim says [ ]

  pub shows_none : (s : Store) (span : ledger.Token) (t : Two) → too_short t ≡ true → PacketPromise E (Read s span) t t (shows [])
  unfolding packet_words
  shows_none s span t e =
      promised E (Read s span) t t (shows []) (sym (ap (λ (b : Bool). (shows (cond b [] (read_in E span (at s t))), t)) e))

  pub taken : (asked : ledger.Request) (t u : Two) (a : Answered) → too_short t ≡ false
      → (a, u) ≡ after_first (take_in E asked t.on_chip).0 (take_in E asked t.on_chip).1 t.external (take_in E asked t.external)
      → PacketPromise E (Take asked) t u a
  unfolding packet_words take_from
  taken asked t u a long e = promised E (Take asked) t u a (e ∙ long_nine t (take_from E asked t) long)

  pub gave_back : (span : ledger.Token) (k : Kept) (v : Words) (a : Answer) (b : Answered) → Promise E (ledger.HandBack span) k.words v a
      → b ≡ plain a → ◌≡◌ {A = Answered × Kept} (b, with_words k v) (plainly (hand_back_in E span k))
  unfolding hand_back_in
  gave_back span k v a b p e =
      let so_far : ◌≡◌ {A = Answered × Kept} (b, with_words k v) (plain a, with_words k v) = ap (λ (x : Answered). (x, with_words k v)) e in
      so_far ∙ ap (λ (x : Answer × Words). plainly {Left = Kept} (x.0, with_words k x.1)) p.exact

  pub handed_back_lem : (s : Store) (span : ledger.Token) (t : Two) (left : Kept) (a : Answered) → too_short t ≡ false
      → (a, left) ≡ plainly (hand_back_in E span (at s t)) → PacketPromise E (HandBack s span) t (put s left t) a
  unfolding packet_words
  handed_back_lem s span t left a long e =
      promised E (HandBack s span) t (put s left t) a
      (named s t (hand_back_in E span (at s t)) a left e ∙ long_nine t (on s t (hand_back_in E span (at s t))) long)

  pub filled : (s : Store) (span : ledger.Token) (new : List ℕ) (t : Two) (left : Kept) (a : Answered) → too_short t ≡ false
      → (a, left) ≡ plainly (fill_in E span new (at s t)) → PacketPromise E (Fill s span new) t (put s left t) a
  unfolding packet_words
  filled s span new t left a long e =
      promised E (Fill s span new) t (put s left t) a
      (named s t (fill_in E span new (at s t)) a left e ∙ long_nine t (on s t (fill_in E span new (at s t))) long)

  pub shown : (s : Store) (span : ledger.Token) (t : Two) (bytes : List ℕ) → too_short t ≡ false → bytes ≡ read_in E span (at s t)
      → PacketPromise E (Read s span) t t (shows bytes)
  unfolding packet_words
  shown s span t bytes long e =
      let so_far : ◌≡◌ {A = Answered × Two} (shows bytes, t) (shows (read_in E span (at s t)), t) = ap (λ (x : List ℕ). (shows x, t)) e in
      promised E (Read s span) t t (shows bytes)
      (so_far ∙ sym (ap (λ (b : Bool). (shows (cond b [] (read_in E span (at s t))), t)) long))

  pub measured : (s : Store) (span : ledger.Token) (t : Two) (a : Answered) → too_short t ≡ false → a ≡ plain (length_in E span (at s t))
      → PacketPromise E (LengthOf s span) t t a
  unfolding packet_words
  measured s span t a long e =
      let so_far : ◌≡◌ {A = Answered × Two} (a, t) (plain (length_in E span (at s t)), t) = ap (λ (x : Answered). (x, t)) e in
      promised E (LengthOf s span) t t a (so_far ∙ long_nine t _ long)

  pub reported_of : (s : Store) (t : Two) (a : Answered) (b : Answer) → too_short t ≡ false → a ≡ plain b
      → Promise E (ledger.Ask ledger.Report) (at s t).words (at s t).words b → PacketPromise E (ReportOf s) t t a
  unfolding packet_words
  reported_of s t a b long e p =
      let told : a ≡ plain (answer_words E (ledger.Ask ledger.Report) (at s t).words).0 =
      e ∙ ap (λ (x : Answer × Words). plain x.0) p.exact in
      let so_far : ◌≡◌ {A = Answered × Two} (a, t) (plain (answer_words E (ledger.Ask ledger.Report) (at s t).words).0, t) =
      ap (λ (x : Answered). (x, t)) told in
      promised E (ReportOf s) t t a (so_far ∙ long_nine t _ long)

  -- ---- the audit
  pub audit_as_named : {p s : Store} {t : Two} {scratch left : List ℕ} {a : Answered} → p ≡ s → PacketAudit E s t scratch left a
      → PacketAudit E p t scratch left a
  audit_as_named {t = t} {scratch = scratch} {left = left} {a = a} e promise = subst (λ (x : Store). PacketAudit E x t scratch left a) (sym e) promise

  pub audit_9 : (s : Store) (t : Two) (scratch : List ℕ) → too_short t ≡ true → PacketAudit E s t scratch scratch (plain (refused 9))
  unfolding audit_in
  audit_9 s t scratch e = record {
    exact = sym (ap (λ (b : Bool). plainly {Left = List ℕ} (cond b (refused 9, scratch) (audit_words E (at s t).words scratch))) e);
    made = λ long. clash (cc);
  }

  pub audited : (s : Store) (t : Two) (scratch left : List ℕ) (a : Answered) (b : Answer) → too_short t ≡ false → a ≡ plain b
      → AuditPromise E (at s t).words scratch left b → PacketAudit E s t scratch left a
  unfolding audit_in
  audited s t scratch left a b long e p = record {
    exact =
        let so_far : ◌≡◌ {A = Answered × List ℕ} (a, left) (plain b, left) = ap (λ (x : Answered). (x, left)) e in
        so_far ∙ ap (λ (x : Answer × List ℕ). plainly {Left = List ℕ} x) p.exact
        ∙ sym (ap (λ (c : Bool). plainly {Left = List ℕ} (cond c (refused 9, scratch) (audit_words E (at s t).words scratch))) long);
    made = λ again. (b, e, p);
  }

  -- ---- a take, one store after the other
  pub taken_both : (asked : ledger.Request) (t : Two) (a : Answer) (b : Answered) (left beside : Kept) → too_short t ≡ false
      → (a, left) ≡ take_in E asked t.on_chip
      → (b, two left beside) ≡ after_first a left t.external (take_in E asked t.external) → PacketPromise E (Take asked) t (two left beside) b
  taken_both asked t a b left beside long e f =
      taken asked t (two left beside) b long
      (f ∙ ap (λ (x : Answer × Kept). after_first x.0 x.1 t.external (take_in E asked t.external)) e)
