-- Runs of the packet calls in code, told by what their contracts promise and by nothing else. A call in place and the same call with both heads by
-- value promise the same record, so a step of a run may be either. Assumes nothing.
use Rattle.std.specs.Prelude.{◌≡◌, ◌≢◌, List, [], ◌∷◌, ◌++◌, ℕ, ◌^◌, ◌<◌, length}
use Rattle.tables.specs.Words.{Edition}
use Rattle.tables.specs.Room.{OfHead}
use Rattle.demands.specs.Runs.{Done}
use Rattle.packets.specs.declared.Store.{Store}
use Rattle.packets.specs.Stores.{Kept, Two, at, other}
use Rattle.packets.specs.Calls.{PacketCall, Answered, plain, packet_words, set_up_words, set_up_both_words, audit_in}
use Rattle.packets.specs.Promise.{made_on, PacketPromise, PacketSetup, PacketSetupBoth, PacketAudit}

-- ---- what can be asked: a call, a setup of one store or of both, an audit with a scratch of so many words
pub data Asking : Type 0 where
  Calling : PacketCall → Asking
  SettingUp : Store → (size count : ℕ) → Asking
  SettingUpBoth : (size count other-size other-count : ℕ) → Asking
  Auditing : Store → (scratch-words : ℕ) → Asking

-- what was asked, and its answer
pub data Happened : Type 0 where
  did : Asking → Answered → Happened

-- a setup is lent the tables and the bytes of k; its arrays are those of k in place, and its own by value
pub record SameLent (k lent : Kept) : Type 0 where
  pub nodes_are : lent.words.nodes ≡ k.words.nodes
  pub pile_are : lent.words.pile ≡ k.words.pile
  pub bytes_are : lent.bytes ≡ k.bytes

-- ---- one step: it finds the two stores t, and leaves them as u; an audit changes nothing of them
pub data PacketStep (E : Edition) : Two → Asking → Answered → Two → Type 0 where
  called : {t u : Two} {c : PacketCall} {a : Answered} → PacketPromise E c t u a → PacketStep E t (Calling c) a u
  set_up : {t lent u : Two} {s : Store} {size count : ℕ} {a : Answered} → SameLent (at s t) (at s lent) → at (other s) lent ≡ at (other s) t
      → PacketSetup E s size count lent u a → PacketStep E t (SettingUp s size count) a u
  set_up_both : {t lent u : Two} {size count other-size other-count : ℕ} {a : Answered} → SameLent t.on_chip lent.on_chip
      → SameLent t.external lent.external → PacketSetupBoth E size count other-size other-count lent u a
      → PacketStep E t (SettingUpBoth size count other-size other-count) a u
  audited : {t : Two} {s : Store} {n : ℕ} {scratch left : List ℕ} {a : Answered} → length scratch ≡ n → PacketAudit E s t scratch left a
      → PacketStep E t (Auditing s n) a t

-- a run: each step is lent the two stores as the one before it left them, "written by nobody else"
pub data PacketRun (E : Edition) : Two → List Happened → Two → Type 0 where
  nothing : {t : Two} → PacketRun E t [] t
  then : {t u v : Two} {q : Asking} {a : Answered} {hs : List Happened} → PacketStep E t q a u → PacketRun E u hs v
      → PacketRun E t (did q a ∷ hs) v

-- the calls that a run made below on one store, each with its answer there: those of its packet calls, in their order
module _ (E : Edition) (s : Store) where
  unfoldable pub made_along : {t u : Two} {hs : List Happened} → PacketRun E t hs u → List Done
  made_along nothing = []
  made_along (then (called {t = t} {c = c} p) rest) = made_on E s c t ++ made_along rest
  made_along (then (set_up same beside p) rest) = made_along rest
  made_along (then (set_up_both same same-too p) rest) = made_along rest
  made_along (then (audited e p) rest) = made_along rest

-- all that was asked
unfoldable pub asked_of : List Happened → List Asking
asked_of [] = []
asked_of (did q a ∷ hs) = q ∷ asked_of hs

-- ---- the same, from the other side: a run has everything that can be asked, in any order, and no answer but the promised one. proofs/RunsMean.antt
-- makes it
-- the sizes of the setups are 32-bit numbers
abbrev pub SizesFit : List Asking → Type 0
SizesFit [] = Unit
SizesFit (Calling c ∷ qs) = SizesFit qs
SizesFit (SettingUp s size count ∷ qs) = (size < 2 ^ 32) × SizesFit qs
SizesFit (SettingUpBoth size count other-size other-count ∷ qs) = (size < 2 ^ 32) × (other-size < 2 ^ 32) × SizesFit qs
SizesFit (Auditing s n ∷ qs) = SizesFit qs

pub record RunsMean (E : Edition) : Type 0 where
  -- nothing is left out: from any two stores with the words of heads, everything in qs can be asked, and is answered
  pub every_run : (t : Two) → ((s : Store) → OfHead E (at s t).words) → (qs : List Asking) → SizesFit qs
      → (hs : List Happened) × (u : Two) × PacketRun E t hs u × (asked_of hs ≡ qs)
  -- nor is any step: a call from any two stores, a setup with whatever arrays it is lent beside the tables and bytes of the store, and an audit with
  -- whatever its scratch held
  pub every_call : (c : PacketCall) (t : Two) → PacketStep E t (Calling c) (packet_words E c t).0 (packet_words E c t).1
  pub setup_step : (s : Store) (size count : ℕ) (t lent : Two) → size < 2 ^ 32 → (at s lent).words.nodes ≡ (at s t).words.nodes
      → (at s lent).words.pile ≡ (at s t).words.pile → (at s lent).bytes ≡ (at s t).bytes → at (other s) lent ≡ at (other s) t
      → PacketStep E t (SettingUp s size count) (set_up_words E s size count lent).0 (set_up_words E s size count lent).1
  pub setup_both_step : (size count other-size other-count : ℕ) (t lent : Two) → size < 2 ^ 32 → other-size < 2 ^ 32
      → ((s : Store) → (at s lent).words.nodes ≡ (at s t).words.nodes) → ((s : Store) → (at s lent).words.pile ≡ (at s t).words.pile)
      → ((s : Store) → (at s lent).bytes ≡ (at s t).bytes)
      → PacketStep E t (SettingUpBoth size count other-size other-count)
      (set_up_both_words E size count other-size other-count lent).0 (set_up_both_words E size count other-size other-count lent).1
  pub audit_step : (s : Store) (t : Two) (scratch : List ℕ) → OfHead E (at s t).words
      → PacketStep E t (Auditing s (length scratch)) (plain (audit_in E s t scratch).0) t
  -- and no step is more than that: each answer is the model's, and so is what the next step finds
  pub call_answered : {t u : Two} {c : PacketCall} {a : Answered} {hs : List Happened} → PacketRun E t (did (Calling c) a ∷ hs) u
      → (a ≡ (packet_words E c t).0) × PacketRun E (packet_words E c t).1 hs u
  pub setup_answered : {t u : Two} {s : Store} {size count : ℕ} {a : Answered} {hs : List Happened}
      → PacketRun E t (did (SettingUp s size count) a ∷ hs) u
      → (lent : Two) × SameLent (at s t) (at s lent) × (at (other s) lent ≡ at (other s) t) × (a ≡ (set_up_words E s size count lent).0)
      × PacketRun E (set_up_words E s size count lent).1 hs u
  pub setup_both_answered : {t u : Two} {size count other-size other-count : ℕ} {a : Answered} {hs : List Happened}
      → PacketRun E t (did (SettingUpBoth size count other-size other-count) a ∷ hs) u
      → (lent : Two) × SameLent t.on_chip lent.on_chip × SameLent t.external lent.external
      × (a ≡ (set_up_both_words E size count other-size other-count lent).0)
      × PacketRun E (set_up_both_words E size count other-size other-count lent).1 hs u
  pub audit_answered : {t u : Two} {s : Store} {n : ℕ} {a : Answered} {hs : List Happened} → PacketRun E t (did (Auditing s n) a ∷ hs) u
      → (scratch : List ℕ) × (length scratch ≡ n) × (a ≡ plain (audit_in E s t scratch).0) × PacketRun E t hs u
  pub whole_stores : {k lent : Kept} → SameLent k lent
      → (lent.words.nodes ≡ k.words.nodes) × (lent.words.pile ≡ k.words.pile) × (lent.bytes ≡ k.bytes)
  pub sizes_fit : {t u : Two} {hs : List Happened} → PacketRun E t hs u → SizesFit (asked_of hs)
  pub ends_there : {t u : Two} → PacketRun E t [] u → u ≡ t
  -- everything that was asked is told, each in its place
  pub every_question : (before after : List Happened) (q : Asking) (a : Answered)
      → asked_of (before ++ (did q a ∷ after)) ≡ asked_of before ++ (q ∷ asked_of after)
  -- of each packet call the calls that it makes below, in their order; a setup and an audit add none
  pub along_none : (s : Store) (t : Two) → made_along E s (nothing {t = t}) ≡ []
  pub along_call : {t u v : Two} {c : PacketCall} {a : Answered} {hs : List Happened} (s : Store) (p : PacketPromise E c t u a) (rest : PacketRun E u hs v)
      → made_along E s (then (called p) rest) ≡ made_on E s c t ++ made_along E s rest
  pub along_other : {t u v : Two} {q : Asking} {a : Answered} {hs : List Happened} (s : Store) (step : PacketStep E t q a u) (rest : PacketRun E u hs v)
      → ((c : PacketCall) → q ≢ Calling c) → made_along E s (then step rest) ≡ made_along E s rest
