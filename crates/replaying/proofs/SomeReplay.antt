-- Every journal has a replay: each call that can be read is answered, by an answer that the code has. Assumes nothing.
use mathlib.Core.Path.{◌≡◌, refl, sym, ap, subst}
use mathlib.Core.Logic.{inl, inr}
use mathlib.Core.List.{List, [], ◌∷◌}
use Prim.Native.Nat.{ℕ, zero, suc, ◌^◌, ◌<◌}
use lib.ListN.{length}
use Rattle.ledger.specs.Ledger as ledger
use Rattle.ledger.specs.Ledger.{granted, done, refused}
use Rattle.ledger.specs.Calls as ledger-calls
use Rattle.tables.specs.Words.{Words, Edition}
use Rattle.tables.specs.Gate.{gate_of, gated, setup_gate}
use Rattle.tables.specs.Setup.{Lent, zeros, fresh, setup_words}
use Rattle.tables.specs.Take as take_words
use Rattle.tables.specs.Take.{TakePlan, plan_take, do_take}
use Rattle.tables.specs.HandBack as back-words
use Rattle.tables.specs.HandBack.{BackPlan, plan_back, do_back}
use Rattle.tables.specs.Calls.{edition32, behind, answer_words}
use Rattle.tables.specs.Claims.{OneOf}
use Rattle.tables.specs.Promise.{Promise, SetupPromise}
use Rattle.tables.proofs.Promise.{promise_means}
use Rattle.tables.proofs.Claims as tables
use Rattle.answers.specs.declared.Refusal.{Refusal}
use Rattle.answers.specs.declared.Refusal.TheVariants.{BadCount, TableTooShort, NoSpareRecord, NoRegion, NotLive, Unsound, StartsElsewhere}
use Rattle.answers.specs.Refusals.{number_of}
use Rattle.calls.specs.declared.Call.{Call}
use Rattle.calls.specs.declared.Call.TheVariants.{Take, HandBack, SetUp, Reset}
use Rattle.calls.specs.Values as answer
use Rattle.calls.specs.Values.{Answer, says, Fits}
use Rattle.calling.specs.Makes.{lent_in, Makes}
use Rattle.calling.proofs.Promised.{said_so, setup_said_so}
use Rattle.journal.specs.Bytes.{AllBytes}
use Rattle.journal.specs.Reading.{Ending, Holds, no_more, breaks, one_more}
use Rattle.journal.proofs.Claims.{journal_claims}
use Rattle.demands.proofs.Demands.{base_demands}
use Rattle.replaying.specs.Steps.{answered, at_end, broken_off}
use Rattle.replaying.specs.Replays.{Replays, ends, breaks_off, goes_on}
use Rattle.replaying.specs.Claims.{BaseReplays}
use Rattle.replaying.proofs.Stepping.{found}

-- ---- the answers of the calls that a journal has
data Plain : ledger.Answer → Type 0 where
  grants : (o r : ℕ) → Plain (granted o r)
  says_done : Plain done
  refuses : (k : ℕ) → Plain (refused k)

past_gate : {Lent : Type 0} (k : ℕ) (lent : Lent) (outcome : ledger.Answer × Lent) → Plain outcome.0 → Plain (gated k lent outcome).0
unfolding gated
past_gate zero lent outcome p = p
past_gate (suc k) lent outcome p = refuses (suc k)

take_plain : (E : Edition) (w : Words) (s : ℕ) (plan : TakePlan) → Plain (do_take E w s plan).0
unfolding do_take
take_plain E w s (take_words.stop k) = refuses k
take_plain E w s (take_words.whole c r o) = grants o r
take_plain E w s (take_words.split c r o rest m) = grants o r

back_plain : (E : Edition) (w : Words) (r : ℕ) (plan : BackPlan) → Plain (do_back E w r plan).0
unfolding do_back
back_plain E w r (back-words.stop k) = refuses k
back_plain E w r (back-words.merge p x p_free x_free m) = says_done

-- ---- each is one of the code's, if its number is
said : (a : ledger.Answer) → Plain a → ((k : ℕ) → a ≡ refused k → (why : Refusal) × (number_of why ≡ k)) → (b : Answer) × (says b ≡ a)
said a (grants o r) h = (answer.Granted record { offset = o; metadata = record { 0 = r } }, refl)
said a says_done h = (answer.Done, refl)
said a (refuses k) h = let why = h k refl in (answer.Refused why.0, ap refused why.1)

of_take : (k : ℕ) → OneOf (6 ∷ 2 ∷ 3 ∷ 4 ∷ 6 ∷ []) k → (why : Refusal) × (number_of why ≡ k)
of_take k (inl e) = (Unsound, sym e)
of_take k (inr (inl e)) = (TableTooShort, sym e)
of_take k (inr (inr (inl e))) = (NoSpareRecord, sym e)
of_take k (inr (inr (inr (inl e)))) = (NoRegion, sym e)
of_take k (inr (inr (inr (inr (inl e))))) = (Unsound, sym e)
of_take k (inr (inr (inr (inr (inr x5))))) = elim x5 [ ]

of_back : (k : ℕ) → OneOf (6 ∷ 2 ∷ 5 ∷ 8 ∷ 6 ∷ []) k → (why : Refusal) × (number_of why ≡ k)
of_back k (inl e) = (Unsound, sym e)
of_back k (inr (inl e)) = (TableTooShort, sym e)
of_back k (inr (inr (inl e))) = (NotLive, sym e)
of_back k (inr (inr (inr (inl e)))) = (StartsElsewhere, sym e)
of_back k (inr (inr (inr (inr (inl e))))) = (Unsound, sym e)
of_back k (inr (inr (inr (inr (inr x5))))) = elim x5 [ ]

of_reset : (k : ℕ) → OneOf (6 ∷ 2 ∷ []) k → (why : Refusal) × (number_of why ≡ k)
of_reset k (inl e) = (Unsound, sym e)
of_reset k (inr (inl e)) = (TableTooShort, sym e)
of_reset k (inr (inr x'')) = elim x'' [ ]

of_setup : (k : ℕ) → OneOf (1 ∷ 2 ∷ []) k → (why : Refusal) × (number_of why ≡ k)
of_setup k (inl e) = (BadCount, sym e)
of_setup k (inr (inl e)) = (TableTooShort, sym e)
of_setup k (inr (inr x'')) = elim x'' [ ]

-- ---- so each call is made
makes_take : (n : ℕ) (w : Words) → (a : Answer) × (v : Words) × Promise edition32 (ledger-calls.takes n) w v (says a)
makes_take n w =
    let c : ledger-calls.Call = ledger-calls.takes n in
    let is_plain : Plain (answer_words edition32 c w).0 =
    unfold answer_words in unfold behind in past_gate (gate_of edition32 w) w (behind edition32 c w) (take_plain edition32 w n (plan_take w n)) in
    let b = said (answer_words edition32 c w).0 is_plain (λ k e. of_take k ((tables.claims edition32).numbers c w k e)) in
    (b.0, (answer_words edition32 c w).1, said_so b.1 ((promise_means edition32).every_call c w))

makes_back : (o r : ℕ) (w : Words) → (a : Answer) × (v : Words) × Promise edition32 (ledger-calls.gives_back o r) w v (says a)
makes_back o r w =
    let c : ledger-calls.Call = ledger-calls.gives_back o r in
    let is_plain : Plain (answer_words edition32 c w).0 =
    unfold answer_words in unfold behind in
    past_gate (gate_of edition32 w) w (behind edition32 c w) (back_plain edition32 w r (plan_back w (ledger-calls.span_of o r))) in
    let b = said (answer_words edition32 c w).0 is_plain (λ k e. of_back k ((tables.claims edition32).numbers c w k e)) in
    (b.0, (answer_words edition32 c w).1, said_so b.1 ((promise_means edition32).every_call c w))

makes_reset : (w : Words) → (a : Answer) × (v : Words) × Promise edition32 ledger-calls.Reset w v (says a)
makes_reset w =
    let c : ledger-calls.Call = ledger-calls.Reset in
    let is_plain : Plain (answer_words edition32 c w).0 =
    unfold answer_words in unfold behind in past_gate (gate_of edition32 w) w (behind edition32 c w) says_done in
    let b = said (answer_words edition32 c w).0 is_plain (λ k e. of_reset k ((tables.claims edition32).numbers c w k e)) in
    (b.0, (answer_words edition32 c w).1, said_so b.1 ((promise_means edition32).every_call c w))

makes_setup : (size count : ℕ) (lent : Lent) → size < 2 ^ 32 → (a : Answer) × (v : Words) × SetupPromise edition32 size count lent v (says a)
makes_setup size count lent small =
    let p = (promise_means edition32).every_setup size count lent small in
    let is_plain : Plain (setup_words edition32 size count lent).0 =
    unfold setup_words in
    past_gate (setup_gate edition32 size count (length lent.nodes) (length lent.pile)) (zeros lent)
    (done, fresh edition32 size count lent.nodes lent.pile) says_done in
    let b = said (setup_words edition32 size count lent).0 is_plain (λ k e. of_setup k (base_demands.setup_numbered
    (subst (SetupPromise edition32 size count lent (setup_words edition32 size count lent).1) e p))) in
    (b.0, (setup_words edition32 size count lent).1, setup_said_so b.1 p)

makes : (c : Call) → Fits c → (w : Words) → (a : Answer) × (v : Words) × Makes edition32 c w v (says a)
makes (Take size) fits w = let m = makes_take size.0 w in (m.0, m.1, record { promised = m.2 })
makes (HandBack span) fits w = let m = makes_back span.offset span.metadata.0 w in (m.0, m.1, record { promised = m.2 })
makes (SetUp size count) fits w = let m = makes_setup size.0 count (lent_in w) fits.0 in (m.0, m.1, record { promised = m.2 })
makes Reset fits w = let m = makes_reset w in (m.0, m.1, record { promised = m.2 })

-- ---- and so on to the end
along : {bytes : List ℕ} {at : ℕ} {cs : List Call} {end : Ending} → AllBytes bytes → Holds bytes at cs end → (w : Words)
    → (given : List ledger.Answer) × (u : Words) × Replays edition32 bytes at w given end u
along all (no_more e) w = ([], w, ends (found e (at_end refl)))
along all (breaks e) w = ([], w, breaks_off (found e (broken_off refl)))
along {bytes} {at} all (one_more {next = next} {c = c} e rest) w =
    let made = makes c (journal_claims.was_written bytes at next c all e).3 w in
    let later = along all rest made.1 in
    (says made.0 ∷ later.0, later.1, goes_on {a = made.0} (found e (answered made.2)) later.2)

pub base_replays : BaseReplays
base_replays = record {
  some_replay = λ bytes at w all.
      let holds = journal_claims.holds_some bytes at in
      let replay = along all holds.2 w in
      (replay.0, holds.1, replay.1, replay.2);
}
