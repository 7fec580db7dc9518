-- Every call on sound words answers as the ledger, and so do runs of calls: demands 2 and 3. Assumes nothing.
use mathlib.Core.Path.{◌≡◌, refl, ap, ap₂, sym, ◌∙◌, subst}
use mathlib.Core.List.{List, [], ◌∷◌}
use Prim.Native.Nat.{ℕ, ◌≤◌}
use Rattle.ledger.specs.Ledger.{Ledger, Answer, done, refused, setup, by_class, Stacks}
use Rattle.ledger.specs.Calls.{Call, Take, HandBack, Reset, Ask, Event, event, answer, end, answers, log}
use Rattle.ledger.specs.WellFormed.{WellFormed}
use Rattle.ledger.specs.Stretch.{Stretch}
use Rattle.ledger.proofs.Records.{all_records}
use Rattle.ledger.proofs.CallsWell.{setup_well, call_well}
use Rattle.ledger.proofs.Outcomes.{refusal_numbers}
use Rattle.ledger.proofs.Refusals.{no_other}
use Rattle.ledger.proofs.Stretch.{stretch_restores}
use Rattle.ledger.proofs.ByClass.{class_laws}
use Rattle.tables.specs.Words.{Words, Edition}
use Rattle.tables.specs.Setup.{Lent, setup_words}
use Rattle.tables.specs.Calls.{behind, answer_words}
use Rattle.tables.specs.Sound.{Sound}
use Rattle.tables.proofs.Gate.{call_open}
use Rattle.tables.proofs.SoundOf.{room_of}
use Rattle.tables.proofs.TakeSound.{take_sound}
use Rattle.tables.proofs.BackSound.{back_sound}
use Rattle.tables.proofs.Questions.{told_sound}
use Rattle.tables.proofs.Refusals.{setup_done}
use Rattle.tables.proofs.SetupSound.{setup_sound, reset_sound}

module _ (E : Edition) where
  -- ---- one call
  opened : (w : Words) (l : Ledger Stacks) → Sound E w l → (c : Call) → answer_words E c w ≡ behind E c w
  opened w l S c = call_open E c w (room_of E w l S)

  pub call_sound : (w : Words) (l : Ledger Stacks) → Sound E w l → (c : Call)
      → ((answer_words E c w).0 ≡ (answer by_class w.size w.count c l).0)
      × Sound E (answer_words E c w).1 (answer by_class w.size w.count c l).1
  unfolding answer
  call_sound w l S (Take asked) = rw (opened w l S (Take asked)) (unfold behind in take_sound E w l S asked.size)
  call_sound w l S (HandBack span) = rw (opened w l S (HandBack span)) (unfold behind in back_sound E w l S span)
  call_sound w l S Reset = reset_sound E w S.room.of_head.size_fits (room_of E w l S)
  call_sound w l S (Ask q) = rw (opened w l S (Ask q)) (unfold behind in (told_sound E w l S q, S))

  -- the ledger does not give 6, so the words do not
  pub never_6 : (w : Words) (l : Ledger Stacks) → Sound E w l → (c : Call) → ¬ ((answer_words E c w).0 ≡ refused 6)
  never_6 w l S c e = (refusal_numbers (no_other by_class class_laws w.size w.count c 6 l S.well (sym (call_sound w l S c).0 ∙ e))).1 refl

  -- ---- runs
  -- one call of a run on a store of this size and count: both are the ledger's own, so the words have them
  pub step_sound : (size count : ℕ) (c : Call) (w : Words) (l : Ledger Stacks) → WellFormed by_class size count l → Sound E w l
      → ((answer_words E c w).0 ≡ (answer by_class size count c l).0) × Sound E (answer_words E c w).1 (answer by_class size count c l).1
  step_sound size count c w l f S =
      let size_is : w.size ≡ size = sym S.well.lined.cover ∙ f.lined.cover in
      let count_is : w.count ≡ count = sym (all_records S.well.lined) ∙ all_records f.lined in
      rw (← size_is, ← count_is) (call_sound w l S c)

  -- the log of a run has its answers, and the words at its end stand for the ledger at its end
  run_sound : (size count : ℕ) → 2 ≤ count → (cs : List Call) (w : Words) (l : Ledger Stacks) → WellFormed by_class size count l → Sound E w l
      → (answers (answer_words E) cs w ≡ answers (answer by_class size count) cs l) × (log (answer_words E) cs w ≡ log (answer by_class size count) cs l)
      × Sound E (end (answer_words E) cs w) (end (answer by_class size count) cs l)
  unfolding answers log end
  run_sound size count two [] w l f S = (refl, refl, S)
  run_sound size count two (c ∷ cs) w l f S =
      let this = step_sound size count c w l f S in
      let rest = run_sound size count two cs (answer_words E c w).1 (answer by_class size count c l).1
      (call_well by_class class_laws size count two c l f) this.1 in
      (ap₂ {C = List Answer} ◌∷◌ this.0 rest.0, ap₂ {C = List Event} ◌∷◌ (ap (event c) this.0) rest.1, rest.2)

  -- words that stand for one ledger answer alike for ever, whatever their spare records hold
  pub alike : (w v : Words) (l : Ledger Stacks) → Sound E w l → Sound E v l → (cs : List Call)
      → answers (answer_words E) cs w ≡ answers (answer_words E) cs v
  alike w v l S T cs =
      (run_sound w.size w.count S.room.tables.count_low cs w l S.well S).0
      ∙ sym (run_sound w.size w.count S.room.tables.count_low cs v l S.well T).0

  -- ---- from an accepted setup on
  pub demand_2 : (size count : ℕ) (lent : Lent) → (setup_words E size count lent).0 ≡ done → (cs : List Call)
      → (answers (answer_words E) cs (setup_words E size count lent).1 ≡ answers (answer by_class size count) cs (setup by_class size count))
      × Sound E (end (answer_words E) cs (setup_words E size count lent).1) (end (answer by_class size count) cs (setup by_class size count))
  demand_2 size count lent accepted cs =
      let two : 2 ≤ count = ((setup_done E size count lent).0 accepted).1.count_low in
      let run = run_sound size count two cs (setup_words E size count lent).1 (setup by_class size count)
      (setup_well by_class class_laws size count two)
      (setup_sound E size count lent accepted) in
      (run.0, run.2)

  -- the ledger is the same after the stretch, so the words on both sides of it stand for one ledger
  stretch_alike : (w : Words) (l : Ledger Stacks) → Sound E w l → (cs : List Call) → Stretch [] (log (answer_words E) cs w) → (later-calls : List Call)
      → answers (answer_words E) later-calls (end (answer_words E) cs w) ≡ answers (answer_words E) later-calls w
  stretch_alike w l S cs h later-calls =
      let run = run_sound w.size w.count S.room.tables.count_low cs w l S.well S in
      let restored = stretch_restores by_class class_laws w.size w.count cs l S.well (subst (Stretch []) run.1 h) in
      alike (end (answer_words E) cs w) w l (subst (Sound E (end (answer_words E) cs w)) restored run.2) S later-calls

  pub demand_3 : (size count : ℕ) (lent : Lent) → (setup_words E size count lent).0 ≡ done → (before : List Call)
      → (cs : List Call) → Stretch [] (log (answer_words E) cs (end (answer_words E) before (setup_words E size count lent).1))
      → (later-calls : List Call)
      → answers (answer_words E) later-calls (end (answer_words E) cs (end (answer_words E) before (setup_words E size count lent).1))
      ≡ answers (answer_words E) later-calls (end (answer_words E) before (setup_words E size count lent).1)
  demand_3 size count lent accepted before cs h later-calls =
      stretch_alike (end (answer_words E) before (setup_words E size count lent).1) (end (answer by_class size count) before (setup by_class size count))
      (demand_2 size count lent accepted before).1 cs h later-calls
