-- Runs with readings from the other side, and as runs of the calls alone. Assumes nothing.
use mathlib.Core.Path.{◌≡◌, refl, sym, ap, subst, ◌∙◌}
use mathlib.Core.List.{List, [], ◌∷◌, ◌++◌, map}
use lib.IntN.{+ℤ_idl}
use Rattle.basics.proofs.Clash.{clash}
use Rattle.ledger.specs.Ledger.{Answer, granted, done, length_is, reported, classes, refused}
use Rattle.ledger.specs.Calls.{Fill, Ask}
use Rattle.tables.specs.Words.{Words, Edition}
use Rattle.tables.specs.Calls.{answer_words}
use Rattle.tables.specs.Room.{OfHead}
use Rattle.tables.specs.Promise.{Promise}
use Rattle.tables.proofs.Kept.{question_kept}
use Rattle.tables.proofs.Promise.{promise}
use Rattle.demands.specs.Runs as plain
use Rattle.demands.specs.Runs.{Calling, Step, called, Run, SizesFit}
use Rattle.demands.proofs.RunMeans.{run_means}
use Rattle.gauge.specs.Rule.{Watch, begun}
use Rattle.gauge.specs.Answers.{Told, read_after}
use Rattle.gauge.specs.Promise.{ReadPromise}
use Rattle.gauge.proofs.Promised.{read_promise}
use Rattle.gauge_runs.specs.Runs.{Asked, Other, Reading, Done, did, took, GaugedRun, nothing, then, reads, asked_of, other_asked, others, told_of}
use Rattle.gauge_runs.specs.Runs.{Seen, seen_of, nets_of, GaugedRunMeans}

-- ---- without its readings
pub others_asked : (ds : List Done) → plain.asked_of (others ds) ≡ other_asked (asked_of ds)
unfolding others asked_of other_asked plain.asked_of
others_asked [] = refl
others_asked (did q a ∷ ds) = ap (λ (qs : List plain.Asked). q ∷ qs) (others_asked ds)
others_asked (took t ∷ ds) = others_asked ds

pub without : (E : Edition) {w u : Words} {g h : Watch} {ds : List Done} → GaugedRun E w g ds u h → Run E w (others ds) u
unfolding others
without E nothing = plain.nothing
without E (then s rest) = plain.then s (without E rest)
without E (reads p rest) = without E rest

-- ---- with the question in place of each reading
unfoldable pub questions : List Asked → List plain.Asked
questions [] = []
questions (Other q ∷ qs) = q ∷ questions qs
questions (Reading ∷ qs) = Calling (Ask Fill) ∷ questions qs

-- what a reading shows of the answer to it, whatever the gauge
unfoldable pub seen_by : Answer → Seen
seen_by a = seen_of (read_after begun a).0

seen_by_lem : (g : Watch) (a : Answer) → seen_of (read_after g a).0 ≡ seen_by a
unfolding read_after seen_by
seen_by_lem g (granted o r) = refl
seen_by_lem g done = refl
seen_by_lem g (length_is n) = refl
seen_by_lem g (reported n m) = refl
seen_by_lem g (classes rows) = refl
seen_by_lem g (refused k) = refl

unfoldable pub seen_at : List Asked → List Answer → List Seen
seen_at [] rest = []
seen_at (q ∷ qs) [] = []
seen_at (Other q ∷ qs) (a ∷ rest) = seen_at qs rest
seen_at (Reading ∷ qs) (a ∷ rest) = seen_by a ∷ seen_at qs rest

asks : (E : Edition) (w : Words) → Promise E (Ask Fill) w w (answer_words E (Ask Fill) w).0
asks E w = promise E (Ask Fill) w (ap (λ (v : Words). ((answer_words E (Ask Fill) w).0, v)) (sym (question_kept E Fill w)))

pub record AsQuestions (E : Edition) (w : Words) (ds : List Done) (u : Words) : Type 0 where
  pub asked : List plain.Done
  pub run : Run E w asked u
  pub same_asked : plain.asked_of asked ≡ questions (asked_of ds)
  pub shows : seen_at (asked_of ds) (plain.answers_of asked) ≡ map seen_of (told_of ds)

pub as_questions : (E : Edition) {w u : Words} {g h : Watch} {ds : List Done} → GaugedRun E w g ds u h → AsQuestions E w ds u
unfolding asked_of questions told_of seen_at plain.asked_of plain.answers_of
as_questions E nothing = record { asked = []; run = plain.nothing; same_asked = refl; shows = refl }
as_questions E (then {q = q} {a = a} s rest) =
    let onward = as_questions E rest in
    record {
      asked = plain.did q a ∷ onward.asked;
      run = plain.then s onward.run;
      same_asked = ap (λ (qs : List plain.Asked). q ∷ qs) onward.same_asked;
      shows = onward.shows;
    }
as_questions E (reads {w = w} {g = g} {t = t} {ds = ds} p rest) =
    let onward = as_questions E rest in
    let a = (answer_words E (Ask Fill) w).0 in
    let step : Step E w (Calling (Ask Fill)) a w = called (asks E w) in
    let told_is : seen_by a ≡ seen_of t = sym (ap seen_of (ap (λ (x : Told × Watch). x.0) p.exact) ∙ seen_by_lem g a) in
    record {
      asked = plain.did (Calling (Ask Fill)) a ∷ onward.asked;
      run = plain.then step onward.run;
      same_asked = ap (λ (qs : List plain.Asked). Calling (Ask Fill) ∷ qs) onward.same_asked;
      shows = λ i. told_is i ∷ onward.shows i;
    }

-- the same asked and answered, the same seen
pub seen_alike : (E : Edition) {w v u x : Words} {ds es : List Done} (D : AsQuestions E w ds u) (F : AsQuestions E v es x) → asked_of ds ≡ asked_of es
    → plain.answers_of D.asked ≡ plain.answers_of F.asked → map seen_of (told_of ds) ≡ map seen_of (told_of es)
seen_alike E D F q a = sym D.shows ∙ (λ i. seen_at (q i) (a i)) ∙ F.shows

-- ---- what a run holds
-- readings put among the steps of a run
put_among : (E : Edition) (qs : List Asked) {w u : Words} (g : Watch) {es : List plain.Done} → Run E w es u → plain.asked_of es ≡ other_asked qs
    → (ds : List Done) × (h : Watch) × GaugedRun E w g ds u h × (asked_of ds ≡ qs)
unfolding other_asked asked_of plain.asked_of
put_among E [] g plain.nothing e = ([], g, nothing, refl)
put_among E [] g (plain.then s rest) e = clash (cc)
put_among E (Other q ∷ qs) g plain.nothing e = clash (cc)
put_among E (Other q ∷ qs) g (plain.then {q = p} {a = a} s rest) e =
    let onward = put_among E qs g rest (cc) in
    let same : p ≡ q = cc in
    (did p a ∷ onward.0, onward.1, then s onward.2, λ i. Other (same i) ∷ onward.3 i)
put_among E (Reading ∷ qs) {w = w} g run e =
    let x = read_after g (answer_words E (Ask Fill) w).0 in
    let onward = put_among E qs x.1 run e in
    (took x.0 ∷ onward.0, onward.1, reads (read_promise E w g x.0 x.1 refl) onward.2, ap (λ (xs : List Asked). Reading ∷ xs) onward.3)

every_run : (E : Edition) (w : Words) (g : Watch) → OfHead E w → (qs : List Asked) → SizesFit (other_asked qs)
    → (ds : List Done) × (u : Words) × (h : Watch) × GaugedRun E w g ds u h × (asked_of ds ≡ qs)
every_run E w g head qs fit =
    let alone = (run_means E).every_run w head (other_asked qs) fit in
    let among = put_among E qs g alone.2 alone.3 in
    (among.0, alone.1, among.1, among.2, among.3)

reading_told_lem : (E : Edition) {w u : Words} {g h : Watch} {t : Told} {ds : List Done} → GaugedRun E w g (took t ∷ ds) u h
    → (t ≡ (read_after g (answer_words E (Ask Fill) w).0).0) × GaugedRun E w (read_after g (answer_words E (Ask Fill) w).0).1 ds u h
reading_told_lem E {w = w} {u = u} {h = h} {ds = ds} (reads p rest) = (
  ap (λ (x : Told × Watch). x.0) p.exact,
  subst (λ (f : Watch). GaugedRun E w f ds u h) (ap (λ (x : Told × Watch). x.1) p.exact) rest,
)

other_step : (E : Edition) {w u : Words} {g h : Watch} {q : plain.Asked} {a : Answer} {ds : List Done} → GaugedRun E w g (did q a ∷ ds) u h
    → (v : Words) × Step E w q a v × GaugedRun E v g ds u h
other_step E (then {v = v} s rest) = (v, s, rest)

ends_there : (E : Edition) {w u : Words} {g h : Watch} → GaugedRun E w g [] u h → (u ≡ w) × (h ≡ g)
ends_there E nothing = (refl, refl)

every_question : (before after : List Done) → asked_of (before ++ after) ≡ asked_of before ++ asked_of after
unfolding asked_of
every_question [] after = refl
every_question (did q a ∷ before) after = ap (λ (xs : List Asked). Other q ∷ xs) (every_question before after)
every_question (took t ∷ before) after = ap (λ (xs : List Asked). Reading ∷ xs) (every_question before after)

-- both of what is told of a run are told of its parts
others_both : (before after : List Done) → others (before ++ after) ≡ others before ++ others after
unfolding others
others_both [] after = refl
others_both (did q a ∷ before) after = ap (λ (xs : List plain.Done). plain.did q a ∷ xs) (others_both before after)
others_both (took t ∷ before) after = others_both before after

told_both : (before after : List Done) → told_of (before ++ after) ≡ told_of before ++ told_of after
unfolding told_of
told_both [] after = refl
told_both (did q a ∷ before) after = told_both before after
told_both (took t ∷ before) after = ap (λ (xs : List Told). t ∷ xs) (told_both before after)

pub gauged_run_means : (E : Edition) → GaugedRunMeans E
unfolding others told_of nets_of
gauged_run_means E = record {
  every_run = every_run E;
  reading_told_lem = reading_told_lem E;
  other_step = other_step E;
  ends_there = ends_there E;
  every_question = every_question;
  every_other = λ before after q a. others_both before (did q a ∷ after);
  no_other = λ before after t. others_both before (took t ∷ after);
  every_reading = λ before after t. told_both before (took t ∷ after);
  no_other_reading = λ before after q a. told_both before (did q a ∷ after);
  fill_is_seen = λ fill level peak net. refl;
  number_is_seen = λ k. refl;
  one_fill = λ f e q. cc;
  one_number = λ k j q. cc;
  told_apart = λ f k q. clash (cc);
  nets_of_none = refl;
  nets_of_read = λ fill level peak net ts. refl;
  nets_of_refused = λ k ts. +ℤ_idl (nets_of ts);
}

-- a reading at the end of a run
pub and_reads : (E : Edition) {w u : Words} {g f h : Watch} {t : Told} {ds : List Done} → GaugedRun E w g ds u f → ReadPromise E u f t h
    → GaugedRun E w g (ds ++ (took t ∷ [])) u h
and_reads E nothing p = reads p nothing
and_reads E (then s rest) p = then s (and_reads E rest p)
and_reads E (reads r rest) p = reads r (and_reads E rest p)
