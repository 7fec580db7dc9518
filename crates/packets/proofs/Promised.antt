-- A packet call whose answer, words and bytes are the model's keeps all that it promises. Assumes nothing.
use mathlib.Core.Path.{◌≡◌, refl, sym, ap, subst, ◌∙◌}
use mathlib.Core.Logic.{◌≢◌}
use mathlib.Core.Bool.{Bool, true, false, cond}
use mathlib.Core.List.{List, [], ◌∷◌}
use Prim.Native.Nat.{ℕ, zero, suc, ◌+◌, ◌≤◌}
use native.Mathlib.Omega.{arith}
use lib.Dec.{ltb}
use lib.ListN.{length, get_or}
use Rattle.basics.proofs.Clash.{clash}
use Rattle.basics.proofs.Decided.{Below, below, beyond, below?}
use Rattle.ledger.specs.Ledger.{Answer, granted, done, length_is, reported, classes, refused}
use Rattle.ledger.specs.Calls as ledger
use Rattle.tables.specs.Words.{Words, Edition}
use Rattle.tables.specs.Gate.{gated, gate_of}
use Rattle.tables.specs.Questions.{told_by}
use Rattle.tables.specs.Calls.{answer_words, behind}
use Rattle.tables.specs.Promise.{Promise}
use Rattle.tables.proofs.Promise.{promise}
use Rattle.demands.specs.Runs.{Done, did, Calling, called, Run, nothing, then}
use Rattle.parts.specs.Bytes.{over, not_heard, marked}
use Rattle.parts.proofs.Meanings.{bytes_mean}
use Rattle.packets.specs.declared.Store.{Store}
use Rattle.packets.specs.declared.Store.TheVariants.{OnChip, External}
use Rattle.packets.specs.Stores.{Kept, Two, two, at, put, with_words, with_bytes}
use Rattle.packets.specs.OneStore.{fresh_bytes, filled_by, take_in, hand_back_in, length_in, fill_in}
use Rattle.packets.specs.Calls.{PacketCall, Take, HandBack, Fill, Read, LengthOf, ReportOf, Answered, packet, plain}
use Rattle.packets.specs.Calls.{too_short, nine, goes_on, externally, after_first, take_from, on, packet_words}
use Rattle.packets.specs.Promise.{tried_on, if_named, once, calls_on, made_on, Within, MayWrite, PacketPromise}
use Rattle.packets.proofs.Parts.{marked_length}
use Rattle.packets.proofs.Steps.{both_long, length_in_size}

-- ---- bytes outside what is written over
outside_over : (store : List ℕ) (offset : ℕ) (bytes : List ℕ) (i : ℕ) → offset + length bytes ≤ length store → ¬ Within offset (length bytes) i
    → get_or (over store offset bytes) i 0 ≡ get_or store i 0
outside_over store offset bytes i h never = go (below? i offset) (below? i (offset + length bytes))
  where
    go : Below i offset → Below i (offset + length bytes) → get_or (over store offset bytes) i 0 ≡ get_or store i 0
    go (below b z) q = bytes_mean.over_before store offset bytes i (omega (arith, h)) b
    go (beyond b z) (below d y) = absurd (never (b, d))
    go (beyond b z) (beyond d y) = bytes_mean.over_behind store offset bytes i (omega (arith, h)) d

outside_marked : (store : List ℕ) (offset n i : ℕ) → offset + n ≤ length store → ¬ Within offset n i
    → get_or (marked store offset n) i 0 ≡ get_or store i 0
outside_marked store offset n i h never =
    let many = bytes_mean.not_heard_length n in
    ap (λ (x : List ℕ). get_or x i 0) (bytes_mean.marked_is store offset n)
    ∙ outside_over store offset (not_heard n) i (omega (arith, many, h)) (subst (λ (m : ℕ). ¬ Within offset m i) (sym many) never)

-- ---- what a fill leaves, by the length that was told
refused_leaves : (a : Answer) (o : ℕ) (new bytes : List ℕ) (k : ℕ) → (filled_by a o new bytes).0 ≡ refused k → (filled_by a o new bytes).1 ≡ bytes
unfolding filled_by
refused_leaves (granted p r) o new bytes k e = refl
refused_leaves done o new bytes k e = refl
refused_leaves (length_is n) o new bytes k e = go (ltb n (length new)) e
  where
    go : (many : Bool) → (cond {A = Answer × List ℕ} many (refused 17, bytes) (done, over bytes o new)).0 ≡ refused k
        → (cond {A = Answer × List ℕ} many (refused 17, bytes) (done, over bytes o new)).1 ≡ bytes
    go true f = refl
    go false f = clash (cc)
refused_leaves (reported n m) o new bytes k e = refl
refused_leaves (classes rows) o new bytes k e = refl
refused_leaves (refused n) o new bytes k e = refl

filled_outside : (a : Answer) (o : ℕ) (new bytes : List ℕ) (i : ℕ) → ((n : ℕ) → a ≡ length_is n → o + n ≤ length bytes) → ¬ Within o (length new) i
    → get_or (filled_by a o new bytes).1 i 0 ≡ get_or bytes i 0
unfolding filled_by
filled_outside (granted p r) o new bytes i long never = refl
filled_outside done o new bytes i long never = refl
filled_outside (length_is n) o new bytes i long never = go (below? n (length new))
  where
    go : Below n (length new) → get_or (filled_by (length_is n) o new bytes).1 i 0 ≡ get_or bytes i 0
    go (below h z) = ap (λ (t : Bool). get_or (cond {A = Answer × List ℕ} t (refused 17, bytes) (done, over bytes o new)).1 i 0) z
    go (beyond h z) =
        ap (λ (t : Bool). get_or (cond {A = Answer × List ℕ} t (refused 17, bytes) (done, over bytes o new)).1 i 0) z
        ∙ outside_over bytes o new i (omega (arith, h, long n refl)) never
filled_outside (reported n m) o new bytes i long never = refl
filled_outside (classes rows) o new bytes i long never = refl
filled_outside (refused n) o new bytes i long never = refl

filled_length : (a : Answer) (o : ℕ) (new bytes : List ℕ) → ((n : ℕ) → a ≡ length_is n → o + n ≤ length bytes)
    → length (filled_by a o new bytes).1 ≡ length bytes
unfolding filled_by
filled_length (granted p r) o new bytes long = refl
filled_length done o new bytes long = refl
filled_length (length_is n) o new bytes long = go (below? n (length new))
  where
    go : Below n (length new) → length (filled_by (length_is n) o new bytes).1 ≡ length bytes
    go (below h z) = ap (λ (t : Bool). length (cond {A = Answer × List ℕ} t (refused 17, bytes) (done, over bytes o new)).1) z
    go (beyond h z) =
        ap (λ (t : Bool). length (cond {A = Answer × List ℕ} t (refused 17, bytes) (done, over bytes o new)).1) z
        ∙ bytes_mean.over_length bytes o new (omega (arith, h, long n refl))
filled_length (reported n m) o new bytes long = refl
filled_length (classes rows) o new bytes long = refl
filled_length (refused n) o new bytes long = refl

-- ---- questions leave every word
gated_same : (k : ℕ) (w : Words) (a : Answer) → (gated k w (a, w)).1 ≡ w
unfolding gated
gated_same zero w a = refl
gated_same (suc k) w a = refl

module _ (E : Edition) where
  question_keeps : (q : ledger.Question) (w : Words) → (answer_words E (ledger.Ask q) w).1 ≡ w
  unfolding answer_words behind
  question_keeps q w = gated_same (gate_of E w) w (told_by w q)

  one_call : (c : ledger.Call) (w : Words) → Run E w (did (Calling c) (answer_words E c w).0 ∷ []) (answer_words E c w).1
  one_call c w = then (called (promise E c w refl)) nothing

  one_question : (q : ledger.Question) (w : Words) → Run E w (did (Calling (ledger.Ask q)) (answer_words E (ledger.Ask q) w).0 ∷ []) w
  one_question q w =
      subst (Run E w (did (Calling (ledger.Ask q)) (answer_words E (ledger.Ask q) w).0 ∷ [])) (question_keeps q w) (one_call (ledger.Ask q) w)

  -- ---- what is promised beside the exact outcome
  record Facts (c : PacketCall) (t : Two) (outcome : Answered × Two) (calls : Store → List Done) : Type 0 where
    made : (s : Store) → Run E (at s t).words (calls s) (at s outcome.1).words
    kept : (k : ℕ) → outcome.0 ≡ plain (refused k) → outcome.1 ≡ t
    outside : (s : Store) (i : ℕ) → ¬ MayWrite c outcome.0 s i → get_or (at s outcome.1).bytes i 0 ≡ get_or (at s t).bytes i 0
    lengths : (s : Store) → length (at s outcome.1).bytes ≡ length (at s t).bytes
    inside : (asked : ledger.Request) (s : Store) (o r : ℕ) → c ≡ Take asked → outcome.0 ≡ packet s o r
        → o + asked.size ≤ length (at s t).bytes

  -- a call that changes nothing at all
  still : (c : PacketCall) (t : Two) (a : Answered) (calls : Store → List Done)
      → ((s : Store) → Run E (at s t).words (calls s) (at s t).words) → ((s : Store) (o r : ℕ) → a ≢ packet s o r) → Facts c t (a, t) calls
  still c t a calls runs never = record {
    made = runs;
    kept = λ k e. refl;
    outside = λ s i n. refl;
    lengths = λ s. refl;
    inside = λ asked s o r e f. absurd (never s o r f);
  }

  -- 9 before all else
  gate : (c : PacketCall) (t : Two) (outcome : Answered × Two) (calls : Store → List Done) → (too_short t ≡ false → Facts c t outcome calls)
      → Facts c t (nine (too_short t) t outcome) (λ s. cond (too_short t) [] (calls s))
  gate c t outcome calls f = go (too_short t) f
    where
      go : (short : Bool) → (short ≡ false → Facts c t outcome calls) → Facts c t (nine short t outcome) (λ s. cond short [] (calls s))
      go true g = still c t (plain (refused 9)) (λ s. []) (λ s. nothing) (λ s o r e. clash (cc))
      go false g = g refl

  -- ---- a take on one store
  record OneTake (asked : ledger.Request) (k : Kept) (a : Answer) (left : Kept) : Type 0 where
    run : Run E k.words (did (Calling (ledger.Take asked)) a ∷ []) left.words
    refused_same : (n : ℕ) → a ≡ refused n → left ≡ k
    grant_alone : (o r i : ℕ) → a ≡ granted o r → ¬ Within o asked.size i → get_or left.bytes i 0 ≡ get_or k.bytes i 0
    no_grant : ((o r : ℕ) → a ≢ granted o r) → left.bytes ≡ k.bytes
    same_length : length left.bytes ≡ length k.bytes
    lies_inside : (o r : ℕ) → a ≡ granted o r → o + asked.size ≤ length k.bytes

  fresh_same : (a : Answer) (s : ℕ) (bytes : List ℕ) → ((o r : ℕ) → a ≢ granted o r) → fresh_bytes a s bytes ≡ bytes
  unfolding fresh_bytes
  fresh_same (granted o r) s bytes never = absurd (never o r refl)
  fresh_same done s bytes never = refl
  fresh_same (length_is n) s bytes never = refl
  fresh_same (reported n m) s bytes never = refl
  fresh_same (classes rows) s bytes never = refl
  fresh_same (refused k) s bytes never = refl

  one_take : (asked : ledger.Request) (k : Kept) → k.words.size ≤ length k.bytes
      → OneTake asked k (take_in E asked k).0 (take_in E asked k).1
  unfolding take_in
  one_take asked k long = record {
    run = one_call (ledger.Take asked) k.words;
    refused_same = λ n e.
        let words_same : outcome.1 ≡ k.words = promised.kept n e in
        let bytes_same : fresh_bytes outcome.0 asked.size k.bytes ≡ k.bytes =
        fresh_same outcome.0 asked.size k.bytes (λ o r f. clash (cc)) in
        λ i. record { words = words_same i; bytes = bytes_same i };
    grant_alone = λ o r i e never. marks o r e i never;
    no_grant = λ never. fresh_same outcome.0 asked.size k.bytes never;
    same_length = lengths_same outcome.0 refl;
    lies_inside = in_store;
  }
    where
      outcome : Answer × Words
      outcome = answer_words E (ledger.Take asked) k.words

      promised : Promise E (ledger.Take asked) k.words outcome.1 outcome.0
      promised = promise E (ledger.Take asked) k.words refl

      in_store : (o r : ℕ) → outcome.0 ≡ granted o r → o + asked.size ≤ length k.bytes
      in_store o r e = omega (arith, promised.inside asked o r refl e, long)

      marks : (o r : ℕ) → outcome.0 ≡ granted o r → (i : ℕ) → ¬ Within o asked.size i
          → get_or (fresh_bytes outcome.0 asked.size k.bytes) i 0 ≡ get_or k.bytes i 0
      marks o r e i never =
          ap (λ (a : Answer). get_or (fresh_bytes a asked.size k.bytes) i 0) e ∙ outside_marked k.bytes o asked.size i (in_store o r e) never

      lengths_same : (a : Answer) → outcome.0 ≡ a → length (fresh_bytes outcome.0 asked.size k.bytes) ≡ length k.bytes
      lengths_same (granted o r) e =
          ap (λ (a : Answer). length (fresh_bytes a asked.size k.bytes)) e ∙ marked_length k.bytes o asked.size (in_store o r e)
      lengths_same done e = ap (λ (x : List ℕ). length x) (fresh_same outcome.0 asked.size k.bytes (λ o r f. clash (cc)))
      lengths_same (length_is n) e = ap (λ (x : List ℕ). length x) (fresh_same outcome.0 asked.size k.bytes (λ o r f. clash (cc)))
      lengths_same (reported n m) e = ap (λ (x : List ℕ). length x) (fresh_same outcome.0 asked.size k.bytes (λ o r f. clash (cc)))
      lengths_same (classes rows) e = ap (λ (x : List ℕ). length x) (fresh_same outcome.0 asked.size k.bytes (λ o r f. clash (cc)))
      lengths_same (refused n) e = ap (λ (x : List ℕ). length x) (fresh_same outcome.0 asked.size k.bytes (λ o r f. clash (cc)))

  -- ---- a take over both: the calls that are made on each store
  abbrev pair : List Done → List Done → Store → List Done
  pair first second OnChip = first
  pair first second External = second

  module _ (asked : ledger.Request) (t : Two) where
    abbrev one : Answer → List Done
    one a = did (Calling (ledger.Take asked)) a ∷ []

    -- what is left of both stores, each told by its own take or by none
    beside : (a : Answered) (first second : Kept) (calls others : List Done)
        → Run E t.on_chip.words calls first.words → Run E t.external.words others second.words
        → ((k : ℕ) → a ≡ plain (refused k) → (first ≡ t.on_chip) × (second ≡ t.external))
        → ((s : Store) (i : ℕ) → ¬ MayWrite (Take asked) a s i → get_or (at s (two first second)).bytes i 0 ≡ get_or (at s t).bytes i 0)
        → length first.bytes ≡ length t.on_chip.bytes → length second.bytes ≡ length t.external.bytes
        → ((s : Store) (o r : ℕ) → a ≡ packet s o r → o + asked.size ≤ length (at s t).bytes)
        → Facts (Take asked) t (a, two first second) (pair calls others)
    beside a first second calls others p q same out long long_too within = record {
      made = elim [ OnChip ↦ p | External ↦ q ];
      kept = λ k e. λ i. two ((same k e).0 i) ((same k e).1 i);
      outside = out;
      lengths = elim [ OnChip ↦ long | External ↦ long_too ];
      inside = λ other s o r e f. subst (λ (x : ledger.Request). o + x.size ≤ length (at s t).bytes) (asked_is other e) (within s o r f);
    }
      where
        asked_is : (other : ledger.Request) → Take asked ≡ Take other → asked ≡ other
        asked_is other e = cc

    -- it ends with the first store, which granted nothing
    stops : (a : Answer) (left : Kept) → OneTake asked t.on_chip a left → ((o r : ℕ) → a ≢ granted o r)
        → Facts (Take asked) t (plain a, two left t.external) (pair (one a) [])
    stops a left x never =
        beside (plain a) left t.external (one a) [] x.run nothing
        (λ k e. let same : a ≡ refused k = cc in (x.refused_same k same, refl))
        (λ s i n. bytes s i) x.same_length refl (λ s o r e. clash (cc))
      where
        bytes : (s : Store) (i : ℕ) → get_or (at s (two left t.external)).bytes i 0 ≡ get_or (at s t).bytes i 0
        bytes OnChip i = ap (λ (l : List ℕ). get_or l i 0) (x.no_grant never)
        bytes External i = refl

    -- the first store grants it
    grants_here : (o r : ℕ) (left : Kept) → OneTake asked t.on_chip (granted o r) left
        → Facts (Take asked) t (packet OnChip o r, two left t.external) (pair (one (granted o r)) [])
    grants_here o r left x =
        beside (packet OnChip o r) left t.external (one (granted o r)) [] x.run nothing (λ k e. clash (cc)) bytes x.same_length refl within
      where
        bytes : (s : Store) (i : ℕ) → ¬ MayWrite (Take asked) (packet OnChip o r) s i
            → get_or (at s (two left t.external)).bytes i 0 ≡ get_or (at s t).bytes i 0
        bytes OnChip i never = x.grant_alone o r i refl (λ w. never (refl, w))
        bytes External i never = refl

        within : (s : Store) (p q : ℕ) → packet OnChip o r ≡ packet s p q → p + asked.size ≤ length (at s t).bytes
        within OnChip p q e = x.lies_inside p q (cc)
        within External p q e = clash (cc)

    -- the first store refuses it, and the second is tried: it grants nothing either
    stops_there : (k : ℕ) (b : Answer) (left then-left : Kept) → OneTake asked t.on_chip (refused k) left → OneTake asked t.external b then-left
        → ((o r : ℕ) → b ≢ granted o r) → Facts (Take asked) t (plain b, two left then-left) (pair (one (refused k)) (one b))
    stops_there k b left then-left x y never =
        beside (plain b) left then-left (one (refused k)) (one b) x.run y.run
        (λ n e. let same : b ≡ refused n = cc in (x.refused_same k refl, y.refused_same n same))
        (λ s i n. bytes s i) x.same_length y.same_length (λ s o r e. clash (cc))
      where
        bytes : (s : Store) (i : ℕ) → get_or (at s (two left then-left)).bytes i 0 ≡ get_or (at s t).bytes i 0
        bytes OnChip i = ap (λ (m : Kept). get_or m.bytes i 0) (x.refused_same k refl)
        bytes External i = ap (λ (l : List ℕ). get_or l i 0) (y.no_grant never)

    grants_there : (k o r : ℕ) (left then-left : Kept) → OneTake asked t.on_chip (refused k) left
        → OneTake asked t.external (granted o r) then-left
        → Facts (Take asked) t (packet External o r, two left then-left) (pair (one (refused k)) (one (granted o r)))
    grants_there k o r left then-left x y =
        beside (packet External o r) left then-left (one (refused k)) (one (granted o r)) x.run y.run (λ n e. clash (cc)) bytes
        x.same_length y.same_length within
      where
        bytes : (s : Store) (i : ℕ) → ¬ MayWrite (Take asked) (packet External o r) s i
            → get_or (at s (two left then-left)).bytes i 0 ≡ get_or (at s t).bytes i 0
        bytes OnChip i never = ap (λ (m : Kept). get_or m.bytes i 0) (x.refused_same k refl)
        bytes External i never = y.grant_alone o r i refl (λ w. never (refl, w))

        within : (s : Store) (p q : ℕ) → packet External o r ≡ packet s p q → p + asked.size ≤ length (at s t).bytes
        within OnChip p q e = clash (cc)
        within External p q e = y.lies_inside p q (cc)

    -- by the second answer
    outside_chip : (k : ℕ) (b : Answer) (left then-left : Kept) → OneTake asked t.on_chip (refused k) left → OneTake asked t.external b then-left
        → Facts (Take asked) t ((externally (b, then-left)).0, two left then-left) (pair (one (refused k)) (one b))
    outside_chip k (granted o r) left then-left x y = grants_there k o r left then-left x y
    outside_chip k done left then-left x y = stops_there k done left then-left x y (λ o r e. clash (cc))
    outside_chip k (length_is n) left then-left x y = stops_there k (length_is n) left then-left x y (λ o r e. clash (cc))
    outside_chip k (reported n m) left then-left x y = stops_there k (reported n m) left then-left x y (λ o r e. clash (cc))
    outside_chip k (classes rows) left then-left x y = stops_there k (classes rows) left then-left x y (λ o r e. clash (cc))
    outside_chip k (refused n) left then-left x y = stops_there k (refused n) left then-left x y (λ o r e. clash (cc))

    -- by the first
    by_first : (a b : Answer) (left then-left : Kept) → OneTake asked t.on_chip a left → OneTake asked t.external b then-left
        → Facts (Take asked) t (after_first a left t.external (b, then-left)) (pair (one a) (tried_on a (one b)))
    by_first (granted o r) b left then-left x y = grants_here o r left x
    by_first done b left then-left x y = stops done left x (λ o r e. clash (cc))
    by_first (length_is n) b left then-left x y = stops (length_is n) left x (λ o r e. clash (cc))
    by_first (reported n m) b left then-left x y = stops (reported n m) left x (λ o r e. clash (cc))
    by_first (classes rows) b left then-left x y = stops (classes rows) left x (λ o r e. clash (cc))
    by_first (refused k) b left then-left x y = go (goes_on k)
      where
        go : (goes : Bool)
            → Facts (Take asked) t
            (cond goes ((externally (b, then-left)).0, two left then-left) (plain (refused k), two left t.external))
            (pair (one (refused k)) (cond goes (one b) []))
        go true = outside_chip k b left then-left x y
        go false = stops (refused k) left x (λ o r e. clash (cc))

  take_facts : (asked : ledger.Request) (t : Two) → too_short t ≡ false
      → Facts (Take asked) t (take_from E asked t) (λ s. calls_on E s (Take asked) t)
  unfolding take_from take_in
  take_facts asked t e =
      let long = both_long (length t.on_chip.bytes) t.on_chip.words.size (length t.external.bytes) t.external.words.size e in
      let facts = by_first asked t _ _ _ _ (one_take asked t.on_chip long.0) (one_take asked t.external long.1) in
      record {
        made = elim [ OnChip ↦ facts.made OnChip | External ↦ facts.made External ];
        kept = facts.kept;
        outside = facts.outside;
        lengths = facts.lengths;
        inside = facts.inside;
      }

  -- ---- a call on the store that is named
  on_one : (c : PacketCall) (named : Store) (t : Two) (a : Answer) (left : Kept) (calls : Store → List Done)
      → Run E (at named t).words (calls named) left.words
      → ((s : Store) → s ≢ named → calls s ≡ [])
      → ((k : ℕ) → a ≡ refused k → left ≡ at named t)
      → ((i : ℕ) → ¬ MayWrite c (plain a) named i → get_or left.bytes i 0 ≡ get_or (at named t).bytes i 0)
      → length left.bytes ≡ length (at named t).bytes
      → Facts c t (plain a, put named left t) calls
  on_one c OnChip t a left calls run nowhere same out long = record {
    made = elim [
      | OnChip ↦ run
      | External ↦ subst (λ (ds : List Done). Run E t.external.words ds t.external.words) (sym (nowhere External (λ e. clash (cc)))) nothing
    ];
    kept = λ k e. let so : a ≡ refused k = cc in ap (λ (x : Kept). two x t.external) (same k so);
    outside = elim [ OnChip ↦ out | External ↦ λ i n. refl ];
    lengths = elim [ OnChip ↦ long | External ↦ refl ];
    inside = λ asked s o r e f. clash (cc);
  }
  on_one c External t a left calls run nowhere same out long = record {
    made = elim [
      | OnChip ↦ subst (λ (ds : List Done). Run E t.on_chip.words ds t.on_chip.words) (sym (nowhere OnChip (λ e. clash (cc)))) nothing
      | External ↦ run
    ];
    kept = λ k e. let so : a ≡ refused k = cc in ap (λ (x : Kept). two t.on_chip x) (same k so);
    outside = elim [ OnChip ↦ λ i n. refl | External ↦ out ];
    lengths = elim [ OnChip ↦ refl | External ↦ long ];
    inside = λ asked s o r e f. clash (cc);
  }

  elsewhere_none : (named s : Store) (ds : List Done) → s ≢ named → if_named named s ds ≡ []
  elsewhere_none OnChip OnChip ds other = absurd (other refl)
  elsewhere_none OnChip External ds other = refl
  elsewhere_none External OnChip ds other = refl
  elsewhere_none External External ds other = absurd (other refl)

  named_there : (named : Store) (ds : List Done) → if_named named named ds ≡ ds
  named_there OnChip ds = refl
  named_there External ds = refl

  back_facts : (named : Store) (span : ledger.Token) (t : Two)
      → Facts (HandBack named span) t (on named t (hand_back_in E span (at named t))) (λ s. calls_on E s (HandBack named span) t)
  unfolding hand_back_in
  back_facts named span t =
      let w = (at named t).words in
      let promised : Promise E (ledger.HandBack span) w (answer_words E (ledger.HandBack span) w).1 (answer_words E (ledger.HandBack span) w).0 =
      promise E (ledger.HandBack span) w refl in
      on_one (HandBack named span) named t _ _ (λ s. calls_on E s (HandBack named span) t)
      (subst (λ (ds : List Done). Run E w ds (answer_words E (ledger.HandBack span) w).1)
      (sym (named_there named (once E (ledger.HandBack span) named t))) (one_call (ledger.HandBack span) w))
      (λ s other. elsewhere_none named s (once E (ledger.HandBack span) s t) other)
      (λ k e. ap (λ (v : Words). with_words (at named t) v) (promised.kept k e))
      (λ i n. refl) refl

  -- the question that is asked of the store that is named
  question_made : (named : Store) (q : ledger.Question) (t : Two)
      → (s : Store) → Run E (at s t).words (if_named named s (once E (ledger.Ask q) s t)) (at s t).words
  question_made OnChip q t OnChip = one_question q t.on_chip.words
  question_made OnChip q t External = nothing
  question_made External q t OnChip = nothing
  question_made External q t External = one_question q t.external.words

  fill_facts : (named : Store) (span : ledger.Token) (new : List ℕ) (t : Two) → too_short t ≡ false
      → Facts (Fill named span new) t (on named t (fill_in E span new (at named t))) (λ s. calls_on E s (Fill named span new) t)
  unfolding fill_in
  fill_facts named span new t e =
      on_one (Fill named span new) named t _ _ (λ s. calls_on E s (Fill named span new) t)
      (question_made named (ledger.SizeOf span) t named)
      (λ s other. elsewhere_none named s (once E (ledger.Ask (ledger.SizeOf span)) s t) other)
      (λ k f. ap (λ (b : List ℕ). with_bytes (at named t) b) (refused_same told refl k f))
      (λ i never. outside told refl i (λ w. never (refl, w)))
      (long_same told refl)
    where
      told : Answer
      told = length_in E span (at named t)

      long : (s : Store) → (at s t).words.size ≤ length (at s t).bytes
      long =
          let both = both_long (length t.on_chip.bytes) t.on_chip.words.size (length t.external.bytes) t.external.words.size e in
          elim [ OnChip ↦ both.0 | External ↦ both.1 ]

      in_bytes : (n : ℕ) → length_in E span (at named t) ≡ length_is n → span.offset + n ≤ length (at named t).bytes
      in_bytes n f = omega (arith, length_in_size E span (at named t) n f, long named)

      refused_same : (a : Answer) → length_in E span (at named t) ≡ a → (k : ℕ) → (filled_by a span.offset new (at named t).bytes).0 ≡ refused k
          → (filled_by a span.offset new (at named t).bytes).1 ≡ (at named t).bytes
      refused_same a f k g = refused_leaves a span.offset new (at named t).bytes k g

      outside : (a : Answer) → length_in E span (at named t) ≡ a → (i : ℕ) → ¬ Within span.offset (length new) i
          → get_or (filled_by a span.offset new (at named t).bytes).1 i 0 ≡ get_or (at named t).bytes i 0
      outside a f i never = filled_outside a span.offset new (at named t).bytes i (λ n g. in_bytes n (f ∙ g)) never

      long_same : (a : Answer) → length_in E span (at named t) ≡ a
          → length (filled_by a span.offset new (at named t).bytes).1 ≡ length (at named t).bytes
      long_same a f = filled_length a span.offset new (at named t).bytes (λ n g. in_bytes n (f ∙ g))

  -- ---- all of it
  facts : (c : PacketCall) (t : Two) → Facts c t (packet_words E c t) (λ s. made_on E s c t)
  unfolding packet_words made_on
  facts (Take asked) t = gate (Take asked) t _ _ (take_facts asked t)
  facts (HandBack s span) t = gate (HandBack s span) t _ _ (λ e. back_facts s span t)
  facts (Fill s span new) t = gate (Fill s span new) t _ _ (fill_facts s span new t)
  facts (Read s span) t = still (Read s span) t _ _ (λ named. gone (too_short t) (question_made s (ledger.SizeOf span) t named)) (λ named o r e. clash (cc))
    where
      gone : {w : Words} {ds : List Done} (short : Bool) → Run E w ds w → Run E w (cond short [] ds) w
      gone true run = nothing
      gone false run = run
  facts (LengthOf s span) t =
      gate (LengthOf s span) t _ _
      (λ e. still (LengthOf s span) t _ _ (question_made s (ledger.SizeOf span) t) (λ named o r f. clash (cc)))
  facts (ReportOf s) t =
      gate (ReportOf s) t _ _ (λ e. still (ReportOf s) t _ _ (question_made s ledger.Report t) (λ named o r f. clash (cc)))

  pub every_call : (c : PacketCall) (t : Two) → PacketPromise E c t (packet_words E c t).1 (packet_words E c t).0
  every_call c t = record {
    exact = refl;
    made = (facts c t).made;
    kept = (facts c t).kept;
    outside = (facts c t).outside;
    lengths = (facts c t).lengths;
    inside = (facts c t).inside;
  }

  pub promised : (c : PacketCall) (t u : Two) (a : Answered) → (a, u) ≡ packet_words E c t → PacketPromise E c t u a
  promised c t u a e = subst (λ (x : Answered × Two). PacketPromise E c t x.1 x.0) (sym e) (every_call c t)
