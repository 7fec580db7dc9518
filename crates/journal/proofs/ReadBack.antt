-- What was written is read. Assumes nothing.
use Prim.Native.Nat.{ℕ, ◌+◌, ◌≤◌}
use native.Mathlib.Omega.{arith}
use mathlib.Core.Path.{◌≡◌, refl, sym, ap, subst, ◌∙◌}
use Rattle.std.specs.Prelude.{Some}
use mathlib.Core.List.{List, [], ◌∷◌, ◌++◌, append_assoc}
use lib.ListN.{length, length-append}
use lib.Seq.{drop-append_seam}
use Rattle.calls.specs.declared.Call.{Call}
use Rattle.calls.specs.declared.Call.TheVariants.{Take, HandBack, SetUp, Reset}
use Rattle.calls.specs.Values.{Fits}
use Rattle.journal.specs.Bytes.{in_bytes, number}
use Rattle.journal.specs.Writing.{in_fields, body_of, record_of, journal_of}
use Rattle.journal.specs.Reading.{Read, length_in, kind_in, field_in, call_of, judged, read_here, read_at, ended, Holds, no_more, one_more}
use Rattle.journal.specs.Claims.{AllCallsFit}
use Rattle.journal.specs.Writing.{kind_of}
use Rattle.journal.proofs.Numbers.{made_again}
use Rattle.journal.proofs.KnownKinds.{judged_right}
use Rattle.journal.proofs.Places.{here_whole, read_end}

-- a record's own length and kind stand in it, whatever follows
named_own : (c : Call) (after : List ℕ) → length_in (record_of c ++ after) ≡ length (body_of c)
unfolding length_in number record_of body_of in_fields in_bytes
named_own (Take size) after = refl
named_own (HandBack span) after = refl
named_own (SetUp size count) after = refl
named_own Reset after = refl

kind_own : (c : Call) (after : List ℕ) → kind_in (record_of c ++ after) ≡ kind_of c
unfolding kind_in number record_of body_of in_fields in_bytes
kind_own (Take size) after = refl
kind_own (HandBack span) after = refl
kind_own (SetUp size count) after = refl
kind_own Reset after = refl

-- and so do its fields
call_own : (c : Call) (after : List ℕ) → Fits c → call_of (kind_of c) (record_of c ++ after) ≡ Some c
unfolding call_of field_in number record_of body_of in_fields in_bytes
call_own (Take size) after fits = ap (λ (n : ℕ). Some (Take record { 0 = n })) (made_again 4 size.0 fits.0)
call_own (HandBack span) after fits =
    let records = made_again 4 span.metadata.0 fits.0 in
    let offsets = made_again 4 span.offset fits.1.0 in
    λ i. Some (HandBack record { offset = offsets i; metadata = record { 0 = records i } })
call_own (SetUp size count) after fits =
    let sizes = made_again 4 size.0 fits.0 in
    let counts = made_again 4 count fits.1.0 in
    λ i. Some (SetUp record { 0 = sizes i } (counts i))
call_own Reset after fits = refl

-- of its length: two bytes more than what follows them, at least two of which are the kind
record_length : (c : Call) → length (record_of c) ≡ 2 + length (body_of c)
unfolding record_of body_of in_fields in_bytes
record_length (Take size) = refl
record_length (HandBack span) = refl
record_length (SetUp size count) = refl
record_length Reset = refl

body_length : (c : Call) → 2 ≤ length (body_of c)
unfolding body_of in_fields in_bytes
body_length (Take size) = omega arith
body_length (HandBack span) = omega arith
body_length (SetUp size count) = omega arith
body_length Reset = omega arith

pub own_lengths : (c : Call) → (length (record_of c) ≡ 2 + length (body_of c)) × (2 ≤ length (body_of c))
own_lengths c = (record_length c, body_length c)

here_own : (c : Call) (after : List ℕ) (at : ℕ) → Fits c → read_here (record_of c ++ after) at ≡ Read c (at + length (record_of c))
here_own c after at fits =
    let here : List ℕ = record_of c ++ after in
    let long : length here ≡ length (record_of c) + length after = length-append (record_of c) after in
    let own = record_length c in
    let two = body_length c in
    let named = named_own c after in
    here_whole here at (omega (arith, long, own, two)) (omega (arith, long, own, named)) (omega (arith, named, two))
    ∙ ap (λ (n : ℕ). judged n at (call_of (kind_in here) here)) named
    ∙ ap (λ (k : ℕ). judged (length (body_of c)) at (call_of k here)) (kind_own c after)
    ∙ ap (judged (length (body_of c)) at) (call_own c after fits)
    ∙ sym (judged_right (length (body_of c)) at c c refl refl)
    ∙ ap (λ (n : ℕ). Read c (at + n)) (sym own)

pub reads_back : (c : Call) → Fits c → (before after : List ℕ)
    → read_at (before ++ (record_of c ++ after)) (length before) ≡ Read c (length before + length (record_of c))
unfolding read_at
reads_back c fits before after =
    ap (λ (here : List ℕ). read_here here (length before)) (drop-append_seam before (record_of c ++ after)) ∙ here_own c after (length before) fits

-- a whole journal, behind other bytes
holds_behind : (cs : List Call) → AllCallsFit cs → (before : List ℕ) → Holds (before ++ journal_of cs) (length before) cs ended
unfolding journal_of
holds_behind [] fit before =
    no_more (sym (read_end (before ++ []) (length before) (omega (arith, length-append before []))))
holds_behind (c ∷ cs) fit before =
    let onward : Holds ((before ++ record_of c) ++ journal_of cs) (length (before ++ record_of c)) cs ended =
    holds_behind cs fit.1 (before ++ record_of c) in
    one_more (reads_back c fit.0 before (journal_of cs))
    (subst (λ (at : ℕ). Holds (before ++ (record_of c ++ journal_of cs)) at cs ended) (length-append before (record_of c))
    (subst (λ (bytes : List ℕ). Holds bytes (length (before ++ record_of c)) cs ended) (append_assoc before (record_of c) (journal_of cs)) onward))

pub written_holds : (cs : List Call) → AllCallsFit cs → Holds (journal_of cs) 0 cs ended
written_holds cs fit = holds_behind cs fit []
