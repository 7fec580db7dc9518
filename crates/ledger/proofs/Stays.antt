-- A live region stays where it is, at its length, until it is handed back by its offset and record or the store is reset. Assumes nothing.
use Rattle.ledger.specs.Ledger.{Engine, Ledger, Side, cut, beside, merge, Region, live, free, len}
use Rattle.ledger.specs.Laws.{Laws}
use mathlib.Core.Path.{◌≡◌, refl, sym, ◌∙◌}
use Prim.Native.Nat.{ℕ, zero, suc, ◌+◌, ◌-◌, ◌≤◌}
use native.Mathlib.Omega.{arith}
use mathlib.Core.Logic.{◌≢◌}
use mathlib.Core.List.{List, [], ◌∷◌, reverse_aux}
use lib.ListN.{get_or}
use Rattle.basics.specs.Sum.{tally}
use Rattle.basics.proofs.Clash.{clash}
use Rattle.ledger.specs.Calls.{Token, span_of, answer, end, Call}
use Rattle.ledger.specs.WellFormed.{WellFormed}
use Rattle.ledger.specs.Spans.{At, first, later, Leaves, AllLeave}
use Rattle.ledger.proofs.Places.{Between, between_at, Where, here, further, where?, at_none, at_behind, same_place}
use Rattle.ledger.proofs.Records.{once_in_line}
use Rattle.ledger.proofs.KeptLine.{side_len}
use Rattle.ledger.proofs.Outcomes.{CallCase, refuses, cuts, merges, resets, asks, call_case}
use Rattle.ledger.proofs.CallsWell.{call_well}

module _ (E : Engine) (laws : Laws E) where
  -- A region of a line that is cut in two: it stands in front, and so it stands there whatever follows, or it stands behind.
  data Half (y : Region) (o start : ℕ) (front rest : List Region) : Type 0 where
    in_front : ((other : List Region) → At y o (reverse_aux front other)) → Half y o start front rest
    behind : (p : ℕ) → o ≡ start + p → At y p rest → Half y o start front rest

  half : {y : Region} {o : ℕ} (front rest : List Region) → At y o (reverse_aux front rest) → Half y o (tally len front) front rest
  half {o = o} [] rest a = behind o (omega arith) a
  half {y} {o} (x ∷ front) rest a = go (half front (x ∷ rest) a)
    where
      by_place : (p : ℕ) → o ≡ tally len front + p → Where y p x rest → Half y o (tally len (x ∷ front)) (x ∷ front) rest
      by_place p e (here q z) = in_front (λ other. rw q (at_behind front first (omega arith)))
      by_place p e (further k z b) = behind k (omega arith) b

      go : Half y o (tally len front) front (x ∷ rest) → Half y o (tally len (x ∷ front)) (x ∷ front) rest
      go (in_front stays) = in_front (λ other. stays (x ∷ other))
      go (behind p e b) = by_place p e (where? b)

  -- a live region is not the free neighbour that a merge takes in, before or after
  before_rest : {n r o : ℕ} (before rest : List Region) (x : E.Index) → At (live n r) o (reverse_aux before rest)
      → Half (live n r) o (tally len before) (beside E before x).rest rest
  unfolding beside
  before_rest [] rest x a = half [] rest a
  before_rest (live m q ∷ before) rest x a = half (live m q ∷ before) rest a
  before_rest {n} {r} {o} (free m q ∷ before) rest x a = go (half before (free m q ∷ rest) a)
    where
      by_place : (p : ℕ) → o ≡ tally len before + p → Where (live n r) p (free m q) rest
          → Half (live n r) o (tally len (free m q ∷ before)) before rest
      by_place p e (here c z) = clash (cc)
      by_place p e (further k z b) = behind k (omega arith) b

      go : Half (live n r) o (tally len before) before (free m q ∷ rest) → Half (live n r) o (tally len (free m q ∷ before)) before rest
      go (in_front stays) = in_front stays
      go (behind p e b) = by_place p e (where? b)

  after_rest : {n r o : ℕ} (after : List Region) (x : E.Index) → At (live n r) o after
      → (p : ℕ) × (o ≡ (beside E after x).added + p) × At (live n r) p (beside E after x).rest
  unfolding beside
  after_rest [] x a = absurd (at_none a)
  after_rest {o = o} (live m q ∷ after) x a = (o, omega arith, a)
  after_rest {n} {r} {o} (free m q ∷ after) x a = go (where? a)
    where
      go : Where (live n r) o (free m q) after → (p : ℕ) × (o ≡ m + p) × At (live n r) p after
      go (here e z) = clash (cc)
      go (further p e b) = (p, e, b)

  -- ---- cut and merge leave it where it is
  cut_leaves : (s k : ℕ) {before after : List Region} {n r m q o : ℕ} (l : Ledger E.Index) → Between before (free m q) after l.line → s + k ≡ m
      → At (live n r) o l.line → At (live n r) o (cut E s k before m q after l).line
  unfolding cut
  cut_leaves s k {before} {after} {n} {r} {m} {q} {o} l b e a = go k e (half before (free m q ∷ after) (rw b.line_is at a))
    where
      moved : (k : ℕ) → s + k ≡ m → (p : ℕ) → o ≡ tally len before + p → Where (live n r) p (free m q) after
          → At (live n r) o (cut E s k before m q after l).line
      moved k e p z (here c w) = clash (cc)
      moved zero e p z (further j w c) = at_behind before (later {y = live s q} c) (omega arith)
      moved (suc k) e p z (further j w c) =
          at_behind before (later {y = live s q} (later {y = free (suc k) (get_or l.pile 0 0)} c)) (omega arith)

      go : (k : ℕ) → s + k ≡ m → Half (live n r) o (tally len before) before (free m q ∷ after)
          → At (live n r) o (cut E s k before m q after l).line
      go zero e (in_front stays) = stays _
      go (suc k) e (in_front stays) = stays _
      go zero e (behind p z c) = moved zero e p z (where? c)
      go (suc k) e (behind p z c) = moved (suc k) e p z (where? c)

  merge_leaves : {before after : List Region} {n r m q o : ℕ} (l : Ledger E.Index) → Between before (live m q) after l.line → q ≢ r
      → At (live n r) o l.line → At (live n r) o (merge E before m q after l).line
  unfolding merge
  merge_leaves {before} {after} {n} {r} {m} {q} {o} l b h a =
      go (before_rest before (live m q ∷ after) l.index (rw b.line_is at a))
    where
      b_side : Side E.Index
      b_side = beside E before l.index

      a_side : Side E.Index
      a_side = beside E after b_side.index

      whole : ℕ
      whole = b_side.added + m + a_side.added

      moved : (p : ℕ) → o ≡ tally len before + p → Where (live n r) p (live m q) after
          → At (live n r) o (reverse_aux b_side.rest (free whole q ∷ a_side.rest))
      moved p z (here c w) = let number : q ≡ r = cc in absurd (h number)
      moved p z (further j w c) =
          let rest = after_rest after b_side.index c in
          at_behind b_side.rest (later {y = free whole q} rest.2) (omega (arith, side_len E before l.index, rest.1))

      go : Half (live n r) o (tally len before) b_side.rest (live m q ∷ after)
          → At (live n r) o (reverse_aux b_side.rest (free whole q ∷ a_side.rest))
      go (in_front stays) = stays (free whole q ∷ a_side.rest)
      go (behind p z c) = moved p z (where? c)

  module _ (size count : ℕ) (two : 2 ≤ count) where
    pub call_leaves : (c : Call) (n r o : ℕ) (l : Ledger E.Index) → WellFormed E size count l → Leaves (span_of o r) c
        → At (live n r) o l.line → At (live n r) o (answer E size count c l).1.line
    unfolding answer
    call_leaves c n r o l w h a = go h (call_case E laws size count w c)
      where
        -- a hand-back of this record that is done is of the region that starts at its offset
        its_span : (span : Token) {m : ℕ} {before after : List Region} → Between before (live m span.number) after l.line
            → tally len before ≡ span.offset → span.number ≡ r → span ≡ span_of o r
        its_span span b p g =
            let place = sym p ∙ (same_place (between_at b) a r g refl (once_in_line w.lined r)).1 in
            λ i. record { offset = place i; number = g i }

        go : {c : Call} → Leaves (span_of o r) c → CallCase E size count l c → At (live n r) o (answer E size count c l).1.line
        go h (refuses k m e) = rw e a
        go h (cuts {asked = asked} t e) = rw e (cut_leaves asked.size (t.n - asked.size) l t.place (omega (arith, t.long_enough)) a)
        go h (merges {span = span} m before after b p e) = rw e (merge_leaves l b (λ g. h (its_span span b p g)) a)
        go h resets = absurd h
        go h asks = a

    pub calls_leave : (cs : List Call) (n r o : ℕ) (l : Ledger E.Index) → WellFormed E size count l → AllLeave (span_of o r) cs
        → At (live n r) o l.line → At (live n r) o (end (answer E size count) cs l).line
    unfolding answer end
    calls_leave [] n r o l w h a = a
    calls_leave (c ∷ cs) n r o l w h a =
        calls_leave cs n r o (answer E size count c l).1 (call_well E laws size count two c l w) h.1 (call_leaves c n r o l w h.0 a)
