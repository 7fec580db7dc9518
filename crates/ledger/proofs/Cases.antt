-- What take, hand back and the size query do on a ledger in order, by cases, over any engine. Assumes nothing.
use mathlib.Core.Path.{◌≡◌, refl}
use Prim.Native.Nat.{ℕ, ◌-◌, ◌≤◌}
use native.Mathlib.Omega.{arith}
use mathlib.Core.Bool.{true}
use mathlib.Core.Option.{Option, none, some}
use mathlib.Core.List.{List, []}
use lib.ListN.{length}
use Rattle.basics.specs.Sum.{tally}
use Rattle.basics.proofs.Clash.{clash}
use mathlib.Core.Logic.{◌≢◌}
use Rattle.basics.proofs.Decided.{Below, below, beyond, below?, Same, same, differ, same?}
use Rattle.ledger.specs.Ledger.{Region, live, free, len, find, granted, done, length_is, refused, Engine, Ledger}
use Rattle.ledger.specs.Ledger.{spares, cut, merge, take, grant_top, grant, hand_back, give_back, size_of, length_at}
use Rattle.ledger.specs.Calls.{span_of, hands_back}
use Rattle.ledger.specs.WellFormed.{has, WellFormed}
use Rattle.ledger.specs.Spans.{At}
use Rattle.ledger.specs.Laws.{Laws}
use Rattle.ledger.specs.Claims.{Live}
use Rattle.ledger.proofs.Places.{Between, between_at, at_counted, same_region, same_place}
use Rattle.ledger.proofs.Find.{Found, missing, at, found?}
use Rattle.ledger.proofs.Records.{once_in_line}

-- ---- a region that stands in the line, its record once: find finds it
pub record Placed (x : Region) (r : ℕ) (line : List Region) : Type 0 where
  pub before : List Region
  pub after : List Region
  pub place : Between before x after line
  pub first_there : tally (has r) before ≡ 0
  pub found_there : find r [] line ≡ some record { before = before; here = x; after = after }

pub placed : {n r o : ℕ} {line : List Region} → At (free n r) o line → tally (has r) line ≤ 1 → Placed (free n r) r line
placed {n} {r} {o} {line} a h = go (found? r line)
  where
    go : Found r [] line → Placed (free n r) r line
    go (missing m z) = absurd (omega (arith, at_counted a r refl))
    go (at before y after m b e z) =
        let it-is : y ≡ free n r = same_region (between_at b) a r e refl h in
        record { before = before; after = after; place = rw it-is at b; first_there = z; found_there = rw it-is at m }

module _ (E : Engine) where
  -- ---- take
  -- The region that a take of s is granted: its length n, its record r, and what stands before and after it in the line.
  pub record Serving (s : ℕ) (l : Ledger E.Index) : Type 0 where
    pub n : ℕ
    pub r : ℕ
    pub before : List Region
    pub after : List Region
    pub place : Between before (free n r) after l.line
    pub first_there : tally (has r) before ≡ 0
    pub two_spare : 2 ≤ length l.pile
    pub long_enough : s ≤ n
    pub reaching : E.need s ≤ E.rank n
    pub chosen : E.choose s l.line l.index ≡ some r
    pub goes_back : E.enter n r (E.leave n r l.index) ≡ l.index
    pub outcome : take E s l ≡ (granted (tally len before) r, cut E s (n - s) before n r after l)

  -- refused for want of spares, refused for want of a region, or granted
  pub data TakeCase (s : ℕ) (l : Ledger E.Index) : Type 0 where
    few_spares : length l.pile ≤ 1 → take E s l ≡ (refused 3, l) → TakeCase s l
    no_region : 2 ≤ length l.pile → E.choose s l.line l.index ≡ none → take E s l ≡ (refused 4, l) → TakeCase s l
    serves : Serving s l → TakeCase s l

  -- ---- hand back and the size query
  -- the record is live and starts at that offset, or it is live and starts elsewhere, or it is not live
  pub data LiveCase (o r : ℕ) (l : Ledger E.Index) : Type 0 where
    is_live_case : (n : ℕ) (before after : List Region) → Between before (live n r) after l.line → tally len before ≡ o
        → hand_back E o r l ≡ (done, merge E before n r after l) → size_of o r l ≡ length_is n → LiveCase o r l
    is_elsewhere : (n : ℕ) (before after : List Region) → Between before (live n r) after l.line → tally len before ≢ o
        → hand_back E o r l ≡ (refused 8, l) → size_of o r l ≡ refused 8 → LiveCase o r l
    not_live : ¬ Live r l → hand_back E o r l ≡ (refused 5, l) → size_of o r l ≡ refused 5 → LiveCase o r l

  pub live_case : {size count : ℕ} {l : Ledger E.Index} → WellFormed E size count l → (o r : ℕ) → LiveCase o r l
  unfolding hand_back give_back size_of length_at
  live_case {l = l} w o r = go (found? r l.line)
    where
      by_place : (n q : ℕ) (before after : List Region) → find r [] l.line ≡ some record { before = before; here = live n q; after = after }
          → Between before (live n q) after l.line → q ≡ r → Same (tally len before) o → LiveCase o r l
      by_place n q before after m b e (same p f) = is_live_case n before after (rw e at b) p (rw (m, f, e)) (rw (m, f))
      by_place n q before after m b e (differ p f) = is_elsewhere n before after (rw e at b) p (rw (m, f)) (rw (m, f))

      go : Found r [] l.line → LiveCase o r l
      go (missing m z) = not_live (λ v. omega (arith, at_counted v.2 r refl)) (rw m) (rw m)
      go (at before (free n q) after m b e z) =
          let free_not_live : (k : ℕ) → free n q ≡ live k r → ⊥ = λ k c. clash (cc) in
          not_live (λ v. free_not_live v.0 (same_region (between_at b) v.2 r e refl (once_in_line w.lined r))) (rw m) (rw m)
      go (at before (live n q) after m b e z) = by_place n q before after m b e (same? (tally len before) o)

  -- the hand-back of a region that is live at this offset
  pub record Held (n r o : ℕ) (l : Ledger E.Index) : Type 0 where
    pub before : List Region
    pub after : List Region
    pub place : Between before (live n r) after l.line
    pub place_is : tally len before ≡ o
    pub outcome : hands_back E (span_of o r) l ≡ (done, merge E before n r after l)

  pub held : {size count n r o : ℕ} {l : Ledger E.Index} → WellFormed E size count l → At (live n r) o l.line → Held n r o l
  held {n = n} {r} {o} {l} w a = go (live_case w o r)
    where
      go : LiveCase o r l → Held n r o l
      go (not_live h e q) = absurd (h (n, o, a))
      go (is_elsewhere m before after b p e q) = absurd (p (same_place (between_at b) a r refl refl (once_in_line w.lined r)).1)
      go (is_live_case m before after b p e q) =
          let both = same_place (between_at b) a r refl refl (once_in_line w.lined r) in
          let lengths : m ≡ n = cc both.0 in
          record { before = before; after = after; place = rw lengths at b; place_is = p; outcome = rw lengths at e }

-- ---- which case a take is, by the engine's laws
module _ (E : Engine) (laws : Laws E) where
  pub take_case : {size count : ℕ} {l : Ledger E.Index} → WellFormed E size count l → (s : ℕ) → TakeCase E s l
  unfolding take grant_top grant
  take_case {l = l} w s = by_pile (below? 1 (length l.pile))
    where
      by_choice : 2 ≤ length l.pile → spares l ≡ true → (o : Option ℕ) → E.choose s l.line l.index ≡ o → TakeCase E s l
      by_choice two more none m = no_region two m (rw (more, m))
      by_choice two more (some r) m =
          let c = laws.serves s r l.line l.index w.kept m in
          let p = placed c.stands_free (once_in_line w.lined r) in
          serves record {
            n = c.n;
            r = r;
            before = p.before;
            after = p.after;
            place = p.place;
            first_there = p.first_there;
            two_spare = two;
            long_enough = laws.fits s c.n c.reaches;
            reaching = c.reaches;
            chosen = m;
            goes_back = c.goes_back;
            outcome = rw (more, m, p.found_there);
          }

      by_pile : Below 1 (length l.pile) → TakeCase E s l
      by_pile (beyond h e) = few_spares h (rw e)
      by_pile (below h e) = by_choice h e (E.choose s l.line l.index) refl
