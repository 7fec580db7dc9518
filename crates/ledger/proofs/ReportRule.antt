-- With more than one record spare, a take is granted exactly up to the second number of the report. Assumes nothing.
use Rattle.ledger.specs.Ledger.{Engine, Ledger, report, free_len}
use Rattle.ledger.specs.Laws.{Laws}
use mathlib.Core.Path.{◌≡◌, ap}
use Prim.Native.Nat.{ℕ, ◌^◌, ◌≤◌, ◌<◌}
use native.Mathlib.Omega.{arith}
use mathlib.Core.Logic.{◌↔◌}
use lib.ListN.{length}
use Rattle.basics.specs.Sum.{tally}
use Rattle.basics.proofs.Clash.{clash}
use Rattle.basics.proofs.Decided.{below, beyond, below?}
use Rattle.ledger.specs.WellFormed.{WellFormed}
use Rattle.ledger.specs.Spans.{FreeIn}
use Rattle.ledger.specs.Claims.{Granted}
use Rattle.ledger.proofs.Places.{between_at}
use Rattle.ledger.proofs.Cases.{TakeCase, few_spares, no_region, serves, take_case}

module _ (E : Engine) (laws : Laws E) where
  pub report_one_spare : (l : Ledger E.Index) → length l.pile ≤ 1 → report E l ≡ (0, 0)
  unfolding report
  report_one_spare l h = elim (below? 1 (length l.pile)) [ below k e ↦ absurd (omega arith) | beyond k e ↦ rw e ]

  pub report_free : (l : Ledger E.Index) → 2 ≤ length l.pile → (report E l).0 ≡ tally free_len l.line
  unfolding report
  report_free l h = elim (below? 1 (length l.pile)) [ below k e ↦ rw e | beyond k e ↦ absurd (omega arith) ]

  pub report_largest : (l : Ledger E.Index) → 2 ≤ length l.pile → (report E l).1 ≡ E.largest l.line l.index
  unfolding report
  report_largest l h = elim (below? 1 (length l.pile)) [ below k e ↦ rw e | beyond k e ↦ absurd (omega arith) ]

  module _ (size count : ℕ) (small : size < 2 ^ 32) where
    pub report_rule : (s : ℕ) (l : Ledger E.Index) → WellFormed E size count l → 2 ≤ length l.pile
        → Granted E s l ↔ (((n : ℕ) × FreeIn n l.line) × (s ≤ (report E l).1))
    report_rule s l w two = (within (take_case E laws w s), λ x. granted_one x.0 (rw (report_largest l two) at x.1) (take_case E laws w s))
      where
        told : ((n : ℕ) × FreeIn n l.line) → (s ≤ E.largest l.line l.index) ↔ ((n : ℕ) × FreeIn n l.line × (E.need s ≤ E.rank n))
        told = laws.tells s l.line l.index w.kept (omega (arith, w.lined.cover))

        within : TakeCase E s l → Granted E s l → ((n : ℕ) × FreeIn n l.line) × (s ≤ (report E l).1)
        within (few_spares h e) g = clash (cc g.2)
        within (no_region h empty e) g = clash (cc g.2)
        within (serves t) g =
            let there : FreeIn t.n l.line = (_, _, between_at t.place) in
            ((t.n, there), rw (report_largest l two) ((told (t.n, there)).1 (t.n, there, t.reaching)))

        granted_one : (n : ℕ) × FreeIn n l.line → s ≤ E.largest l.line l.index → TakeCase E s l → Granted E s l
        granted_one f h (few_spares k e) = absurd (omega arith)
        granted_one f h (no_region k m e) =
            let long = (told f).0 h in
            absurd (omega (arith, laws.fails s l.line l.index w.kept (omega (arith, w.lined.cover)) m long.0 long.1, long.2))
        granted_one f h (serves t) = (_, _, ap (λ a. a.0) t.outcome)
