-- All that specs/Claims.antt claims holds: of every engine that keeps to its laws, and so of document 01's. Assumes nothing.
use Prim.Native.Nat.{ℕ, ◌^◌, ◌≤◌, ◌<◌}
use Rattle.ledger.specs.Ledger.{Engine, by_class}
use Rattle.ledger.specs.Laws.{Laws}
use Rattle.ledger.specs.Claims.{EngineClaims, ClassClaims, Claims}
use Rattle.ledger.proofs.CallsWell.{setup_well, call_well, reached_well}
use Rattle.ledger.proofs.Spans.{inside, disjoint, filled, separated}
use Rattle.ledger.proofs.Plain.{pile_distinct, pile_below, line_distinct, spare_has_none, none_lost, stack_holds, stack_distinct}
use Rattle.ledger.proofs.Grants.{the_grant, grant_alone, grant_lasts, grant_stays_alone}
use Rattle.ledger.proofs.Returns.{the_return}
use Rattle.ledger.proofs.Reached.{setup_reached, call_reached}
use Rattle.ledger.proofs.Reached.{fresh_line, fresh_spares, fresh_pile, reset_is_fresh}
use Rattle.ledger.proofs.Refusals.{granted_or_refused, not_both, none_reaches_exactly, live_exactly, size_told}
use Rattle.ledger.proofs.Refusals.{refused_exactly, refusal_3, refusal_4, refusal_5, size_refusal_5, refusal_8, size_refusal_8, live_below}
use Rattle.ledger.proofs.Refusals.{no_other, refused_same}
use Rattle.ledger.proofs.Figures.{number_tells, figures_of_0, figures_all}
use Rattle.ledger.proofs.LiveAtMost.{live_at_most}
use Rattle.ledger.proofs.History.{history_sum, history_live, report_total}
use Rattle.ledger.proofs.ReportRule.{report_rule, report_one_spare}
use Rattle.ledger.proofs.Stretch.{stretch_restores, as_though_never}
use Rattle.ledger.proofs.ClassGrants.{class_grant}
use Rattle.ledger.proofs.ClassReturns.{class_return}
use Rattle.ledger.proofs.FullReport.{full_report_lem, last_sixteen}
use Rattle.ledger.proofs.Fresh.{fresh_grants}
use Rattle.ledger.proofs.Largest.{take_no_class, none_reaches_by_class, largest_is, largest_none}
use Rattle.ledger.proofs.ByClass.{class_laws}

pub engine_claims : (E : Engine) → Laws E → (size count : ℕ) → size < 2 ^ 32 → 2 ≤ count → EngineClaims E size count
engine_claims E laws size count small two = record {
  setup_well = setup_well E laws size count two;
  call_well = call_well E laws size count two;
  setup_reached = setup_reached E size count;
  call_reached = call_reached E size count;
  reached_well = reached_well E laws size count two;
  fresh_line = fresh_line E size count;
  fresh_spares = fresh_spares E size count two;
  fresh_pile = fresh_pile E size count;
  reset_is_fresh = reset_is_fresh E size count;
  inside = inside E size count;
  disjoint = disjoint E size count;
  filled = filled E size count;
  separated = separated E size count;
  pile_distinct = pile_distinct E size count;
  pile_below = pile_below E size count;
  line_distinct = line_distinct E size count;
  spare_has_none = spare_has_none E size count;
  none_lost = none_lost E size count;
  grant = the_grant E laws size count;
  grant_alone = grant_alone E laws size count;
  grant_lasts = grant_lasts E laws size count two;
  grant_stays_alone = grant_stays_alone E laws size count two;
  return = the_return E size count;
  live_exactly = live_exactly E laws size count;
  size_told = size_told E laws size count;
  granted_or_refused = granted_or_refused E laws size count;
  not_both = not_both E laws size count;
  none_reaches_exactly = none_reaches_exactly E laws size count;
  refused_exactly = refused_exactly E laws size count small;
  refusal_3 = refusal_3 E laws size count;
  refusal_4 = refusal_4 E laws size count small;
  refusal_5 = refusal_5 E laws size count;
  size_refusal_5 = size_refusal_5 E laws size count;
  refusal_8 = refusal_8 E laws size count;
  size_refusal_8 = size_refusal_8 E laws size count;
  live_below = live_below E laws size count;
  no_other = no_other E laws size count;
  refused_same = refused_same E laws size count;
  number_tells = number_tells E laws size count;
  figures_of_0 = figures_of_0 E laws size count;
  live_at_most = live_at_most E laws size count two;
  history_sum = history_sum E laws size count two;
  history_live = history_live E laws size count two;
  report_rule = report_rule E laws size count small;
  report_total = report_total E laws size count two;
  report_one_spare = report_one_spare E laws;
  stretch_restores = stretch_restores E laws size count;
  as_though_never = as_though_never E laws size count;
}

pub class_claims : (size count : ℕ) → size < 2 ^ 32 → ClassClaims size count
class_claims size count small = record {
  grant = class_grant size count;
  return = class_return size count;
  stack_holds = stack_holds size count;
  stack_distinct = stack_distinct size count;
  none_reaches_by_class = none_reaches_by_class size count small;
  take_no_class = take_no_class;
  largest_is = largest_is size count small;
  largest_none = largest_none;
  fresh_grants = fresh_grants size count small;
  figures_all = figures_all size count;
  full_report_lem = full_report_lem size count;
  last_sixteen = last_sixteen size count small;
}

pub claims : (size count : ℕ) → size < 2 ^ 32 → 2 ≤ count → Claims size count
claims size count small two = record { shared = engine_claims by_class class_laws size count small two; by_stacks = class_claims size count small }
