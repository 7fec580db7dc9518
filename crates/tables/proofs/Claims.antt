-- All that specs/Claims.antt claims of the words, for every edition. Assumes nothing.
use Rattle.tables.specs.Words.{Edition}
use Rattle.tables.specs.Claims.{Claims}
use Rattle.tables.proofs.Refusals.{setup_1, setup_10, setup_2, setup_done, setup_refused, call_6, call_2, not_2}
use Rattle.tables.proofs.Refusals.{take_3, take_no_class, back_5, size_5, back_8, size_8, numbers, numbers_behind, setup_numbers}
use Rattle.tables.proofs.Kept.{refused_kept, grant_inside}
use Rattle.tables.proofs.NotWritten.{not_written}
use Rattle.tables.proofs.SetupLeaves.{setup_leaves, setup_pile_leaves, setup_lengths, reset_leaves}
use Rattle.tables.proofs.SetupWrites.{setup_fixed, setup_pile_fixed}
use Rattle.tables.proofs.Unread.{not_read, setup_not_read}
use Rattle.tables.proofs.Circular.{circular_6, circular_exactly}
use Rattle.tables.proofs.Search.{search_finds, highest_found}
use Rattle.tables.proofs.SetupSound.{setup_sound, reset_sound}
use Rattle.tables.proofs.OneLedger.{one_ledger}
use Rattle.tables.proofs.OverRuns.{call_sound, never_6, alike, demand_2, demand_3}

pub claims : (E : Edition) → Claims E
claims E = record {
  setup_1 = setup_1 E;
  setup_10 = setup_10 E;
  setup_2 = setup_2 E;
  setup_done = setup_done E;
  setup_refused = setup_refused E;
  setup_sound = setup_sound E;
  setup_leaves = setup_leaves E;
  setup_pile_leaves = setup_pile_leaves E;
  setup_lengths = setup_lengths E;
  setup_fixed = setup_fixed E;
  setup_pile_fixed = setup_pile_fixed E;
  reset_leaves = reset_leaves E;
  reset_sound = reset_sound E;
  call_6 = call_6 E;
  call_2 = call_2 E;
  not_2 = not_2 E;
  take_3 = take_3 E;
  take_no_class = take_no_class E;
  back_5 = back_5 E;
  size_5 = size_5 E;
  back_8 = back_8 E;
  size_8 = size_8 E;
  numbers = numbers E;
  numbers_behind = numbers_behind E;
  setup_numbers = setup_numbers E;
  call_sound = call_sound E;
  never_6 = never_6 E;
  one_ledger = one_ledger E;
  alike = alike E;
  refused_kept = refused_kept E;
  grant_inside = grant_inside E;
  circular_6 = circular_6 E;
  circular_exactly = circular_exactly E;
  not_written = not_written E;
  not_read = not_read E;
  setup_not_read = setup_not_read E;
  search_finds = search_finds E;
  highest_found = highest_found E;
  demand_2 = demand_2 E;
  demand_3 = demand_3 E;
}
