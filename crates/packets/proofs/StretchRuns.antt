-- A stretch of packet calls, store by store: on each the calls that were made are a stretch of one store. Assumes nothing.
use mathlib.Core.Path.{◌≡◌, refl, ◌∙◌}
use mathlib.Core.List.{List, [], ◌∷◌, ◌++◌}
use lib.ListN.{length}
use Rattle.basics.proofs.Clash.{clash}
use Rattle.ledger.specs.Calls.{Token}
use Rattle.ledger.specs.Stretch as ledger
use Rattle.tables.specs.Words.{Words, Edition}
use Rattle.demands.specs.Runs as below
use Rattle.demands.specs.Runs.{Done, Run, NoSetup, log_of}
use Rattle.packets.specs.declared.Store.TheVariants.{OnChip, External}
use Rattle.packets.specs.Stores.{Kept, Two}
use Rattle.packets.specs.Calls.{PacketCall, Answered}
use Rattle.packets.specs.Promise.{made_on, PacketPromise}
use Rattle.packets.specs.Runs.{Happened, called, audited, PacketRun, nothing, then}
use Rattle.packets.specs.Stretch.{PacketStretch, ended, grants_on_chip, grants_outside, returns-on-chip, returns-outside, refuses}
use Rattle.packets.specs.Stretch.{fills, reads, measures, reports, audits}
use Rattle.packets.proofs.StretchCalls.{Passes, fill_passes, read_passes, length_passes, report_passes, refused_passes}
use Rattle.packets.proofs.StretchCalls.{granted_here, not_tried, first_refused, granted_there, returned_here, returned_elsewhere}

-- ---- one store after the other: calls were made on it, and they are a stretch in which the spans of `own` are to be handed back
pub record Stretched (E : Edition) (own : List Token) (k m : Kept) : Type 0 where
  pub made : List Done
  pub run : Run E k.words made m.words
  pub no_setup : NoSetup made
  pub stretch : ledger.Stretch own (log_of made)
  pub same_bytes : length m.bytes ≡ length k.bytes

pub no_setups : (ds es : List Done) → NoSetup ds → NoSetup es → NoSetup (ds ++ es)
no_setups [] es h g = g
no_setups (below.did (below.Calling c) a ∷ ds) es h g = no_setups ds es h g
no_setups (below.did (below.Auditing n) a ∷ ds) es h g = no_setups ds es h g
no_setups (below.did (below.SettingUp size count) a ∷ ds) es h g = elim h [ ]

module _ (E : Edition) where
  pub joined : {w v u : Words} {ds es : List Done} → Run E w ds v → Run E v es u → Run E w (ds ++ es) u
  joined below.nothing more = more
  joined (below.then step rest) more = below.then step (joined rest more)

  goes_on : {own after : List Token} {ds : List Done} {k m n : Kept} → Passes own after ds → Run E k.words ds m.words
      → length m.bytes ≡ length k.bytes → Stretched E after m n → Stretched E own k n
  goes_on {ds = ds} p run same rest = record {
    made = ds ++ rest.made;
    run = joined run rest.run;
    no_setup = no_setups ds rest.made p.no_setup rest.no_setup;
    stretch = p.onward rest.made rest.stretch;
    same_bytes = rest.same_bytes ∙ same;
  }

  -- ---- both
  abbrev Both : (own others : List Token) → Two → Two → Type 0
  Both own others t u = Stretched E own t.on_chip u.on_chip × Stretched E others t.external u.external

  both_go_on : {own after others others-after : List Token} {c : PacketCall} {t v u : Two} {a : Answered} → PacketPromise E c t v a
      → Passes own after (made_on E OnChip c t) → Passes others others-after (made_on E External c t) → Both after others-after v u
      → Both own others t u
  both_go_on p here there rest = (
    goes_on here (p.made OnChip) (p.lengths OnChip) rest.0,
    goes_on there (p.made External) (p.lengths External) rest.1,
  )

  pub both_stretched : {t u : Two} {hs : List Happened} {own others : List Token} → PacketStretch own others hs → PacketRun E t hs u
      → Both own others t u
  unfolding log_of
  both_stretched ended nothing = (
    record { made = []; run = below.nothing; no_setup = tt; stretch = ledger.ended; same_bytes = refl },
    record { made = []; run = below.nothing; no_setup = tt; stretch = ledger.ended; same_bytes = refl },
  )
  both_stretched (grants_on_chip h) (then (called p) rest) = both_go_on p (granted_here E p) (not_tried E p) (both_stretched h rest)
  both_stretched (grants_outside h) (then (called p) rest) = both_go_on p (first_refused E p) (granted_there E p) (both_stretched h rest)
  both_stretched (returns-on-chip h) (then (called p) rest) =
      both_go_on p (returned_here E p) (returned_elsewhere E p External (λ e. clash (cc))) (both_stretched h rest)
  both_stretched (returns-outside h) (then (called p) rest) =
      both_go_on p (returned_elsewhere E p OnChip (λ e. clash (cc))) (returned_here E p) (both_stretched h rest)
  both_stretched (refuses {c = c} h) (then (called p) rest) =
      both_go_on p (refused_passes E OnChip c p) (refused_passes E External c p) (both_stretched h rest)
  both_stretched (fills {s = s} {span = span} {new = new} h) (then (called {t = t} p) rest) =
      both_go_on p (fill_passes E OnChip s span new t) (fill_passes E External s span new t) (both_stretched h rest)
  both_stretched (reads {s = s} {span = span} h) (then (called {t = t} p) rest) =
      both_go_on p (read_passes E OnChip s span t) (read_passes E External s span t) (both_stretched h rest)
  both_stretched (measures {s = s} {span = span} h) (then (called {t = t} p) rest) =
      both_go_on p (length_passes E OnChip s span t) (length_passes E External s span t) (both_stretched h rest)
  both_stretched (reports {s = s} h) (then (called {t = t} p) rest) =
      both_go_on p (report_passes E OnChip s t) (report_passes E External s t) (both_stretched h rest)
  both_stretched (audits h) (then (audited e p) rest) = both_stretched h rest
