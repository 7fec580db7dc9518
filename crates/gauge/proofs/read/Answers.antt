-- The numbers, put together. The net change is stored as bits, which say the same number. Assumes nothing.
use mathlib.Core.Path.{◌∙◌}
use mir.Syntax.{w64}
use mir.Facts.{to_z-of_z}
use Rattle.gauge.proofs.Together.{together}
use Rattle.gauge.proofs.read.Goals as goal

pub returns : goal.returns
returns c =
    together _ _ _ _ _ _ c.level_after-level.ensures c.peak_after-peak.ensures
    (to_z-of_z {w = w64} (record { sfits = c.net_change.type_inv }) ∙ c.net_change.ensures)
