-- The net changes of a run add up. Assumes nothing.
use mathlib.Core.Path.{◌≡◌, ap, ◌∙◌}
use mathlib.Core.List.{List}
use lib.IntN.{ℤ, pos, ◌+ℤ◌, +ℤ_idl, +ℤ_comm, +ℤ_assoc, -ℤ-+ℤ_cancel}
use Rattle.tables.specs.Words.{Words, Edition}
use Rattle.gauge.specs.Rule.{Watch, net_change, watch_after}
use Rattle.gauge.specs.Answers.{Told}
use Rattle.gauge_runs.specs.Runs.{Done, GaugedRun, nothing, then, reads, told_of, net_of, nets_of}
use Rattle.gauge_runs.proofs.Readings.{ReadCase, kept, moved, read_case}

-- of one reading
one_net : {g f : Watch} {t : Told} → ReadCase g t f → net_of t +ℤ pos g.last ≡ pos f.last
unfolding net_change watch_after
one_net {g} (kept k number t-is f-is) = rw (t-is, f-is) (+ℤ_idl (pos g.last))
one_net {g} (moved units fill most t-is f-is) = rw (t-is, f-is) (-ℤ-+ℤ_cancel (pos units) (pos g.last))

pub nets_add_up : (E : Edition) {w u : Words} {g h : Watch} {ds : List Done} → GaugedRun E w g ds u h
    → nets_of (told_of ds) +ℤ pos g.last ≡ pos h.last
unfolding told_of nets_of
nets_add_up E {g = g} nothing = +ℤ_idl (pos g.last)
nets_add_up E (then s rest) = nets_add_up E rest
nets_add_up E (reads {g = g} {t = t} {ds = ds} p rest) =
    let n = net_of t in
    let later = nets_of (told_of ds) in
    let l = pos g.last in
    ap (λ (x : ℤ). x +ℤ l) (+ℤ_comm n later) ∙ +ℤ_assoc later n l ∙ ap (λ (x : ℤ). later +ℤ x) (one_net (read_case E p)) ∙ nets_add_up E rest
