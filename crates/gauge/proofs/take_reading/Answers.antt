-- What the store told is a fill, or a refusal. Assumes nothing.
use mathlib.Core.Path.{sym, ap, ◌∙◌}
use Rattle.answers.specs.Answers.{fill_says}
use Rattle.gauge.specs.Answers.{watch_of, read_after}
use Rattle.gauge.proofs.take_reading.Goals as goal

pub returns-in-Ok : goal.returns-in-Ok
returns-in-Ok c =
    c.read.ensures
    ∙ ap (λ t. read_after (watch_of c.args.watch) (fill_says t)) (sym c.in-Ok.is)

pub returns-in-Err : goal.returns-in-Err
unfolding read_after
returns-in-Err c = ap (λ t. read_after (watch_of c.args.watch) (fill_says t)) (sym c.in-Err.is)
