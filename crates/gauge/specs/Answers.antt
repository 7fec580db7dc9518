-- What a reading answers, and what it leaves of the gauge, by what the store told. Assumes nothing.
use Rattle.std.specs.Prelude.{Result, Ok, Err, ℕ, ℤ, Float}
use Rattle.gauge.specs.declared.Reading.{Reading}
use Rattle.answers.specs.declared.Refusal.{Refusal}
use Rattle.ledger.specs.Ledger.{Answer, granted, done, length_is, reported, classes, refused}
use Rattle.answers.specs.Refusals.{number_of}
use Rattle.gauge.specs.declared.Watch.{Watch}
use Rattle.gauge.specs.Rule.{net_change, watch_after}
use Rattle.gauge.specs.Rule as rule

pub data Told : Type 0 where
  read : (fill : ℕ) (level peak : Float) (net : ℤ) → Told
  not_read : (number : ℕ) → Told

-- a store tells its live units and its fill, or why not. "A refused reading leaves the gauge as it came." No other answer is given to that question
unfoldable pub read_after : rule.Watch → Answer → Told × rule.Watch
unfolding watch_after net_change
read_after g (reported units fill) =
    let now = watch_after g units fill in
    (read fill now.level now.peak (net_change g.last units), now)
read_after g (refused k) = (not_read k, g)
read_after g (granted o r) = (not_read 0, g)
read_after g done = (not_read 0, g)
read_after g (length_is n) = (not_read 0, g)
read_after g (classes rows) = (not_read 0, g)

-- ---- the code's values in these terms
abbrev pub watch_of : Watch → rule.Watch
watch_of w = record { level = w.gauge.level; peak = w.gauge.peak; last = w.last.0 }

abbrev pub reading_says : Result Reading Refusal → Told
reading_says (Ok r) = read r.fill r.level r.peak r.net
reading_says (Err why) = not_read (number_of why)
