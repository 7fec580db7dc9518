-- The part of the text from its first word on is scanned. Assumes nothing.
use mathlib.Core.Path.{◌≡◌, ap, ◌∙◌}
use mathlib.Core.List.{List}
use Prim.Native.Nat.{ℕ}
use lib.ListN.{length, drop, length-drop}
use Rattle.journal_text.specs.Words.{is_ink, leading}
use Rattle.journal_text.proofs.Scanning.{to_the_end}
use Rattle.journal_text.proofs.Judging.{word_there, behind_there}
use native.Mathlib.Omega.{arith}
use Rattle.journal_text.proofs.reading.word_end.Goals as goal

pub returns : goal.returns
returns c =
    let ink : c.inked.result ≡ leading is_ink (drop c.args.start c.args.text.now) =
    c.inked.ensures.0 ∙ ap (λ (l : List ℕ). leading is_ink l) (to_the_end c.args.text.now c.args.start) in (
      word_there c.args.text.now c.args.start c.inked.result c.requires.0 ink,
      behind_there c.args.text.now c.args.start c.inked.result c.requires.0 ink,
      omega arith,
      omega (arith, c.inked.ensures.1, ap (λ (l : List ℕ). length l) (to_the_end c.args.text.now c.args.start), length-drop c.args.start c.args.text.now),
    )
