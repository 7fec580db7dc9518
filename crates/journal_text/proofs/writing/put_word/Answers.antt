-- The front is the word. Assumes nothing.
use Prim.Native.Nat.{ℕ, ◌+◌, ◌≤◌}
use mathlib.Core.Path.{◌≡◌, sym, ap, ◌∙◌}
use mathlib.Core.List.{List, ◌++◌}
use lib.ListN.{length, drop}
use lib.Seq.{sets-eq}
use native.Mathlib.Omega.{arith}
use Rattle.journal_text.proofs.writing.put_word.Goals as goal

pub returns : goal.returns
returns c =
    let fits : 0 + length c.args.word.now ≤ length c.args.out.now = omega (arith, c.requires) in
    let place : 0 + length c.args.word.now ≡ length c.args.word.now = omega arith in
    record {
      told = omega arith;
      room = fits;
      left =
          ap (λ (front : List ℕ). front ++ drop (length c.args.word.now) c.args.out.now) c.copy_from_slice.ensures.after
          ∙ sym (sets-eq c.args.word.now c.args.out.now 0 fits ∙ ap (λ (i : ℕ). c.args.word.now ++ drop i c.args.out.now) place);
    }
