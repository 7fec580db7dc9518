-- By its first byte that is no blank, and its first word. Assumes nothing.
use Prim.Native.Nat.{ℕ}
use mathlib.Core.Path.{◌≡◌, sym, ap₂, ◌∙◌}
use mathlib.Core.List.{List}
use lib.ListN.{length, get_or}
use borrow.Author.Tests.{eq-eqb, ne_eqb}
use Rattle.journal_text.specs.Words.{is_blank, leading, trimmed, only_blanks}
use Rattle.journal_text.specs.Lines.{call_in, line_in}
use Rattle.journal_text.proofs.Scanning.{to_the_end}
use Rattle.journal_text.proofs.Judging.{first_there}
use Rattle.journal_text.proofs.reading.read_line.Goals as goal

pub returns-then-bytes-start-eq35 : goal.returns-then-bytes-start-eq35
unfolding line_in only_blanks
returns-then-bytes-start-eq35 c =
    let found : leading is_blank c.args.bytes.now ≡ length c.args.bytes.now → ⊥ = λ e. c.if-start-bytes.false (c.blanks-start.ensures.0 ∙ e) in
    let mark : get_or (trimmed c.args.bytes.now) 0 0 ≡ 35 = sym (first_there c.args.bytes.now c.blanks-start.result c.blanks-start.ensures.0) ∙ c.if-bytes-start-eq35.true in
    rw (ne_eqb (leading is_blank c.args.bytes.now) (length c.args.bytes.now) found, eq-eqb (get_or (trimmed c.args.bytes.now) 0 0) 35 mark)

pub returns : goal.returns
unfolding line_in only_blanks
returns c =
    let found : leading is_blank c.args.bytes.now ≡ length c.args.bytes.now → ⊥ = λ e. c.if-start-bytes.false (c.blanks-start.ensures.0 ∙ e) in
    let no-mark : get_or (trimmed c.args.bytes.now) 0 0 ≡ 35 → ⊥ =
    λ e. c.if-bytes-start-eq35.false (first_there c.args.bytes.now c.blanks-start.result c.blanks-start.ensures.0 ∙ e) in
    rw (ne_eqb (leading is_blank c.args.bytes.now) (length c.args.bytes.now) found, ne_eqb (get_or (trimmed c.args.bytes.now) 0 0) 35 no-mark)
    (c.call_in.ensures ∙ ap₂ (λ (word behind : List ℕ). call_in word behind) c.word_end-end.ensures.0 (to_the_end c.args.bytes.now c.word_end-end.result ∙ c.word_end-end.ensures.1))
