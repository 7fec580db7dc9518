-- What is claimed of lines of text, made from the files beside this. Assumes nothing.
use mathlib.Core.Path.{◌≡◌, sym, ap, ◌∙◌}
use mathlib.Core.List.{List}
use Prim.Native.Nat.{ℕ}
use Rattle.calls.specs.Values.{Fits}
use Rattle.calls.specs.declared.Call.{Call}
use Rattle.journal_text.specs.Texts.{text_of, Leads}
use Rattle.journal_text.specs.Lines.{Line, Holds, line_in}
use Rattle.journal_text.specs.Facts.{TextFacts}
use Rattle.journal_text.proofs.Decimals.{makes_up}
use Rattle.journal_text.proofs.ReadBack.{reads_back}
use Rattle.journal_text.proofs.OtherSide.{digits_only, no_zero_in_front, no_others, reads_fitting, one_answer, last_is_no_answer, one_last}

one_text : (c d : Call) → Fits c → Fits d → text_of c ≡ text_of d → c ≡ d
one_text c d p q e =
    let held : Holds c ≡ Holds d = sym (reads_back c p) ∙ ap (λ (text : List ℕ). line_in text) e ∙ reads_back d q in
    cc

one_line_put : {text before after other : List ℕ} {n m : ℕ} → Leads text before after n → Leads text before other m → (n ≡ m) × (after ≡ other)
one_line_put p q = (p.many ∙ sym q.many, p.left ∙ sym q.left)

one_line_read : (text : List ℕ) (r s : Line) → r ≡ line_in text → s ≡ line_in text → r ≡ s
one_line_read text r s p q = p ∙ sym q

pub text_facts : TextFacts
text_facts = record {
  digits_only = digits_only;
  no_zero_in_front = no_zero_in_front;
  makes_up = makes_up;
  no_others = no_others;
  reads_back = reads_back;
  one_text = one_text;
  reads_fitting = reads_fitting;
  one_answer = one_answer;
  last_is_no_answer = last_is_no_answer;
  one_last = one_last;
  one_line_put = one_line_put;
  one_line_read = one_line_read;
}
