-- The claims, made. Assumes nothing.
use mathlib.Core.Path.{refl}
use Rattle.oracle_lists.specs.Facts.{with_numbers}
use Rattle.run_rows.specs.Asked.{is_row, question_of, hand_back_of, call_of}
use Rattle.answer_rows.specs.Claims.{RowClaims}
use Rattle.answer_rows.proofs.Agreeing.{agrees_with, x_agrees_with, listed_with, listed_is_5_or_8}

pub row_claims : RowClaims
unfolding call_of hand_back_of question_of is_row with_numbers
row_claims = record {
  n_asks = λ size count. refl;
  z_asks = refl;
  t_asks = λ size offset number. refl;
  x_asks = λ size. refl;
  f_asks = λ offset number. refl;
  b_asks = λ offset number. refl;
  w_asks = λ offset number. refl;
  l_asks = λ offset number length. refl;
  u_asks = λ offset number length. refl;
  m_asks = λ offset number length. refl;
  r_asks = λ total largest. refl;
  g_asks = λ class value regions. refl;
  e_asks = λ classes. refl;
  asks_means = λ letter numbers c e. e;
  agrees_with = agrees_with;
  x_agrees_with = x_agrees_with;
  listed_with = listed_with;
  listed_is_5_or_8 = listed_is_5_or_8;
}
