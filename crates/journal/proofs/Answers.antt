-- The rows of specs/Claims.antt, computed. Assumes nothing.
use mathlib.Core.Path.{refl}
use Rattle.journal.specs.Bytes.{in_bytes, number}
use Rattle.journal.specs.Writing.{in_fields, body_of}
use Rattle.journal.specs.Reading.{length_in, kind_in, field_in, call_of, judged, read_here, read_at}
use Rattle.journal.specs.Claims.{OrderRows}

pub order_rows : OrderRows
unfolding read_at read_here judged call_of field_in kind_in length_in number body_of in_fields in_bytes
order_rows = record {
  nothing = refl;
  three_bytes = refl;
  cut_of_no_kind = refl;
  cut_and_too_long = refl;
  length_1_of_no_kind = refl;
  kind_0 = refl;
  kind_5 = refl;
  kind_257 = refl;
  too_short = refl;
  too_long = refl;
  record_alone = refl;
  a_hand_back = refl;
  a_reset = refl;
}
