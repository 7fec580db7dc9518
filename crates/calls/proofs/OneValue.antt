-- An answer is given by what it says. Assumes nothing.
use mathlib.Core.Path.{◌≡◌, refl, ap}
use Rattle.basics.proofs.Clash.{clash}
use Rattle.answers.proofs.Numbers.{number_means}
use Rattle.std.specs.Prelude.{Some, None, Ok, Err}
use Rattle.calls.specs.Values.{Answer, Granted, Refused, says, OneValue}

of_any : (a b : Answer) → says a ≡ says b → a ≡ b
of_any (Ok None) (Ok None) e = refl
of_any (Ok None) (Ok (Some t)) e = clash (cc)
of_any (Ok None) (Err why) e = clash (cc)
of_any (Ok (Some s)) (Ok None) e = clash (cc)
of_any (Ok (Some s)) (Ok (Some t)) e =
    let offsets : s.offset ≡ t.offset = cc in
    let records : s.metadata.0 ≡ t.metadata.0 = cc in
    ap Granted (λ i. record { offset = offsets i; metadata = record { 0 = records i } })
of_any (Ok (Some s)) (Err why) e = clash (cc)
of_any (Err why) (Ok None) e = clash (cc)
of_any (Err why) (Ok (Some t)) e = clash (cc)
of_any (Err why) (Err other) e = ap Refused (number_means.none_shared why other (cc))

pub one_value : OneValue
one_value = record { of_any = of_any }
