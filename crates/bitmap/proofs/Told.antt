-- What the steps on the bits leave is one thing, and what a search found is told in one way. Assumes nothing.
use mathlib.Core.Path.{◌≡◌, refl, sym, ap, ◌∙◌}
use Rattle.tables.specs.Search.{Found, class_is, no_class, bad_bits}
use Rattle.std.specs.Prelude.{Result, Ok, Err}
use Rattle.small_float.specs.declared.Class.{Class}
use Rattle.bitmap.specs.declared.search.NotFound.{NotFound}
use Rattle.bitmap.specs.declared.search.NotFound.TheVariants.{NoClass, BadBits}
use Rattle.bitmap.specs.InBits.{BitsMean, Tells, TellsMeans}

pub bits_mean : BitsMean
bits_mean = record {
  bits_are = λ top' top leaves' leaves b. (b.top_is, b.leaves_are);
  may_be_left = λ top leaves. record { top_is = refl; leaves_are = refl };
}

one_way : (f : Found) (s t : Result Class NotFound) → Tells f s → Tells f t → s ≡ t
one_way (class_is c) (Ok d) (Ok e) p q = ap (λ n. Ok (record { 0 = n })) (p.0 ∙ sym q.0)
one_way no_class (Err NoClass) (Err NoClass) p q = refl
one_way bad_bits (Err BadBits) (Err BadBits) p q = refl
one_way (class_is c) (Ok d) (Err why) p q = elim q [ ]
one_way (class_is c) (Err why) t p q = elim p [ ]
one_way no_class (Ok d) t p q = elim p [ ]
one_way no_class (Err NoClass) (Ok e) p q = elim q [ ]
one_way no_class (Err NoClass) (Err BadBits) p q = elim q [ ]
one_way no_class (Err BadBits) t p q = elim p [ ]
one_way bad_bits (Ok d) t p q = elim p [ ]
one_way bad_bits (Err NoClass) t p q = elim p [ ]
one_way bad_bits (Err BadBits) (Ok e) p q = elim q [ ]
one_way bad_bits (Err BadBits) (Err NoClass) p q = elim q [ ]

same_found : (f : Found) (s : Result Class NotFound) (g : Found) → Tells f s → Tells g s → f ≡ g
same_found (class_is c) (Ok e) (class_is d) p q = ap class_is (sym p.0 ∙ q.0)
same_found no_class (Err NoClass) no_class p q = refl
same_found bad_bits (Err BadBits) bad_bits p q = refl
same_found (class_is c) (Ok e) no_class p q = elim q [ ]
same_found (class_is c) (Ok e) bad_bits p q = elim q [ ]
same_found (class_is c) (Err why) g p q = elim p [ ]
same_found no_class (Ok e) g p q = elim p [ ]
same_found no_class (Err NoClass) (class_is d) p q = elim q [ ]
same_found no_class (Err NoClass) bad_bits p q = elim q [ ]
same_found no_class (Err BadBits) g p q = elim p [ ]
same_found bad_bits (Ok e) g p q = elim p [ ]
same_found bad_bits (Err NoClass) g p q = elim p [ ]
same_found bad_bits (Err BadBits) (class_is d) p q = elim q [ ]
same_found bad_bits (Err BadBits) no_class p q = elim q [ ]

pub tells_means : TellsMeans
tells_means = record { one_way = one_way; none_shared = λ f g s. same_found f s g }
