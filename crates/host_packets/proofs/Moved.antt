-- What a packet call promises of stores it promises of the same stores, put together elsewhere. Assumes nothing.
use mathlib.Core.Path.{◌≡◌, ap, subst}
use mathlib.Core.List.{List}
use Prim.Native.Nat.{ℕ}
use Rattle.tables.specs.Words.{Edition}
use Rattle.records.specs.declared.totals.Totals.{Totals}
use Rattle.records.specs.InWords.{in_array, of_array}
use Rattle.packets.specs.declared.Store.{Store}
use Rattle.packets.specs.Stores.{Kept, Two, two, placed, store_of}
use Rattle.packets.specs.Calls.{PacketCall, Answered}
use Rattle.packets.specs.Promise.{PacketPromise, PacketSetup, PacketSetupBoth, PacketAudit}
use Rattle.host_values.proofs.Kept.{in_it}
use Rattle.host_packets.specs.Kept.{store_in, SetUpAnywhere}

-- a store whose scalars were read from an array; and one whose scalars were put into one
pub store_read : {t : Totals} (before hs ls ns ps bs : List ℕ) → t ≡ of_array before → store_of t hs ls ns ps bs ≡ store_in before hs ls ns ps bs
store_read before hs ls ns ps bs e = ap (λ (t : Totals). store_of t hs ls ns ps bs) e

pub store_kept : {t : Totals} {after : List ℕ} (hs ls ns ps bs : List ℕ) → after ≡ in_array t → store_of t hs ls ns ps bs ≡ store_in after hs ls ns ps bs
store_kept hs ls ns ps bs e = ap (λ (t : Totals). store_of t hs ls ns ps bs) (in_it e)

pub both_so : {k l m n : Kept} → k ≡ l → m ≡ n → two k m ≡ two l n
both_so e f = λ i. two (e i) (f i)

module _ {E : Edition} {t x u y : Two} {a : Answered} (found : t ≡ x) (left : u ≡ y) where
  pub packet_moved : {c d : PacketCall} → c ≡ d → PacketPromise E c t u a → PacketPromise E d x y a
  packet_moved {c = c} {d = d} asked p =
      subst (λ (z : Two). PacketPromise E d x z a) left
      (subst (λ (z : Two). PacketPromise E d z u a) found (subst (λ (z : PacketCall). PacketPromise E z t u a) asked p))

pub both_moved : {E : Edition} {size count size-too count-too : ℕ} {t u y : Two} {a : Answered} → u ≡ y
    → PacketSetupBoth E size count size-too count-too t u a → PacketSetupBoth E size count size-too count-too t y a
both_moved {E = E} {size = size} {count = count} {size-too = size-too} {count-too = count-too} {t = t} {a = a} left p =
    subst (λ (z : Two). PacketSetupBoth E size count size-too count-too t z a) left p

pub audit_moved : {E : Edition} {s m : Store} {t x : Two} {scratch left : List ℕ} {a : Answered} → s ≡ m → t ≡ x
    → PacketAudit E s t scratch left a → PacketAudit E m x scratch left a
audit_moved {E = E} {m = m} {t = t} {scratch = scratch} {left = left} {a = a} meant found p =
    subst (λ (z : Two). PacketAudit E m z scratch left a) found (subst (λ (z : Store). PacketAudit E z t scratch left a) meant p)

pub anywhere : {E : Edition} {size count : ℕ} {found left y : Kept} {other : Totals} {a : Answered} (beside bytes-beside : List ℕ) → other ≡ of_array beside → left ≡ y
    → ((s : Store) (hs ls ns ps : List ℕ)
    → PacketSetup E s size count (placed s found (store_of other hs ls ns ps bytes-beside)) (placed s left (store_of other hs ls ns ps bytes-beside)) a)
    → SetUpAnywhere E size count found y beside bytes-beside a
anywhere {E = E} {size = size} {count = count} {found = found} {left = left} {y = y} {other = other} {a = a} beside bytes-beside read kept p = λ s hs ls ns ps.
    let k = store_of other hs ls ns ps bytes-beside in
    subst (λ (z : Kept). PacketSetup E s size count (placed s found z) (placed s y z) a) (store_read beside hs ls ns ps bytes-beside read)
    (subst (λ (z : Kept). PacketSetup E s size count (placed s found k) (placed s z k) a) kept (p s hs ls ns ps))
