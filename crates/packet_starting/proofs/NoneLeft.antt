-- A refused setup of both, said of the scalars and the answer that it gave. Assumes nothing.
use mathlib.Core.Path.{◌≡◌, sym, subst}
use Prim.Native.Nat.{ℕ}
use Rattle.tables.specs.Words.{Edition}
use Rattle.records.specs.InWords.{zero_totals}
use Rattle.records.specs.declared.totals.Totals.{Totals}
use Rattle.packets.specs.Stores.{Kept, Two, two}
use Rattle.packets.specs.Calls.{Answered}
use Rattle.packets.specs.Promise.{PacketSetupBoth}

pub none_left : {E : Edition} {size count other-size other-count : ℕ} {t : Two} {a b : Answered} {on ex : Totals} (on_store ex-store : Totals → Kept)
    → b ≡ a → on ≡ zero_totals → ex ≡ zero_totals
    → PacketSetupBoth E size count other-size other-count t (two (on_store zero_totals) (ex-store zero_totals)) a
    → PacketSetupBoth E size count other-size other-count t (two (on_store on) (ex-store ex)) b
none_left {E} {size} {count} {other-size} {other-count} {t} {a} {b} {on} {ex} on_store ex-store e f g p =
    subst (λ (x : Totals). PacketSetupBoth E size count other-size other-count t (two (on_store on) (ex-store x)) b) (sym g)
    (subst (λ (x : Totals). PacketSetupBoth E size count other-size other-count t (two (on_store x) (ex-store zero_totals)) b) (sym f)
    (subst (λ (x : Answered). PacketSetupBoth E size count other-size other-count t (two (on_store zero_totals) (ex-store zero_totals)) x) (sym e) p))
