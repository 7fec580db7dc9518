-- A promise, said of the call as it came and of the answer as it was given. Assumes nothing.
use mathlib.Core.Path.{◌≡◌, sym, subst}
use Prim.Native.Nat.{ℕ}
use Rattle.ledger.specs.Ledger.{Answer}
use Rattle.ledger.specs.Calls as ledger
use Rattle.tables.specs.Words.{Words, Edition}
use Rattle.tables.specs.Setup.{Lent}
use Rattle.tables.specs.Promise.{Promise, SetupPromise}
use Rattle.calls.specs.declared.Call.{Call}
use Rattle.calling.specs.Makes.{Makes}

pub said_so : {E : Edition} {c : ledger.Call} {w v : Words} {a b : Answer} → b ≡ a → Promise E c w v a → Promise E c w v b
said_so {E = E} {c = c} {w = w} {v = v} e p = subst (Promise E c w v) (sym e) p

pub setup_said_so : {E : Edition} {size count : ℕ} {lent : Lent} {v : Words} {a b : Answer} → b ≡ a → SetupPromise E size count lent v a
    → SetupPromise E size count lent v b
setup_said_so {E = E} {size = size} {count = count} {lent = lent} {v = v} e p = subst (SetupPromise E size count lent v) (sym e) p

pub as_came : {E : Edition} {c d : Call} {w v : Words} {a : Answer} → c ≡ d → Makes E d w v a → Makes E c w v a
as_came {E = E} {w = w} {v = v} {a = a} e m = subst (λ (call : Call). Makes E call w v a) (sym e) m
