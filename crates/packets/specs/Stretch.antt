-- Demand 3's stretch, of packet calls: told by calls and their answers. Assumes nothing.
use Rattle.std.specs.Prelude.{ℕ, List, [], ◌∷◌, length}
use Rattle.ledger.specs.Ledger.{done, length_is, refused}
use Rattle.ledger.specs.Calls.{Request, Token, span_of}
use Rattle.packets.specs.declared.Store.{Store}
use Rattle.packets.specs.declared.Store.TheVariants.{OnChip, External}
use Rattle.packets.specs.Calls.{PacketCall, Take, HandBack, Fill, Read, LengthOf, ReportOf, Answered, packet, shows, plain}
use Rattle.packets.specs.Runs.{Calling, Auditing, Happened, did}

-- `PacketStretch on ex hs`: "every span granted is handed back, last granted first, and no older span is handed back", of each store's spans by
-- themselves. on and ex hold the spans of each store that were granted before hs and are still to be handed back in it, the last granted first.
-- Refused calls, fills and questions may stand anywhere in it, a setup may not. A take that was granted outside the chip was tried on it first: that
-- try is a refused call of the on-chip store, and asks nothing more.
pub data PacketStretch : (on ex : List Token) → List Happened → Type 0 where
  ended : PacketStretch [] [] []
  grants_on_chip : {on ex : List Token} {hs : List Happened} {asked : Request} {o r : ℕ} → PacketStretch (span_of o r ∷ on) ex hs
      → PacketStretch on ex (did (Calling (Take asked)) (packet OnChip o r) ∷ hs)
  grants_outside : {on ex : List Token} {hs : List Happened} {asked : Request} {o r : ℕ} → PacketStretch on (span_of o r ∷ ex) hs
      → PacketStretch on ex (did (Calling (Take asked)) (packet External o r) ∷ hs)
  returns-on-chip : {on ex : List Token} {hs : List Happened} {span : Token} → PacketStretch on ex hs
      → PacketStretch (span ∷ on) ex (did (Calling (HandBack OnChip span)) (plain done) ∷ hs)
  returns-outside : {on ex : List Token} {hs : List Happened} {span : Token} → PacketStretch on ex hs
      → PacketStretch on (span ∷ ex) (did (Calling (HandBack External span)) (plain done) ∷ hs)
  refuses : {on ex : List Token} {hs : List Happened} {c : PacketCall} {k : ℕ} → PacketStretch on ex hs
      → PacketStretch on ex (did (Calling c) (plain (refused k)) ∷ hs)
  fills : {on ex : List Token} {hs : List Happened} {s : Store} {span : Token} {new : List ℕ} {a : Answered} → PacketStretch on ex hs
      → PacketStretch on ex (did (Calling (Fill s span new)) a ∷ hs)
  reads : {on ex : List Token} {hs : List Happened} {s : Store} {span : Token} {a : Answered} → PacketStretch on ex hs
      → PacketStretch on ex (did (Calling (Read s span)) a ∷ hs)
  measures : {on ex : List Token} {hs : List Happened} {s : Store} {span : Token} {a : Answered} → PacketStretch on ex hs
      → PacketStretch on ex (did (Calling (LengthOf s span)) a ∷ hs)
  reports : {on ex : List Token} {hs : List Happened} {s : Store} {a : Answered} → PacketStretch on ex hs
      → PacketStretch on ex (did (Calling (ReportOf s)) a ∷ hs)
  audits : {on ex : List Token} {hs : List Happened} {s : Store} {n : ℕ} {a : Answered} → PacketStretch on ex hs
      → PacketStretch on ex (did (Auditing s n) a ∷ hs)

-- "for each store's spans, not for bytes": of a read its length alone
abbrev pub told_of : Answered → Answered
told_of (packet s o r) = packet s o r
told_of (shows bytes) = plain (length_is (length bytes))
told_of (plain a) = plain a

unfoldable pub all_told : List Happened → List Answered
all_told [] = []
all_told (did q a ∷ hs) = told_of a ∷ all_told hs
