-- Which packets are out of a store, and what is in each, by the history of calls and answers alone: a list of packets with their bytes. Assumes
-- nothing.
use Rattle.std.specs.Prelude.{Bool, true, false, cond, ◌&&◌, List, [], ◌∷◌, ◌++◌, ℕ, eqb, length, drop}
use Rattle.std.proofs.Math.Option.{Option, none, some}
use Rattle.ledger.specs.Ledger.{granted, done, length_is, reported, classes, refused}
use Rattle.ledger.specs.Calls.{Token, span_of}
use Rattle.parts.specs.Bytes.{not_heard}
use Rattle.packets.specs.declared.Store.{Store}
use Rattle.packets.specs.declared.Store.TheVariants.{OnChip, External}
use Rattle.packets.specs.Calls.{Take, HandBack, Fill, Read, LengthOf, ReportOf, Answered, packet, shows, plain}
use Rattle.packets.specs.Runs.{Calling, SettingUp, SettingUpBoth, Auditing, Happened, did}

-- a packet that is out: its span, and what is in it
pub record Held : Type 0 where
  pub span : Token
  pub bytes : List ℕ

abbrev pub same_span : Token → Token → Bool
same_span a b = eqb a.number b.number && eqb a.offset b.offset

-- what is in the packet of this span, if one is out
unfoldable pub contents : Token → List Held → Option (List ℕ)
contents span [] = none
contents span (h ∷ hs) = cond (same_span h.span span) (some h.bytes) (contents span hs)

-- the packet of this span leaves the list
unfoldable pub strike : Token → List Held → List Held
strike span [] = []
strike span (h ∷ hs) = cond (same_span h.span span) hs (h ∷ strike span hs)

-- bytes with new ones at their front: "fewer fill its front"
abbrev pub refilled : (new bytes : List ℕ) → List ℕ
refilled new bytes = new ++ drop (length new) bytes

unfoldable pub refill : Token → List ℕ → List Held → List Held
refill span new [] = []
refill span new (h ∷ hs) =
    cond (same_span h.span span) (record { span = h.span; bytes = refilled new h.bytes } ∷ hs) (h ∷ refill span new hs)

abbrev pub is_done : Answered → Bool
is_done (packet s o r) = false
is_done (shows bytes) = false
is_done (plain (granted o r)) = false
is_done (plain done) = true
is_done (plain (length_is n)) = false
is_done (plain (reported n m)) = false
is_done (plain (classes rows)) = false
is_done (plain (refused k)) = false

abbrev pub same : Store → Store → Bool
same OnChip OnChip = true
same OnChip External = false
same External OnChip = false
same External External = true

-- what a take answered, to the packets of store s: a grant there adds one, every byte of it not heard
abbrev pub granted_in : Store → (size : ℕ) → Answered → List Held → List Held
granted_in s size (packet named o r) held = cond (same named s) (record { span = span_of o r; bytes = not_heard size } ∷ held) held
granted_in s size (shows bytes) held = held
granted_in s size (plain a) held = held

-- what happened, to the packets of store s: a hand-back that is done strikes one, a fill that is done writes its front; a setup, accepted or refused,
-- strikes all; nothing else changes the list
unfoldable pub noted : Store → Happened → List Held → List Held
unfolding strike refill
noted s (did (Calling (Take asked)) a) held = granted_in s asked.size a held
noted s (did (Calling (HandBack named span)) a) held = cond (same named s && is_done a) (strike span held) held
noted s (did (Calling (Fill named span new)) a) held = cond (same named s && is_done a) (refill span new held) held
noted s (did (Calling (Read named span)) a) held = held
noted s (did (Calling (LengthOf named span)) a) held = held
noted s (did (Calling (ReportOf named)) a) held = held
noted s (did (SettingUp named size count) a) held = cond (same named s) [] held
noted s (did (SettingUpBoth size count other-size other-count) a) held = []
noted s (did (Auditing named n) a) held = held

unfoldable pub shelf : Store → List Happened → List Held → List Held
unfolding noted
shelf s [] held = held
shelf s (h ∷ hs) held = shelf s hs (noted s h held)

-- ---- one packet: what was filled into it, over what was in it
unfoldable pub filled_since : Store → Token → List Happened → List ℕ → List ℕ
filled_since s span [] bytes = bytes
filled_since s span (did (Calling (Take asked)) a ∷ hs) bytes = filled_since s span hs bytes
filled_since s span (did (Calling (HandBack named other)) a ∷ hs) bytes = filled_since s span hs bytes
filled_since s span (did (Calling (Fill named other new)) a ∷ hs) bytes =
    filled_since s span hs (cond (same named s && (same_span other span && is_done a)) (refilled new bytes) bytes)
filled_since s span (did (Calling (Read named other)) a ∷ hs) bytes = filled_since s span hs bytes
filled_since s span (did (Calling (LengthOf named other)) a ∷ hs) bytes = filled_since s span hs bytes
filled_since s span (did (Calling (ReportOf named)) a ∷ hs) bytes = filled_since s span hs bytes
filled_since s span (did (SettingUp named size count) a ∷ hs) bytes = filled_since s span hs bytes
filled_since s span (did (SettingUpBoth size count other-size other-count) a ∷ hs) bytes = filled_since s span hs bytes
filled_since s span (did (Auditing named n) a ∷ hs) bytes = filled_since s span hs bytes
