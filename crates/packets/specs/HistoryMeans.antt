-- What the claims say of a history, told from the other side, so that none of its words can come to say less: what is shut out while a packet stays
-- out or is not granted, what a list of packets has of a span, and what is told of answers. proofs/HistoryMeans.antt makes it. Assumes nothing.
use Rattle.std.specs.Prelude.{◌≡◌, ◌⊎◌, ◌≢◌, List, [], ◌∷◌, ◌++◌, ℕ, ◌≤◌, ◌<◌, length, get_or}
use Rattle.std.proofs.Math.Option.{none, some}
use Rattle.ledger.specs.Ledger.{Answer, done, refused}
use Rattle.ledger.specs.Calls.{Request, Token, span_of}
use Rattle.packets.specs.declared.Store.{Store}
use Rattle.packets.specs.declared.Store.TheVariants.{OnChip, External}
use Rattle.packets.specs.Calls.{PacketCall, Take, HandBack, Fill, Read, LengthOf, ReportOf, Answered, packet, shows, plain}
use Rattle.packets.specs.Runs.{Asking, Calling, SettingUp, SettingUpBoth, Auditing, Happened, did}
use Rattle.packets.specs.Shelf.{Held, contents, strike, refilled, refill}
use Rattle.packets.specs.Stretch.{PacketStretch, told_of, all_told}
use Rattle.packets.specs.Claims.{AllStay, NotGranted}

-- no packet of the list has this span
abbrev pub Lacks : Token → List Held → Type 0
Lacks span [] = Unit
Lacks span (h ∷ held) = (h.span ≢ span) × Lacks span held

-- the first packet of the list that has this span, with what stands before it and behind it
pub record FirstOf (span : Token) (held : List Held) : Type 0 where
  pub front : List Held
  pub held_packet : Held
  pub back : List Held
  pub list_is : held ≡ front ++ (held_packet ∷ back)
  pub its_span : held_packet.span ≡ span
  pub none_before : Lacks span front

pub record HistoryMeans : Type 0 where
  -- ---- AllStay shuts out hand-backs of the packet, whatever they answered, and setups of its store, accepted or refused
  pub back_shut_out : (s : Store) (span : Token) (before after : List Happened) (a : Answered)
      → ¬ AllStay s span (before ++ (did (Calling (HandBack s span)) a ∷ after))
  pub setup_shut_out : (s : Store) (span : Token) (before after : List Happened) (size count : ℕ) (a : Answered)
      → ¬ AllStay s span (before ++ (did (SettingUp s size count) a ∷ after))
  pub both_shut_out : (s : Store) (span : Token) (before after : List Happened) (size count other-size other-count : ℕ) (a : Answered)
      → ¬ AllStay s span (before ++ (did (SettingUpBoth size count other-size other-count) a ∷ after))
  -- and nothing else
  pub only_these : (s : Store) (span : Token) (hs : List Happened)
      → ((before after : List Happened) (a : Answered) → hs ≢ before ++ (did (Calling (HandBack s span)) a ∷ after))
      → ((before after : List Happened) (size count : ℕ) (a : Answered) → hs ≢ before ++ (did (SettingUp s size count) a ∷ after))
      → ((before after : List Happened) (size count other-size other-count : ℕ) (a : Answered)
      → hs ≢ before ++ (did (SettingUpBoth size count other-size other-count) a ∷ after))
      → AllStay s span hs
  -- ---- NotGranted shuts out grants of that name, and nothing else
  pub grant_shut_out : (s : Store) (span : Token) (before after : List Happened) (q : Asking)
      → ¬ NotGranted s span (before ++ (did q (packet s span.offset span.number) ∷ after))
  pub only_grants : (s : Store) (span : Token) (hs : List Happened)
      → ((before after : List Happened) (q : Asking) → hs ≢ before ++ (did q (packet s span.offset span.number) ∷ after))
      → NotGranted s span hs
  -- ---- a list of packets lacks a span, or has a first packet of it
  pub lacks_or_first : (span : Token) (held : List Held) → Lacks span held ⊎ FirstOf span held
  -- the first packet that FirstOf names is the one whose bytes are shown, and what stands before it and behind it is what is left without it
  pub first_is : (span : Token) (held : List Held) (f : FirstOf span held)
      → (contents span held ≡ some f.held_packet.bytes) × (strike span held ≡ f.front ++ f.back) × Lacks span f.front
  -- contents gives what is in the first; strike takes out that one alone, and refill writes over that one's front alone
  pub contents_first : (span : Token) (front back : List Held) (h : Held) → Lacks span front → h.span ≡ span
      → contents span (front ++ (h ∷ back)) ≡ some h.bytes
  pub strike_first : (span : Token) (front back : List Held) (h : Held) → Lacks span front → h.span ≡ span
      → strike span (front ++ (h ∷ back)) ≡ front ++ back
  pub refill_first : (span : Token) (new : List ℕ) (front back : List Held) (h : Held) → Lacks span front → h.span ≡ span
      → refill span new (front ++ (h ∷ back)) ≡ front ++ (record { span = h.span; bytes = refilled new h.bytes } ∷ back)
  -- a list that lacks the span has nothing of it, and stays
  pub contents_lacks : (span : Token) (held : List Held) → Lacks span held → contents span held ≡ none
  pub strike_lacks : (span : Token) (held : List Held) → Lacks span held → strike span held ≡ held
  pub refill_lacks : (span : Token) (new : List ℕ) (held : List Held) → Lacks span held → refill span new held ≡ held
  -- "fewer fill its front": as many bytes as before, the new ones first, and behind them those that stood there
  pub refilled_length : (new bytes : List ℕ) → length new ≤ length bytes → length (refilled new bytes) ≡ length bytes
  pub refilled_front : (new bytes : List ℕ) (i : ℕ) → i < length new → get_or (refilled new bytes) i 0 ≡ get_or new i 0
  pub refilled_behind : (new bytes : List ℕ) (i : ℕ) → length new ≤ i → get_or (refilled new bytes) i 0 ≡ get_or bytes i 0
  -- ---- every answer is told, each in its place: a packet with its store, offset and number, an answer of a store as it is, and of a read its length
  pub every_answer : (before after : List Happened) (q : Asking) (a : Answered)
      → all_told (before ++ (did q a ∷ after)) ≡ all_told before ++ (told_of a ∷ all_told after)
  pub no_more_told : all_told [] ≡ []
  pub packet_told_lem : (s named : Store) (o r p n : ℕ) → told_of (packet s o r) ≡ told_of (packet named p n) → (s ≡ named) × (o ≡ p) × (r ≡ n)
  pub plain_told : (a b : Answer) → told_of (plain a) ≡ told_of (plain b) → a ≡ b
  pub read_told : (bytes others : List ℕ) → told_of (shows bytes) ≡ told_of (shows others) → length bytes ≡ length others
  pub packet_is_no_answer : (s : Store) (o r : ℕ) (a : Answer) → told_of (packet s o r) ≢ told_of (plain a)
  -- ---- a stretch may begin with any grant, on either store, with the return of that store's last granted, and with any refused call, fill or question,
  -- however it is answered; it ends where nothing is owed
  pub may_grant : (on ex : List Token) (hs : List Happened) (asked : Request) (o r : ℕ)
      → (PacketStretch (span_of o r ∷ on) ex hs → PacketStretch on ex (did (Calling (Take asked)) (packet OnChip o r) ∷ hs))
      × (PacketStretch on (span_of o r ∷ ex) hs → PacketStretch on ex (did (Calling (Take asked)) (packet External o r) ∷ hs))
  pub may_return : (on ex : List Token) (hs : List Happened) (span : Token) → PacketStretch on ex hs
      → PacketStretch (span ∷ on) ex (did (Calling (HandBack OnChip span)) (plain done) ∷ hs)
      × PacketStretch on (span ∷ ex) (did (Calling (HandBack External span)) (plain done) ∷ hs)
  pub may_refuse : (on ex : List Token) (hs : List Happened) (c : PacketCall) (k : ℕ) → PacketStretch on ex hs
      → PacketStretch on ex (did (Calling c) (plain (refused k)) ∷ hs)
  pub may_fill : (on ex : List Token) (hs : List Happened) (s : Store) (span : Token) (new : List ℕ) (a : Answered) → PacketStretch on ex hs
      → PacketStretch on ex (did (Calling (Fill s span new)) a ∷ hs)
  pub may_ask : (on ex : List Token) (hs : List Happened) (s : Store) (span : Token) (n : ℕ) (a : Answered) → PacketStretch on ex hs
      → PacketStretch on ex (did (Calling (Read s span)) a ∷ hs) × PacketStretch on ex (did (Calling (LengthOf s span)) a ∷ hs)
      × PacketStretch on ex (did (Calling (ReportOf s)) a ∷ hs) × PacketStretch on ex (did (Auditing s n) a ∷ hs)
  pub may_end : PacketStretch [] [] []
