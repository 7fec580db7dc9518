-- What holds of the packet calls, each claim beneath the sentence that it states: one record, which proofs/Claims.antt makes. Assumes nothing.
use Rattle.std.specs.Prelude.{◌≡◌, ◌↔◌, ◌⊎◌, ◌≢◌, List, [], ◌∷◌, ◌++◌, ℕ, ◌+◌, ◌≤◌, ◌<◌, length}
use Rattle.std.proofs.Math.Option.{none, some}
use Rattle.ledger.specs.Ledger.{done, length_is, refused, setup, by_class}
use Rattle.ledger.specs.Calls.{Request, Token, span_of}
use Rattle.ledger.specs.Calls as ledger
use Rattle.tables.specs.Words.{Words, Edition}
use Rattle.tables.specs.Sound.{Sound}
use Rattle.tables.specs.Claims.{OneOf}
use Rattle.tables.specs.Promise.{Promise}
use Rattle.demands.specs.Runs.{Done, Run, NoSetup}
use Rattle.demands.specs.Demands.{Since}
use Rattle.parts.specs.Bytes.{not_heard}
use Rattle.packets.specs.declared.Store.{Store}
use Rattle.packets.specs.declared.Store.TheVariants.{External}
use Rattle.packets.specs.Stores.{Kept, Two, at, other}
use Rattle.packets.specs.OneStore.{length_in}
use Rattle.packets.specs.Calls.{PacketCall, Take, HandBack, Fill, Read, LengthOf, ReportOf, Answered, packet, shows, plain}
use Rattle.packets.specs.Calls.{packet_words}
use Rattle.packets.specs.Promise.{PacketPromise, PacketSetup, PacketSetupBoth, PacketAudit}
use Rattle.packets.specs.Runs.{Calling, SettingUp, SettingUpBoth, Auditing, Happened, did, PacketRun, PacketStep, made_along, asked_of}
use Rattle.packets.specs.Shelf.{contents, shelf, filled_since}
use Rattle.packets.specs.Stretch.{PacketStretch, all_told}

-- ---- where a run begins: no packet is out of a store that was just set up, nor of one that is not there
pub data Bare (E : Edition) (k : Kept) : Type 0 where
  no_store : k.words.count ≡ 0 → k.words.size ≡ 0 → Bare E k
  just_set_up : (size count : ℕ) → Sound E k.words (setup by_class size count) → size ≤ length k.bytes → Bare E k

pub record AllBare (E : Edition) (t : Two) : Type 0 where
  pub each : (s : Store) → Bare E (at s t)

-- ---- a packet stays out: it is not handed back, and its store is not set up
abbrev pub Stays : Store → Token → Happened → Type 0
Stays s span (did (Calling (Take asked)) a) = Unit
Stays s span (did (Calling (HandBack named back)) a) = (named ≡ s) → back ≢ span
Stays s span (did (Calling (Fill named other new)) a) = Unit
Stays s span (did (Calling (Read named other)) a) = Unit
Stays s span (did (Calling (LengthOf named other)) a) = Unit
Stays s span (did (Calling (ReportOf named)) a) = Unit
Stays s span (did (SettingUp named size count) a) = named ≢ s
Stays s span (did (SettingUpBoth size count other-size other-count) a) = ⊥
Stays s span (did (Auditing named n) a) = Unit

abbrev pub AllStay : Store → Token → List Happened → Type 0
AllStay s span [] = Unit
AllStay s span (h ∷ hs) = Stays s span h × AllStay s span hs

-- a packet of this name is not granted
abbrev pub NotGranted : Store → Token → List Happened → Type 0
NotGranted s span [] = Unit
NotGranted s span (did q a ∷ hs) = (a ≢ packet s span.offset span.number) × NotGranted s span hs

-- ---- a store that is shorter in bytes than its allocator's size
abbrev pub Short : Two → Type 0
Short t = (length t.on_chip.bytes < t.on_chip.words.size) ⊎ (length t.external.bytes < t.external.words.size)

-- what cannot be read, filled or handed back, and why: 5 or 8, or 6 where there is no store
abbrev pub CannotBeRead : Kept → Answered → Type 0
CannotBeRead k a = (a ≡ plain (refused 5)) ⊎ ((a ≡ plain (refused 8)) ⊎ ((a ≡ plain (refused 6)) × (k.words.count ≡ 0)))

pub record PacketClaims (E : Edition) : Type 0 where
  -- ---- the customer's theorem, over any run of packet calls from accepted setups. What is in a packet that is out by the history is what a read
  -- gives, all of it, and its length is told; one that is not out shows nothing, and its length is refused
  pub read_is : {t u v : Two} {hs : List Happened} {s : Store} {span : Token} {a : Answered} {bytes : List ℕ} → AllBare E t → PacketRun E t hs u
      → PacketPromise E (Read s span) u v a → contents span (shelf s hs []) ≡ some bytes → a ≡ shows bytes
  pub length_is_told : {t u v : Two} {hs : List Happened} {s : Store} {span : Token} {a : Answered} {bytes : List ℕ} → AllBare E t → PacketRun E t hs u
      → PacketPromise E (LengthOf s span) u v a → contents span (shelf s hs []) ≡ some bytes → a ≡ plain (length_is (length bytes))
  pub read_none : {t u v : Two} {hs : List Happened} {s : Store} {span : Token} {a : Answered} → AllBare E t → PacketRun E t hs u
      → PacketPromise E (Read s span) u v a → contents span (shelf s hs []) ≡ none → a ≡ shows []
  pub length_none : {t u v : Two} {hs : List Happened} {s : Store} {span : Token} {a : Answered} → AllBare E t → PacketRun E t hs u
      → PacketPromise E (LengthOf s span) u v a → contents span (shelf s hs []) ≡ none → CannotBeRead (at s u) a
  -- "Every byte of a fresh grant is set to 255, our mark for not heard, so that no old reading shows": a read of a packet that is out gives exactly the
  -- bytes last filled into it since its grant, over 255 where none were filled, whatever else was taken, filled and handed back before and since, and
  -- whatever lay there before the grant
  pub as_filled : {t u v x y : Two} {before since : List Happened} {asked : Request} {s : Store} {o r : ℕ} {a : Answered} → AllBare E t
      → PacketRun E t before u → PacketStep E u (Calling (Take asked)) (packet s o r) v → PacketRun E v since x → AllStay s (span_of o r) since
      → PacketPromise E (Read s (span_of o r)) x y a
      → a ≡ shows (filled_since s (span_of o r) since (not_heard asked.size))
  -- a packet that was handed back cannot be read, unless its pair was granted again
  pub not_after_return : {t u v x y : Two} {before since : List Happened} {s : Store} {span : Token} {a : Answered} → AllBare E t
      → PacketRun E t before u → PacketStep E u (Calling (HandBack s span)) (plain done) v → PacketRun E v since x → NotGranted s span since
      → PacketPromise E (Read s span) x y a → a ≡ shows []
  pub no_length_after_return : {t u v x y : Two} {before since : List Happened} {s : Store} {span : Token} {a : Answered} → AllBare E t
      → PacketRun E t before u → PacketStep E u (Calling (HandBack s span)) (plain done) v → PacketRun E v since x → NotGranted s span since
      → PacketPromise E (LengthOf s span) x y a → CannotBeRead (at s x) a
  -- a fill: done exactly if the packet is out and holds as many bytes, and 17 exactly if it is out and does not
  pub fill_done : {t u v : Two} {hs : List Happened} {s : Store} {span : Token} {new : List ℕ} {a : Answered} {bytes : List ℕ} → AllBare E t
      → PacketRun E t hs u → PacketPromise E (Fill s span new) u v a → contents span (shelf s hs []) ≡ some bytes → length new ≤ length bytes
      → a ≡ plain done
  pub fill_17 : {t u v : Two} {hs : List Happened} {s : Store} {span : Token} {new : List ℕ} {a : Answered} {bytes : List ℕ} → AllBare E t
      → PacketRun E t hs u → PacketPromise E (Fill s span new) u v a → contents span (shelf s hs []) ≡ some bytes → length bytes < length new
      → a ≡ plain (refused 17)
  pub fill_none : {t u v : Two} {hs : List Happened} {s : Store} {span : Token} {new : List ℕ} {a : Answered} → AllBare E t
      → PacketRun E t hs u → PacketPromise E (Fill s span new) u v a → contents span (shelf s hs []) ≡ none → CannotBeRead (at s u) a
  -- a hand-back: done exactly if the packet is out
  pub back_done : {t u v : Two} {hs : List Happened} {s : Store} {span : Token} {a : Answered} {bytes : List ℕ} → AllBare E t → PacketRun E t hs u
      → PacketPromise E (HandBack s span) u v a → contents span (shelf s hs []) ≡ some bytes → a ≡ plain done
  pub back_none : {t u v : Two} {hs : List Happened} {s : Store} {span : Token} {a : Answered} → AllBare E t → PacketRun E t hs u
      → PacketPromise E (HandBack s span) u v a → contents span (shelf s hs []) ≡ none → CannotBeRead (at s u) a
  -- ---- each store of such a run is none, or is as demand 2 has it since an accepted setup: a run of the demands led from that setup's words to its
  -- own, so that all that Demands says of them holds, and it has at least as many bytes as its size
  pub stands : {t u : Two} {hs : List Happened} → AllBare E t → PacketRun E t hs u → (s : Store)
      → (((at s u).words.count ≡ 0) × ((at s u).words.size ≡ 0))
      ⊎ ((size : ℕ) × (count : ℕ) × (at_first : Words) × (ds : List Done) × Since E size count (setup by_class size count) at_first ds (at s u).words
      × (size ≤ length (at s u).bytes))
  -- and what a run did to a store that is not set up in it is a run of the demands: of the calls below that its packet calls made there, and no others
  pub made_along_lem : {t u : Two} {hs : List Happened} (s : Store) (run : PacketRun E t hs u)
      → ((before after : List Happened) (size count : ℕ) (a : Answered) → hs ≢ before ++ (did (SettingUp s size count) a ∷ after))
      → ((before after : List Happened) (size count other-size other-count : ℕ) (a : Answered)
      → hs ≢ before ++ (did (SettingUpBoth size count other-size other-count) a ∷ after))
      → Run E (at s t).words (made_along E s run) (at s u).words × NoSetup (made_along E s run)
  -- its audit says yes, if its scratch is long enough
  pub audit_says_yes : {t u : Two} {hs : List Happened} {s : Store} {scratch left : List ℕ} {a : Answered} → AllBare E t → PacketRun E t hs u
      → PacketAudit E s u scratch left a → (at s u).words.count ≢ 0 → (at s u).words.count ≤ length scratch → a ≡ plain done
  -- no such run meets 9 but in a setup: no store of it is too short, so that an audit does not give 9, nor is a read empty for it
  pub not_short : {t u : Two} {hs : List Happened} → AllBare E t → PacketRun E t hs u → ¬ Short u
  pub never_9 : {t u v : Two} {hs : List Happened} {c : PacketCall} {a : Answered} → AllBare E t → PacketRun E t hs u
      → PacketPromise E c u v a → a ≢ plain (refused 9)
  -- a setup begins bare, accepted or refused
  pub set_up_bare : {s : Store} {size count : ℕ} {t u : Two} {a : Answered} → PacketSetup E s size count t u a → Bare E (at s u)
  pub set_up_both_bare : {size count other-size other-count : ℕ} {t u : Two} {a : Answered} → PacketSetupBoth E size count other-size other-count t u a
      → AllBare E u
  -- ---- "Demand 3 reads for each store's spans, not for bytes": `later` is asked after the stretch, and `instead`, the same, at the moment, without it;
  -- setups, accepted and refused, may stand among what comes later
  pub as_never : {t at-the-moment after-the-stretch one_end other-end : Two} {before stretch later instead : List Happened} → AllBare E t
      → PacketRun E t before at-the-moment → PacketRun E at-the-moment stretch after-the-stretch → PacketStretch [] [] stretch
      → PacketRun E after-the-stretch later one_end → PacketRun E at-the-moment instead other-end → asked_of later ≡ asked_of instead
      → all_told later ≡ all_told instead
  -- "With two stores the refused first try counts as a refused call": of a packet outside the chip, the on-chip store's own take was refused as 3 or 4
  pub first_try : {t u : Two} {asked : Request} {o r : ℕ} → PacketPromise E (Take asked) t u (packet External o r)
      → (k : ℕ) × OneOf (3 ∷ 4 ∷ []) k × Promise E (ledger.Take asked) t.on_chip.words u.on_chip.words (refused k)
  -- ---- on any words, sound or not: 9 exactly if a store is too short, whatever else is wrong; 17 exactly if there is a length, and it is less
  pub nine_exactly : (c : PacketCall) (t : Two) → ((s : Store) (span : Token) → c ≢ Read s span)
      → ((packet_words E c t).0 ≡ plain (refused 9)) ↔ Short t
  pub read_short : (s : Store) (span : Token) (t : Two) → Short t → (packet_words E (Read s span) t).0 ≡ shows []
  pub seventeen_exactly : (s : Store) (span : Token) (new : List ℕ) (t : Two)
      → ((packet_words E (Fill s span new) t).0 ≡ plain (refused 17))
      ↔ ((¬ Short t) × ((n : ℕ) × (length_in E span (at s t) ≡ length_is n) × (n < length new)))
  -- on no words does a packet's length pass the bytes of its store: so a fill and a read stay inside it
  pub length_inside : (s : Store) (span : Token) (t : Two) (n : ℕ) → (packet_words E (LengthOf s span) t).0 ≡ plain (length_is n)
      → span.offset + n ≤ length (at s t).bytes
  -- any two outcomes that a promise allows coincide
  pub one_outcome : (c : PacketCall) (t u v : Two) (a b : Answered) → PacketPromise E c t u a → PacketPromise E c t v b → (a ≡ b) × (u ≡ v)
