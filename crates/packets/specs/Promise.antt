-- What every packet call promises: one record for all of them, and one each for the setups and the audit. Assumes nothing.
use Rattle.std.specs.Prelude.{◌≡◌, cond, false, ◌||◌, List, [], ◌∷◌, ℕ, ◌+◌, ◌^◌, ◌≤◌, ◌<◌, length, get_or}
use Rattle.ledger.specs.Ledger.{Answer, granted, done, length_is, reported, classes, refused, setup, by_class}
use Rattle.ledger.specs.Calls as ledger
use Rattle.tables.specs.Words.{Edition}
use Rattle.tables.specs.Sound.{Sound}
use Rattle.tables.specs.Calls.{answer_words}
use Rattle.tables.specs.Promise.{SetupPromise}
use Rattle.audit_words.specs.Promise.{AuditPromise}
use Rattle.demands.specs.Runs.{Done, did, Calling, Run}
use Rattle.packets.specs.declared.Store.{Store}
use Rattle.packets.specs.declared.Store.TheVariants.{OnChip, External}
use Rattle.packets.specs.Stores.{Two, at, put, other}
use Rattle.packets.specs.OneStore.{lent_in, no_store_yet}
use Rattle.packets.specs.Calls.{PacketCall, Take, HandBack, Fill, Read, LengthOf, ReportOf, Answered, packet, shows, plain, plainly}
use Rattle.packets.specs.Calls.{shorter, too_short, goes_on, packet_words, set_up_words, set_up_both_words, neither, audit_in}

-- ---- which calls of the allocators below a packet call makes on each store, with their answers
-- the external store is tried exactly if the first try was refused as 3 or 4
abbrev pub tried_on : Answer → List Done → List Done
tried_on (granted o r) second = []
tried_on done second = []
tried_on (length_is n) second = []
tried_on (reported n m) second = []
tried_on (classes rows) second = []
tried_on (refused k) second = cond (goes_on k) second []

-- nothing on the store that is not named
abbrev pub if_named : (named s : Store) → List Done → List Done
if_named OnChip OnChip ds = ds
if_named OnChip External ds = []
if_named External OnChip ds = []
if_named External External ds = ds

module _ (E : Edition) where
  -- one call on a store, with its answer there
  abbrev pub once : ledger.Call → Store → Two → List Done
  once c s t = did (Calling c) (answer_words E c (at s t).words).0 ∷ []

  abbrev pub takes_on : Store → ledger.Request → Two → List Done
  takes_on OnChip asked t = once (ledger.Take asked) OnChip t
  takes_on External asked t = tried_on (answer_words E (ledger.Take asked) t.on_chip.words).0 (once (ledger.Take asked) External t)

  abbrev pub calls_on : Store → PacketCall → Two → List Done
  calls_on s (Take asked) t = takes_on s asked t
  calls_on s (HandBack named span) t = if_named named s (once (ledger.HandBack span) s t)
  calls_on s (Fill named span new) t = if_named named s (once (ledger.Ask (ledger.SizeOf span)) s t)
  calls_on s (Read named span) t = if_named named s (once (ledger.Ask (ledger.SizeOf span)) s t)
  calls_on s (LengthOf named span) t = if_named named s (once (ledger.Ask (ledger.SizeOf span)) s t)
  calls_on s (ReportOf named) t = if_named named s (once (ledger.Ask ledger.Report) s t)

  -- refused as 9, it makes none
  unfoldable pub made_on : Store → PacketCall → Two → List Done
  made_on s c t = cond (too_short t) [] (calls_on s c t)

-- ---- the bytes that a call may change: those of the span that it grants, and the front of the packet that it fills
abbrev pub Within : (from many i : ℕ) → Type 0
Within from many i = (from ≤ i) × (i < from + many)

abbrev pub MayWrite : PacketCall → Answered → Store → ℕ → Type 0
MayWrite (Take asked) (packet named o r) s i = (s ≡ named) × Within o asked.size i
MayWrite (Take asked) (shows bytes) s i = ⊥
MayWrite (Take asked) (plain a) s i = ⊥
MayWrite (HandBack named span) a s i = ⊥
MayWrite (Fill named span new) a s i = (s ≡ named) × Within span.offset (length new) i
MayWrite (Read named span) a s i = ⊥
MayWrite (LengthOf named span) a s i = ⊥
MayWrite (ReportOf named) a s i = ⊥

-- the call c finds the two stores t, answers a and leaves them as u
pub record PacketPromise (E : Edition) (c : PacketCall) (t u : Two) (a : Answered) : Type 0 where
  -- the answer, every word and every byte of both stores are the model's, for all words and bytes, sound or not
  pub exact : (a, u) ≡ packet_words E c t
  -- each store's words come of the calls below that are made on it, each with all that it promises
  pub made : (s : Store) → Run E (at s t).words (made_on E s c t) (at s u).words
  -- "and all bytes on a refusal, stay put", and all words too
  pub kept : (k : ℕ) → a ≡ plain (refused k) → u ≡ t
  -- "Bytes outside the granted span .. stay put", and no store becomes longer or shorter
  pub outside : (s : Store) (i : ℕ) → ¬ MayWrite c a s i → get_or (at s u).bytes i 0 ≡ get_or (at s t).bytes i 0
  pub lengths : (s : Store) → length (at s u).bytes ≡ length (at s t).bytes
  -- a grant lies inside the bytes of its store, on any tables
  pub inside : (asked : ledger.Request) (s : Store) (o r : ℕ) → c ≡ Take asked → a ≡ packet s o r → o + asked.size ≤ length (at s t).bytes

-- ---- setup of one store
pub record PacketSetup (E : Edition) (s : Store) (size count : ℕ) (t u : Two) (a : Answered) : Type 0 where
  pub exact : (a, u) ≡ set_up_words E s size count t
  -- the size is a 32-bit number, as its type says
  pub size_fits : size < 2 ^ 32
  -- but for 9 it is the setup below, with all that it promises
  pub made : (shorter size (at s t) || shorter (at (other s) t).words.size (at (other s) t)) ≡ false
      → (b : Answer) × (a ≡ plain b) × SetupPromise E size count (lent_in (at s t).words) (at s u).words b
  -- accepted, its allocator begins anew and its bytes are as many as its size
  pub begins : a ≡ plain done → Sound E (at s u).words (setup by_class size count) × (size ≤ length (at s u).bytes)
  -- refused, there is no store there
  pub refused_none : (k : ℕ) → a ≡ plain (refused k) → u ≡ put s (no_store_yet (at s t)) t
  -- the other store, and every byte of both, stay
  pub other_kept : at (other s) u ≡ at (other s) t
  pub bytes_kept : (at s u).bytes ≡ (at s t).bytes

-- ---- setup of both: all or nothing
pub record PacketSetupBoth (E : Edition) (size count other-size other-count : ℕ) (t u : Two) (a : Answered) : Type 0 where
  pub exact : (a, u) ≡ set_up_both_words E size count other-size other-count t
  pub size_fits : size < 2 ^ 32
  pub other_size_fits : other-size < 2 ^ 32
  pub made : a ≡ plain done
      → SetupPromise E size count (lent_in t.on_chip.words) u.on_chip.words done
      × SetupPromise E other-size other-count (lent_in t.external.words) u.external.words done
  pub begins : a ≡ plain done
      → (Sound E u.on_chip.words (setup by_class size count) × (size ≤ length u.on_chip.bytes))
      × (Sound E u.external.words (setup by_class other-size other-count) × (other-size ≤ length u.external.bytes))
  pub refused_none : (k : ℕ) → a ≡ plain (refused k) → u ≡ neither t
  pub bytes_kept : (s : Store) → (at s u).bytes ≡ (at s t).bytes

-- ---- the audit of one store: it changes nothing but its scratch
pub record PacketAudit (E : Edition) (s : Store) (t : Two) (scratch left : List ℕ) (a : Answered) : Type 0 where
  pub exact : (a, left) ≡ plainly (audit_in E s t scratch)
  -- but for 9 it is the audit below, with all that it promises
  pub made : too_short t ≡ false → (b : Answer) × (a ≡ plain b) × AuditPromise E (at s t).words scratch left b
