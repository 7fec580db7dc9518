-- What the promises say, in plain words and on any words and bytes, so that none of their own words can come to say less: which bytes may be written,
-- what a fresh grant, a fill and a read come to byte by byte, 9 at the setups and the audit, why a packet cannot be read, and where a run may begin.
-- proofs/PromiseMeans.antt makes it. Assumes nothing.
use Rattle.std.specs.Prelude.{◌≡◌, ◌↔◌, ◌⊎◌, ◌≢◌, List, [], ◌∷◌, ℕ, ◌+◌, ◌≤◌, ◌<◌, length, get_or}
use Rattle.ledger.specs.Ledger.{Answer, granted, done, length_is, refused, setup, by_class}
use Rattle.ledger.specs.Calls.{Request, Token}
use Rattle.ledger.specs.Calls as ledger
use Rattle.tables.specs.Words.{Edition}
use Rattle.tables.specs.Sound.{Sound}
use Rattle.tables.specs.Calls.{answer_words}
use Rattle.tables.specs.Claims.{OneOf}
use Rattle.demands.specs.Runs.{Done}
use Rattle.parts.specs.Bytes.{part_of}
use Rattle.packets.specs.declared.Store.{Store}
use Rattle.packets.specs.declared.Store.TheVariants.{OnChip, External}
use Rattle.packets.specs.Stores.{Kept, Two, two, at, put, other}
use Rattle.packets.specs.OneStore.{fresh_bytes, inside_size, filled_by, shown_by, no_store_yet}
use Rattle.packets.specs.Calls.{PacketCall, Take, HandBack, Fill, Read, LengthOf, ReportOf, Answered, packet, shows, plain}
use Rattle.packets.specs.Calls.{from_external, after_first, packet_words, set_up_words, set_up_both_words}
use Rattle.packets.specs.Promise.{tried_on, MayWrite, PacketPromise, PacketSetup, PacketSetupBoth, PacketAudit}
use Rattle.packets.specs.Claims.{Bare, AllBare, Short, CannotBeRead}

pub record PromiseMeans (E : Edition) : Type 0 where
  -- ---- "Bytes outside the granted span, and all bytes on a refusal, stay put". MayWrite allows the bytes of a span that was granted, in the store that
  -- granted it, and those that a fill was given, in the store that is named; and no other
  pub may_write_no_more : (c : PacketCall) (a : Answered) (s : Store) (i : ℕ) → MayWrite c a s i
      → ((asked : Request) × (o : ℕ) × (r : ℕ) × (c ≡ Take asked) × (a ≡ packet s o r) × (o ≤ i) × (i < o + asked.size))
      ⊎ ((span : Token) × (new : List ℕ) × (c ≡ Fill s span new) × (span.offset ≤ i) × (i < span.offset + length new))
  -- so a granted take leaves the other store's bytes, and in its own those before the span and behind it; a fill likewise; a hand-back leaves all
  pub take_outside : {t u : Two} {asked : Request} {named : Store} {o r : ℕ} → PacketPromise E (Take asked) t u (packet named o r) → (s : Store) (i : ℕ)
      → (s ≢ named) ⊎ ((i < o) ⊎ (o + asked.size ≤ i)) → get_or (at s u).bytes i 0 ≡ get_or (at s t).bytes i 0
  pub fill_outside : {t u : Two} {named : Store} {span : Token} {new : List ℕ} {a : Answered} → PacketPromise E (Fill named span new) t u a
      → (s : Store) (i : ℕ) → (s ≢ named) ⊎ ((i < span.offset) ⊎ (span.offset + length new ≤ i))
      → get_or (at s u).bytes i 0 ≡ get_or (at s t).bytes i 0
  pub back_bytes : {t u : Two} {named : Store} {span : Token} {a : Answered} → PacketPromise E (HandBack named span) t u a → (s : Store) (i : ℕ)
      → get_or (at s u).bytes i 0 ≡ get_or (at s t).bytes i 0
  pub refusal_keeps : {c : PacketCall} {t u : Two} {k : ℕ} → PacketPromise E c t u (plain (refused k)) → u ≡ t
  pub asking_keeps : {t u : Two} {s : Store} {span : Token} {a : Answered}
      → (PacketPromise E (Read s span) t u a → u ≡ t) × (PacketPromise E (LengthOf s span) t u a → u ≡ t) × (PacketPromise E (ReportOf s) t u a → u ≡ t)
  -- no store becomes longer or shorter, and a grant lies inside its store's bytes, on any tables
  pub as_many_bytes : {c : PacketCall} {t u : Two} {a : Answered} → PacketPromise E c t u a → (s : Store)
      → length (at s u).bytes ≡ length (at s t).bytes
  pub grant_inside : {t u : Two} {asked : Request} {s : Store} {o r : ℕ} → PacketPromise E (Take asked) t u (packet s o r)
      → o + asked.size ≤ length (at s t).bytes
  -- a setup of one store leaves the other, and every byte; refused, there is no store there. A setup of both leaves every byte; refused, there is neither
  pub set_up_leaves : {s : Store} {size count : ℕ} {t u : Two} {a : Answered} → PacketSetup E s size count t u a
      → (at (other s) u ≡ at (other s) t) × ((at s u).bytes ≡ (at s t).bytes)
  pub set_up_refused : {s : Store} {size count k : ℕ} {t u : Two} → PacketSetup E s size count t u (plain (refused k))
      → u ≡ put s (no_store_yet (at s t)) t
  pub both_leave : {size count other-size other-count : ℕ} {t u : Two} {a : Answered} → PacketSetupBoth E size count other-size other-count t u a
      → (s : Store) → (at s u).bytes ≡ (at s t).bytes
  pub both_refused : {size count other-size other-count k : ℕ} {t u : Two} → PacketSetupBoth E size count other-size other-count t u (plain (refused k))
      → (s : Store) → at s u ≡ no_store_yet (at s t)
  -- ---- "A take tries on-chip first and, on 3 or 4 only, external; the answer says which, or gives the refusal of the last store tried", by what each
  -- store's own take answers: the on-chip store's grant; its refusal, but for 3 and 4; after those the external store's grant, or its refusal
  pub take_here : (asked : Request) (t : Two) (o r : ℕ) → ¬ Short t → (answer_words E (ledger.Take asked) t.on_chip.words).0 ≡ granted o r
      → (packet_words E (Take asked) t).0 ≡ packet OnChip o r
  pub take_stops : (asked : Request) (t : Two) (k : ℕ) → ¬ Short t → (answer_words E (ledger.Take asked) t.on_chip.words).0 ≡ refused k → k ≢ 3 → k ≢ 4
      → (packet_words E (Take asked) t).0 ≡ plain (refused k)
  pub take_outside_chip : (asked : Request) (t : Two) (k o r : ℕ) → ¬ Short t → (answer_words E (ledger.Take asked) t.on_chip.words).0 ≡ refused k
      → OneOf (3 ∷ 4 ∷ []) k → (answer_words E (ledger.Take asked) t.external.words).0 ≡ granted o r
      → (packet_words E (Take asked) t).0 ≡ packet External o r
  pub take_refused_twice : (asked : Request) (t : Two) (k n : ℕ) → ¬ Short t → (answer_words E (ledger.Take asked) t.on_chip.words).0 ≡ refused k
      → OneOf (3 ∷ 4 ∷ []) k → (answer_words E (ledger.Take asked) t.external.words).0 ≡ refused n
      → (packet_words E (Take asked) t).0 ≡ plain (refused n)
  -- ---- "Every byte of a fresh grant is set to 255": on any words, sound or not
  pub fresh_255 : {t u : Two} {asked : Request} {s : Store} {o r : ℕ} → PacketPromise E (Take asked) t u (packet s o r) → (i : ℕ) → i < asked.size
      → get_or (at s u).bytes (o + i) 0 ≡ 255
  -- ---- "more bytes than the span holds is 17 .., and fewer fill its front": where there is a length and it is no less, the fill is done and its bytes
  -- stand at the packet's front
  pub filled_front : {t u : Two} {s : Store} {span : Token} {new : List ℕ} {a : Answered} {n : ℕ}
      → (packet_words E (LengthOf s span) t).0 ≡ plain (length_is n) → length new ≤ n → PacketPromise E (Fill s span new) t u a
      → (a ≡ plain done) × ((i : ℕ) → i < length new → get_or (at s u).bytes (span.offset + i) 0 ≡ get_or new i 0)
  -- ---- "A read hands back the part .., and an empty part on a refusal; asking the length tells that from an empty packet"
  pub read_part : (s : Store) (span : Token) (t : Two) (n : ℕ) → (packet_words E (LengthOf s span) t).0 ≡ plain (length_is n)
      → (packet_words E (Read s span) t).0 ≡ shows (part_of (at s t).bytes span.offset n)
  pub read_refused : (s : Store) (span : Token) (t : Two) (k : ℕ) → (packet_words E (LengthOf s span) t).0 ≡ plain (refused k)
      → (packet_words E (Read s span) t).0 ≡ shows []
  -- ---- "the call is refused as 9, before anything else": the setups, by the sizes that are asked for, and the audit, whose scratch then stays
  pub set_up_nine : (s : Store) (size count : ℕ) (t : Two) → ((set_up_words E s size count t).0 ≡ plain (refused 9))
      ↔ ((length (at s t).bytes < size) ⊎ (length (at (other s) t).bytes < (at (other s) t).words.size))
  pub set_up_both_nine : (size count other-size other-count : ℕ) (t : Two) → ((set_up_both_words E size count other-size other-count t).0 ≡ plain (refused 9))
      ↔ ((length t.on_chip.bytes < size) ⊎ (length t.external.bytes < other-size))
  pub audit_nine : {s : Store} {t : Two} {scratch left : List ℕ} {a : Answered} → PacketAudit E s t scratch left a
      → ((a ≡ plain (refused 9)) ↔ Short t) × (Short t → left ≡ scratch)
  -- ---- CannotBeRead: 5 or 8 where there is a store, and no number but these and 6 where there is none
  pub there_5_or_8 : (k : Kept) (a : Answered) → CannotBeRead k a → k.words.count ≢ 0 → (a ≡ plain (refused 5)) ⊎ (a ≡ plain (refused 8))
  pub cannot_numbers : (k : Kept) (a : Answered) → CannotBeRead k a → (n : ℕ) × OneOf (5 ∷ 8 ∷ 6 ∷ []) n × (a ≡ plain (refused n))
  -- ---- where a run may begin: each store by itself, any that has neither size nor records, and any that stands for a setup and has its bytes
  pub none_bare : (k : Kept) → k.words.count ≡ 0 → k.words.size ≡ 0 → Bare E k
  pub begun_bare : (k : Kept) (size count : ℕ) → Sound E k.words (setup by_class size count) → size ≤ length k.bytes → Bare E k
  pub each_bare : (t : Two) → Bare E t.on_chip → Bare E t.external → AllBare E t

-- ---- the words that go by an answer, where it is one that never comes there: nothing is marked, filled, shown or tried for it, and it is given as it is
pub record AnswersMean : Type 0 where
  pub no_grant_marks_none : (a : Answer) (s : ℕ) (bytes : List ℕ) → ((o r : ℕ) → a ≢ granted o r) → fresh_bytes a s bytes ≡ bytes
  pub no_length_stays : (size o : ℕ) (a : Answer) → ((n : ℕ) → a ≢ length_is n) → inside_size size o a ≡ a
  pub no_length_fills_none : (a : Answer) (o : ℕ) (new bytes : List ℕ) → ((n : ℕ) → a ≢ length_is n) → filled_by a o new bytes ≡ (a, bytes)
  pub no_length_shows_none : (a : Answer) (o : ℕ) (bytes : List ℕ) → ((n : ℕ) → a ≢ length_is n) → shown_by a o bytes ≡ []
  pub no_grant_is_plain : (a : Answer) → ((o r : ℕ) → a ≢ granted o r) → from_external a ≡ plain a
  pub no_refusal_goes_on : (a : Answer) (first beside : Kept) (second : Answer × Kept) → ((o r : ℕ) → a ≢ granted o r) → ((k : ℕ) → a ≢ refused k)
      → after_first a first beside second ≡ (plain a, two first beside)
  pub no_refusal_tries_none : (a : Answer) (ds : List Done) → ((k : ℕ) → a ≢ refused k) → tried_on a ds ≡ []
