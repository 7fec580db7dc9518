-- What every call promises, in four parts: one record for all of them, and one for setup, which takes no head. Assumes nothing.
use Rattle.std.specs.Prelude.{◌≡◌, ℕ, ◌+◌, ◌^◌, ◌≤◌, ◌<◌}
use Rattle.ledger.specs.Ledger.{Ledger, Answer, granted, done, refused, setup, by_class, Stacks}
use Rattle.ledger.specs.Calls.{Request, Call, Take, answer}
use Rattle.tables.specs.Words.{Words, Edition}
use Rattle.tables.specs.Setup.{Lent, zeros, setup_words}
use Rattle.tables.specs.Calls.{answer_words}
use Rattle.tables.specs.Sound.{Sound}

-- the call c on the words w answers a and leaves the words v
pub record Promise (E : Edition) (c : Call) (w v : Words) (a : Answer) : Type 0 where
  -- answer and every word are the model's, for all words, sound or not
  pub exact : (a, v) ≡ answer_words E c w
  -- on tables that stand for a ledger, the answer is the ledger's and the tables stand for the ledger's next
  pub ledger : (l : Ledger Stacks) → Sound E w l
      → (a ≡ (answer by_class w.size w.count c l).0) × Sound E v (answer by_class w.size w.count c l).1
  -- a refusal leaves every word as it came
  pub kept : (k : ℕ) → a ≡ refused k → v ≡ w
  -- a grant lies inside the store, on any tables
  pub inside : (asked : Request) (o r : ℕ) → c ≡ Take asked → a ≡ granted o r → o + asked.size ≤ w.size

-- setup with this size and count, lent these arrays and tables, answers a and leaves the words v: the same parts, but that no grant is made
pub record SetupPromise (E : Edition) (size count : ℕ) (lent : Lent) (v : Words) (a : Answer) : Type 0 where
  pub exact : (a, v) ≡ setup_words E size count lent
  -- the size is a 32-bit number, as its type says
  pub size_fits : size < 2 ^ 32
  -- accepted, whatever the tables held, they stand for the ledger's setup
  pub ledger : a ≡ done → Sound E v (setup by_class size count)
  -- refused, all four lent tables are as they came, and the scalars are zeros
  pub kept : (k : ℕ) → a ≡ refused k → v ≡ zeros lent

-- ---- the same, from the other side: what is promised is one outcome, the model's, and it can always be promised
pub record PromiseMeans (E : Edition) : Type 0 where
  pub outcome : {c : Call} {w v : Words} {a : Answer} → Promise E c w v a → (a ≡ (answer_words E c w).0) × (v ≡ (answer_words E c w).1)
  pub every_call : (c : Call) (w : Words) → Promise E c w (answer_words E c w).1 (answer_words E c w).0
  pub setup_outcome : {size count : ℕ} {lent : Lent} {v : Words} {a : Answer} → SetupPromise E size count lent v a
      → (a ≡ (setup_words E size count lent).0) × (v ≡ (setup_words E size count lent).1) × (size < 2 ^ 32)
  pub every_setup : (size count : ℕ) (lent : Lent) → size < 2 ^ 32
      → SetupPromise E size count lent (setup_words E size count lent).1 (setup_words E size count lent).0
