-- What a journal means: from no store at all, the ledger that its calls define. Assumes nothing.
use mathlib.Core.List.{List, [], ◌∷◌}
use Rattle.std.specs.Prelude.{ℕ, zero, suc}
use Rattle.ledger.specs.Ledger.{Ledger, Answer, done, refused, setup, by_class, Stacks}
use Rattle.ledger.specs.Calls as ledger
use Rattle.tables.specs.Words.{Edition}
use Rattle.tables.specs.Gate.{setup_gate}
use Rattle.calls.specs.declared.Call.{Call}
use Rattle.calls.specs.declared.Call.TheVariants.{Take, HandBack, SetUp, Reset}

-- what stands after some of its calls: no store, or a store of this size and this count of records, with its ledger
pub data Standing : Type 0 where
  no_store : Standing
  store : (size count : ℕ) → Ledger Stacks → Standing

-- "calls before any setup, or after a refused one, get 6"; on a store they are the ledger's
unfoldable pub asked : ledger.Call → Standing → Answer × Standing
unfolding ledger.answer
asked c no_store = (refused 6, no_store)
asked c (store size count l) =
    ((ledger.answer by_class size count c l).0, store size count (ledger.answer by_class size count c l).1)

-- a setup, by the number that it is refused with, 0 where it is accepted: a new ledger begins, or none stands. What stood before is gone either way
unfoldable pub begun : (refusal size count : ℕ) → Standing → Answer × Standing
unfolding setup
begun zero size count s = (done, store size count (setup by_class size count))
begun (suc k) size count s = (refused (suc k), no_store)

-- with tables of these lengths, which a setup is refused by as 2
module _ (E : Edition) (nodes pile : ℕ) where
  -- the call's answer, and what stands after it
  unfoldable pub meant : Call → Standing → Answer × Standing
  unfolding asked begun setup_gate
  meant (Take size) s = asked (ledger.takes size.0) s
  meant (HandBack span) s = asked (ledger.gives_back span.offset span.metadata.0) s
  meant (SetUp size count) s = begun (setup_gate E size.0 count nodes pile) size.0 count s
  meant Reset s = asked ledger.Reset s

  -- all the answers of some calls, and what stands after the last
  unfoldable pub answers_of : List Call → Standing → List Answer
  unfolding meant
  answers_of [] s = []
  answers_of (c ∷ cs) s = (meant c s).0 ∷ answers_of cs (meant c s).1

  unfoldable pub standing_after : List Call → Standing → Standing
  unfolding meant
  standing_after [] s = s
  standing_after (c ∷ cs) s = standing_after cs (meant c s).1
