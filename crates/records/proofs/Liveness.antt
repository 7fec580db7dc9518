-- When a record counts as live, by the tests of the code: it is below the count, and its used word is not 0. Assumes nothing.
use Rattle.std.proofs.Common.{◌≡◌, ◌≢◌, ℕ, ◌<◌, ◌≤◌, List, true, false}
use borrow.Author.Tests.{lt-ltb, le-ltb, eq-eqb, ne_eqb}
use Rattle.tables.specs.Layout.{word, used}
use Rattle.tables.specs.HandBack.{is_live}

pub live_if_marked : (nodes : List ℕ) (count r : ℕ) → r < count → word nodes used r ≢ 0 → is_live nodes count r ≡ true
unfolding is_live
live_if_marked nodes count r b m = rw (lt-ltb _ _ b, ne_eqb _ _ m)

pub idle_if_not_marked : (nodes : List ℕ) (count r : ℕ) → r < count → word nodes used r ≡ 0 → is_live nodes count r ≡ false
unfolding is_live
idle_if_not_marked nodes count r b m = rw (lt-ltb _ _ b, eq-eqb _ _ m)

pub idle_beyond : (nodes : List ℕ) (count r : ℕ) → count ≤ r → is_live nodes count r ≡ false
unfolding is_live
idle_beyond nodes count r b = rw (le-ltb _ _ b)
