-- The shape of every contract of a function for programs outside of Rattle: what they get is an answer that the call promises, put into plain
-- numbers. Assumes nothing.
use Rattle.std.specs.Prelude.{◌≡◌}

-- r tells, flattened so, an answer that is promised. What is promised of an answer has all that the call leaves in it
pub record Tells {A R : Type 0} (flat : A → R) (Promised : A → Type 0) (r : R) : Type 0 where
  pub given : A
  pub promised : Promised given
  pub told : r ≡ flat given
