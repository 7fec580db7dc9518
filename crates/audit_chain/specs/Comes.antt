-- A part of the walk along the neighbour chain: from one place of it to a later one. Assumes nothing.
use Rattle.std.specs.Prelude.{◌≡◌, List, ℕ, ◌-◌, ◌≤◌}
use Rattle.audit_words.specs.declared.Walk.{Walk}
use Rattle.audit_words.specs.Chain.{walk_from}
use Rattle.audit_words.specs.Bounded.{Bounded}

module _ (nodes marks : List ℕ) (count size : ℕ) where
  -- where the walk that stands at w ends: it goes at most as many regions on as records are left to be met
  abbrev pub end_from : Walk → Walk
  end_from w = walk_from (count - w.records) nodes marks count size w

  -- the walk that stands at start comes to w
  pub record Comes (start w : Walk) : Type 0 where
    -- it is one walk: from w on it ends where it ends from start on
    pub same_end : end_from start ≡ end_from w
    pub no_fewer : start.records ≤ w.records
    pub bounded : Bounded count size w
