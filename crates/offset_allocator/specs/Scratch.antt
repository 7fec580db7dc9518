-- The lengths that a count of records needs, and the audit's scratch. Assumes nothing.
use Rattle.std.specs.Prelude.{◌↔◌, List, ℕ, ◌≤◌, length}
use Rattle.tables.specs.Words.{Words, Edition}
use Rattle.tables.specs.Room.{Room}
use Rattle.starting.specs.declared.lengths.Lengths.{Lengths}
use Rattle.starting.specs.Lengths.{Needed}
use Rattle.audit_words.specs.Claims.{AuditRoom}

-- what starting's Needed says of the scratch, which starting does not know; proofs/Scratch.antt makes it
pub record ScratchFacts (E : Edition) : Type 0 where
  -- where the tables have room, the audit has room exactly where the scratch is not shorter than this
  pub scratch_exactly : (w : Words) (scratch : List ℕ) (l : Lengths) → Needed w.count l
      → AuditRoom E w scratch ↔ (Room E w.count (length w.nodes) (length w.pile) × (l.scratch ≤ length scratch))
