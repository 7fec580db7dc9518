-- The scratch that a count needs is the one that the audit needs. Assumes nothing.
use native.Mathlib.Omega.{arith}
use Rattle.tables.specs.Words.{Edition}
use Rattle.offset_allocator.specs.Scratch.{ScratchFacts}

pub scratch_facts : (E : Edition) → ScratchFacts E
scratch_facts E = record {
  scratch_exactly = λ w scratch l N. (
    λ r. (r.tables_room, omega (arith, N.scratch_needed, r.scratch_room)),
    λ p. record { tables_room = p.0; scratch_room = omega (arith, N.scratch_needed, p.1) },
  );
}
