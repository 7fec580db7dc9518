-- What the take below promises, and its bytes marked. Assumes nothing.
use mathlib.Core.Path.{refl}
use Rattle.packets.proofs.Steps.{took}
use Rattle.tables.specs.Calls.{edition32}
use Rattle.answers.specs.Asked.{request_of}
use native.Mathlib.Omega.{arith}
use Rattle.packet_store.proofs.take.Goals as goal

pub mark_grant-requires : goal.mark_grant-requires
mark_grant-requires c =
    λ o r e. omega (arith, c.allocate-taken.ensures.inside (request_of c.args.size) o r refl e, c.requires)

pub returns : goal.returns
returns c =
    took edition32 (request_of c.args.size) _ _ _ c.args.bytes.now _ c.allocate-taken.ensures c.mark_grant.ensures
