-- By the answer that came. Assumes nothing.
use Rattle.std.specs.Prelude.{Result}
use Rattle.answers.specs.declared.Allocation.{Allocation}
use Rattle.answers.specs.declared.Refusal.{Refusal}
use Rattle.answers.specs.Refusals.{number_of}
use mathlib.Core.Path.{sym, ap, ◌∙◌}
use Rattle.answers.specs.Answers.{take_says}
use Rattle.packets.specs.OneStore.{fresh_bytes}
use Rattle.packets.proofs.Steps.{fresh_granted, fresh_refused}
use Rattle.packet_store.proofs.mark_grant.Goals as goal

pub mark-requires : goal.mark-requires
mark-requires c =
    c.requires c.in-Ok.span.offset c.in-Ok.span.metadata.0 (ap take_says c.in-Ok.is)

pub returns-in-Ok : goal.returns-in-Ok
returns-in-Ok c =
    c.mark.ensures
    ∙ fresh_granted c.in-Ok.span.offset c.in-Ok.span.metadata.0 c.args.size.0 c.args.bytes.now
    ∙ ap (λ (a : Result Allocation Refusal). fresh_bytes (take_says a) c.args.size.0 c.args.bytes.now) (sym c.in-Ok.is)

pub returns-in-Err : goal.returns-in-Err
returns-in-Err c =
    fresh_refused (number_of c.in-Err.field-0) c.args.size.0 c.args.bytes.now
    ∙ ap (λ (a : Result Allocation Refusal). fresh_bytes (take_says a) c.args.size.0 c.args.bytes.now) (sym c.in-Err.is)
