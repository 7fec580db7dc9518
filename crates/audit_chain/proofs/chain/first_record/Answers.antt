-- No record below i starts the chain. Assumes nothing.
use mathlib.Core.Path.{sym, ◌∙◌}
use Prim.Native.Nat.{◌-◌}
use native.Mathlib.Nat.{sub-zero}
use Rattle.tables.specs.Calls.{edition32}
use Rattle.audit_words.proofs.Turns.{first_turn, first_stop, first_end}
use native.Mathlib.Omega.{arith}
use Rattle.audit_chain.proofs.chain.first_record.Goals as goal

pub loop-i-init : goal.loop-i-init
loop-i-init c = (omega arith, rw sub-zero)

pub starts_chain-requires : goal.starts_chain-requires
starts_chain-requires c = omega arith

pub returns-then-starts_chain : goal.returns-then-starts_chain
returns-then-starts_chain c =
    let found = sym c.starts_chain.ensures ∙ c.if-starts_chain.true in
    sym (c.loop-i.invariant.1 ∙ first_stop edition32 _ _ _ _ (omega arith) found)

pub loop-i-preserved : goal.loop-i-preserved
loop-i-preserved c =
    let not_found = sym c.starts_chain.ensures ∙ c.if-starts_chain.false in
    (omega arith, c.loop-i.invariant.1 ∙ first_turn edition32 _ _ _ _ (omega arith) not_found)

pub returns : goal.returns
returns c = sym (c.loop-i.invariant.1 ∙ first_end edition32 _ _ _ _ (omega arith))
