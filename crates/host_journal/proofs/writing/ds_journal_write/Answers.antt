-- By what the numbers name. Assumes nothing.
use mathlib.Core.Path.{refl, sym, ◌∙◌}
use Rattle.host_journal.specs.Written.{written, no_call}
use Rattle.host_journal.proofs.KnownKinds.{writes_so}
use Rattle.host_journal.proofs.writing.ds_journal_write.Goals as goal

pub returns-in-Some : goal.returns-in-Some
returns-in-Some c =
    let named-so = sym c.in-Some.is ∙ c.call_of.ensures in
    record { given = _; promised = writes_so named-so (written c.write.ensures); told = c.flat.ensures }

pub returns-in-None : goal.returns-in-None
returns-in-None c =
    let named-so = sym c.in-None.is ∙ c.call_of.ensures in
    record { given = _; promised = writes_so named-so (no_call refl); told = refl }
