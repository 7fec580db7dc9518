-- What the audit by value promises of the head that was made. Assumes nothing.
use Rattle.host_by_value.proofs.Audited.{audit_moved}
use Rattle.host_by_value.proofs.questions.ds_by_value_audit.Goals as goal

pub returns : goal.returns
returns c =
    record {
      given = _;
      promised = audit_moved (c.of_arrays-head.ensures _ _) c.audit.ensures;
      told = c.number.ensures;
    }
