-- By what the crates below say of their answers. Assumes nothing.
use Rattle.small_float.proofs.Coincide.{one_answer}
use Rattle.small_float.specs.Smallest.{SmallestStore}
use Rattle.tables.specs.Words.{Edition}
use Rattle.audit_words.specs.Audit.{audit_words}
use Rattle.audit_words.specs.Promise.{AuditPromise}
use Rattle.starting.specs.Lengths.{LengthsFor}
use Rattle.starting.proofs.LongEnough.{length_facts}
use Rattle.host_values.proofs.OneResult.{by_model, one_told}
use Rattle.host_spans.specs.Classes.{smallest_told, lengths_told}
use Rattle.host_spans.specs.OneResult.{OneTold}

pub one_of_spans : (E : Edition) → OneTold E
one_of_spans E = record {
  of_lengths = λ count. one_told lengths_told (LengthsFor E count) ((length_facts E).one_result count);
  of_smallest = λ object. one_told smallest_told (SmallestStore object) (one_answer object);
  of_audit = λ w scratch. by_model (AuditPromise E w scratch) (audit_words E w scratch) (λ v a p. p.exact);
}
