-- What is asked of a question's answer allows the model's and no other. Assumes nothing.
use Rattle.ledger.specs.Calls.{Ask}
use Rattle.tables.specs.Calls.{edition32}
use Rattle.tables.proofs.Promise.{promise}
use Rattle.asking.specs.Answers.{AskedMeans}

pub asked_means : AskedMeans
asked_means = record { asked_exactly = λ a q w. (λ p. p.exact, λ e. promise edition32 (Ask q) w e) }
