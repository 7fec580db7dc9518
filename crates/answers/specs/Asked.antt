-- What a caller's arguments ask for, in the ledger's terms. Assumes nothing.
use Rattle.ledger.specs.Calls.{Request, Token}
use Rattle.small_float.specs.declared.Size.{Size}
use Rattle.answers.specs.declared.Allocation.{Allocation}

abbrev pub request_of : Size → Request
request_of size = record { size = size.0 }

-- a span is named by where it starts and by its record
abbrev pub token_of : Allocation → Token
token_of span = record { offset = span.offset; number = span.metadata.0 }
