-- What each answer of the code is: the documents' number and figures for each of its cases. Assumes nothing.
use Rattle.std.specs.Prelude.{ℕ, Result, Ok, Err}
use Rattle.ledger.specs.Ledger.{done, length_is, reported, refused}
use Rattle.ledger.specs.Figures.{refusal_of}
use Rattle.small_float.specs.declared.Size.{Size}
use Rattle.answers.specs.declared.StorageReport.{StorageReport}
use Rattle.answers.specs.declared.Refusal.{Refusal}
use Rattle.answers.specs.Refusals.{number_of}
use Rattle.packets.specs.declared.Packet.{Packet}
use Rattle.packets.specs.declared.PacketRefusal.{PacketRefusal}
use Rattle.packets.specs.declared.PacketRefusal.TheVariants as why
use Rattle.packets.specs.Calls.{Answered, packet, shows, plain}

-- the documents' number for each refusal
abbrev pub why_number : PacketRefusal → ℕ
why_number why.StoreTooShort = 9
why_number (why.OfStore refusal) = number_of refusal
why_number why.TooManyBytes = 17

-- the refusal's number, 0 for an answer; a read gives none
abbrev pub refusal_in : Answered → ℕ
refusal_in (packet s o r) = 0
refusal_in (shows bytes) = 0
refusal_in (plain a) = refusal_of a

-- an answer that is no refusal says what it tells, any other the refusal's number
abbrev pub says : {T : Type 0} → (T → Answered) → Result T PacketRefusal → Answered
says told (Ok x) = told x
says told (Err why) = plain (refused (why_number why))

abbrev pub done_says : Result Unit PacketRefusal → Answered
done_says = says (λ _. plain done)

abbrev pub grant_says : Result Packet PacketRefusal → Answered
grant_says = says (λ p. packet p.store p.span.offset p.span.metadata.0)

abbrev pub length_says : Result Size PacketRefusal → Answered
length_says = says (λ size. plain (length_is size.0))

abbrev pub report_says : Result StorageReport PacketRefusal → Answered
report_says = says (λ report. plain (reported report.total_free_space.0 report.largest_free_region.0))

-- an allocator's answer as one of the layer's
abbrev pub from_store : {T : Type 0} → Result T Refusal → Result T PacketRefusal
from_store (Ok x) = Ok x
from_store (Err refusal) = Err (why.OfStore refusal)
