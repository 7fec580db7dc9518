-- Answers: the rows, computed. RefusalNumbers: each number says what was refused. Numbers: bytes make numbers, and numbers bytes. KnownKinds: a
-- record of a known kind. Stores: stores in a row are one. Places: what stands at a place, test by test. Outcomes: what comes of writing a record.
-- ReadBack: what was written is read. WasWritten: what is read was written. Journals: whole ones. Windows: a part is enough. Claims: every claim.
pub mod Answers
pub mod RefusalNumbers
pub mod Numbers
pub mod KnownKinds
pub mod Stores
pub mod Places
pub mod Outcomes
pub mod ReadBack
pub mod WasWritten
pub mod Journals
pub mod Windows
pub mod Claims
