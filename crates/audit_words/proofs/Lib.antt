-- Proofs of what specs/ claims of the audit, in the order of the argument.
-- Tests: a chain of tests taken apart. NoRepeats: a run that begins with an absent link meets no record twice.
-- Marks: the pile and its marks. FirstRecord, ChainMet: where the chain begins, and the walk along it. ListsMet: the class lists.
-- BitsMet: the bits. FreeRegions: the lists together are the free regions. YesSound: yes, so sound. SoundYes: sound, so yes.
-- Cleared: the scratch. Unread: what is not read. Claims: all that is claimed. Promise: what the audit promises.
-- For the audit in code, of any edition: Turns, one turn of each loop; Verdicts, its parts joined.
-- Examples: the audit computed.
pub mod Tests
pub mod NoRepeats
pub mod Marks
pub mod FirstRecord
pub mod ChainMet
pub mod ListsMet
pub mod BitsMet
pub mod FreeRegions
pub mod Cleared
pub mod Unread
pub mod YesSound
pub mod SoundYes
pub mod Claims
pub mod Promise
pub mod Turns
pub mod Verdicts
pub mod Examples
