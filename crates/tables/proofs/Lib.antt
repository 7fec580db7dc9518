-- Proofs of what specs/ claims of the words, in the order of the argument.
-- Answers: the rows of specs/Examples, computed.
-- Fields, Written: what a word is after a write, and after each step. Gate, PlanEnds, Guards: what comes before a commit.
-- For the calls in code, of any edition: Commits, each call from its plan; Drops, a merge step by step; Turns, one turn of each loop.
-- Any words at all: Refusals, Kept; Untouched, NotWritten, SetupLeaves: what is not written; Agreeing, Unread: what is not read; ReachMeans; Circular.
-- Linked, Lines: runs of records, and the line in them. Masks, MaskEnds, Bits: the two levels of bits. Spares: the pile.
-- Shelf: class lists, pile and bits together; Insert, Remove, Steps: what the steps make of them.
-- Place: how a free region comes to be. SoundOf: sound words as a shelf and a line, and back.
-- Search; Grant, TakeSound; Merge, Sides, SizeSound, BackSound; Wiped, SetupSound, SetupWrites; ReportSound,
-- FullReportSound: call by call. Questions: every question, all that is said of it.
-- OneLedger: what sound words stand for is one ledger. OverRuns: any call, and runs of calls.
-- Given: rows that speak of every call, size or table. SoundMeans: each part of Sound. Claims: the record. Promise: what a call promises follows from
-- its being the model's.
pub mod Answers
pub mod Fields
pub mod Written
pub mod Gate
pub mod PlanEnds
pub mod Guards
pub mod Commits
pub mod Drops
pub mod Turns
pub mod Refusals
pub mod Kept
pub mod Untouched
pub mod Wiped
pub mod NotWritten
pub mod SetupLeaves
pub mod Agreeing
pub mod Unread
pub mod ReachMeans
pub mod Circular
pub mod Linked
pub mod Lines
pub mod Masks
pub mod MaskEnds
pub mod Bits
pub mod Spares
pub mod Shelf
pub mod Insert
pub mod Remove
pub mod Steps
pub mod Place
pub mod SoundOf
pub mod Search
pub mod Grant
pub mod TakeSound
pub mod Merge
pub mod Sides
pub mod SizeSound
pub mod BackSound
pub mod SetupSound
pub mod SetupWrites
pub mod ReportSound
pub mod FullReportSound
pub mod FillSound
pub mod Questions
pub mod OneLedger
pub mod OverRuns
pub mod Given
pub mod SoundMeans
pub mod Claims
pub mod Promise
