-- Parts: a part of a store of bytes, after another part or its own front was written. Steps, Promised, Setups, Named: what the walks of the code go
-- by. Lines: the live regions of a line after a cut or a merge. LiveSpans: the live spans of a ledger after a take or a hand-back. Listed: what a
-- list of packets says of a span. Stood: how one store stands beside the list of its packets. OneStore: what each call on it comes to; Lengths,
-- Fills, HandBacks, Takes: each of them. TwoStores: every call over both. BareSetups: a setup begins bare. RunStands: every run. Told: what is
-- answered after it. Since: one packet along a history. AsFilled: what is read of it. ShortStores, BytesInside: 9, 17 and lengths, on any words.
-- TakeAnswers: what a take's answer says of each store's take. StretchCalls, StretchRuns: a stretch, store by store. StoreTwins: stores that stand
-- for one ledger; CallTwins, SetupTwins, RunTwins: what is told of them is the same. AsNever: demand 3. SinceSetups: demand 2, store by store.
-- Claims: all that is claimed. RunsMean, HistoryMeans, PromiseMeans, AnswersMean: the words of the claims and of the promises, from the other side.
-- OneValue: numbers and answers likewise. AllRows: the rows computed, under a name that comes first, so that a wrong definition is refused there.
pub mod Parts
pub mod Steps
pub mod Promised
pub mod Setups
pub mod Named
pub mod Lines
pub mod LiveSpans
pub mod Listed
pub mod Stood
pub mod OneStore
pub mod Lengths
pub mod Fills
pub mod HandBacks
pub mod Takes
pub mod TwoStores
pub mod BareSetups
pub mod RunStands
pub mod Told
pub mod Since
pub mod AsFilled
pub mod ShortStores
pub mod BytesInside
pub mod TakeAnswers
pub mod StretchCalls
pub mod StretchRuns
pub mod StoreTwins
pub mod CallTwins
pub mod SetupTwins
pub mod RunTwins
pub mod AsNever
pub mod SinceSetups
pub mod Claims
pub mod RunsMean
pub mod HistoryMeans
pub mod PromiseMeans
pub mod AnswersMean
pub mod OneValue
pub mod AllRows
