-- What the allocator means, to be read in this order.
-- Ledger: regions and pile; what an engine is, and document 01's, the class stacks; setup, take, hand back, the questions.
-- Fill: how full a store is. Calls: one type of calls, and runs of them. Figures: the number and the figures of each answer.
-- WellFormed: when a ledger is in order.
-- Spans, History, Stretch: the words in which the claims speak. Laws: what is asked of an engine. Claims: all that is claimed of the ledger.
-- Meanings, FillMeans: what the words of the claims say, and the fill, told from the other side. RunToFollow: document 01's run to follow, and further rows.
pub mod Ledger
pub mod Fill
pub mod Calls
pub mod Figures
pub mod WellFormed
pub mod Spans
pub mod History
pub mod Stretch
pub mod Laws
pub mod Claims
pub mod Meanings
pub mod RunToFollow
pub mod FillMeans
