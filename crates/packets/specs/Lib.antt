-- Stores: two stores, each with its words and its bytes. OneStore: what becomes of one of them. Calls: the calls over both. Answers: what the code's
-- answers say. Promise: what a call in code promises. Runs: runs of the promises. Shelf: which packets are out, and what is in them, by the history
-- alone. Stretch: demand 3's stretch of packet calls. Claims: what holds of every run. HistoryMeans: its words, from the other side. PromiseMeans:
-- the promises' words, likewise, on any words and bytes. OneValue: a refusal is known by its number, and an answer of the code by what it says. Rows:
-- runs with their answers. ByNumber: stores and packets by numbers.
pub mod Stores
pub mod OneStore
pub mod Calls
pub mod Answers
pub mod Promise
pub mod Runs
pub mod Shelf
pub mod Stretch
pub mod Claims
pub mod HistoryMeans
pub mod PromiseMeans
pub mod OneValue
pub mod Rows
pub mod ByNumber
