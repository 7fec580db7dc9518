-- How the ledger stands in words, to be read in this order.
-- Layout: the words of a record. Words: the head's words and the lent tables. Steps: what the calls are made of.
-- Gate: the refusals that come before all else. Room: what a call needs before it can look at a word. Setup, Search, Take, HandBack, Questions: each
-- call on words, a plan that reads and decides and a commit that writes. Calls: all of them under one type, and runs.
-- Linked: runs of records joined both ways. Sound: when words stand for a ledger. Reach: which words a call can reach.
-- Claims: all that is claimed of the words. Promise: what a call in code promises. Examples: runs computed.
-- SoundMeans: that Sound asks each of its parts.
-- Guards is for the code: what a plan that goes on has made sure of.
pub mod Layout
pub mod Words
pub mod Steps
pub mod Gate
pub mod Room
pub mod Setup
pub mod Search
pub mod Take
pub mod HandBack
pub mod Questions
pub mod Calls
pub mod Linked
pub mod Sound
pub mod Reach
pub mod Claims
pub mod Promise
pub mod Examples
pub mod SoundMeans
pub mod Guards
