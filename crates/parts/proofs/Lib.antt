-- Laws: a part that is lent, written and put back. Meanings: what the store with a part written holds, byte by byte.
pub mod Laws
pub mod Meanings
