-- Slid: what moving the unread bytes to the front leaves.
pub mod Slid
