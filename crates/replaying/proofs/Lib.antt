-- Answers: the rows, computed. Stepping: a step, by what stands at the place. AsMeant: a call's promise is what it means. OneReplay: one outcome.
-- SomeReplay: and there is one. Claims: every claim.
pub mod Answers
pub mod Stepping
pub mod AsMeant
pub mod OneReplay
pub mod SomeReplay
pub mod Claims
