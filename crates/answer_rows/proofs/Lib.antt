-- Agreeing: an answer found again from its row. Claims: what each row asks, and agrees with.
pub mod Agreeing
pub mod Claims
