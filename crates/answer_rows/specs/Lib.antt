-- Said: an answer as a row. Claims: what the rows ask, and agree with.
pub mod Said
pub mod Claims
