-- Asked: a row as a call. Forms: what is asked of each form. Full: the rows of a full report.
pub mod Asked
pub mod Forms
pub mod Full
