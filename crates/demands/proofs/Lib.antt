-- Twins: words that answer alike for ever. RunMeans: what a run holds, from the other side. Demands: the demands, by citation.
pub mod Twins
pub mod RunMeans
pub mod Demands
