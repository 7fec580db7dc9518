-- Agreeing: a row of the list of runs agrees only with its own letter and numbers. Facts: that, made.
pub mod Agreeing
pub mod Facts
