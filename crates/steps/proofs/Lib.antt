-- A law of the records.
mod Squares
