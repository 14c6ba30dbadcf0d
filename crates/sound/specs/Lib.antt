-- The notions of the proofs and the statements that they end in.
pub mod Order
pub mod Embed
pub mod Exact
pub mod Shown
