-- What the checker's functions know, and what their answers mean.
pub mod Laid
pub mod Meaning
