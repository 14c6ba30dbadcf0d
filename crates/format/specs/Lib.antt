-- What a format in code means.
pub mod Meaning
