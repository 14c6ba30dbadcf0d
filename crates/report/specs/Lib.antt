-- The answer in words.
pub mod Text
