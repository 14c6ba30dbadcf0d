-- Laws of the reader's answers.
pub mod Steps
pub mod Next
pub mod Handed
pub mod Unique
