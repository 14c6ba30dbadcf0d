-- What the reader's answers mean.
pub mod Answers
pub mod Printed
pub mod Reads
