-- What a failed read leaves, and what calls of a closure come to.
pub mod Front
pub mod Calls
