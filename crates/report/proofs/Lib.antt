-- Laws of the printed text.
pub mod Texts
pub mod Accepted
