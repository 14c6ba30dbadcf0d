-- Document 01, definition by definition: what a reader must believe. Each file stands under the paper's own phrases.
pub mod Truth
pub mod Finite
pub mod Store
pub mod Shape
pub mod Fold
pub mod Step
pub mod Format
pub mod File
pub mod Claim
pub mod Verdict
pub mod Safe
pub mod Text
pub mod Examples
pub mod Files
pub mod Vectors
