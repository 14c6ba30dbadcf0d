-- The worked examples, computed, and the small laws that code cites.
pub mod Bools
pub mod Search
pub mod Lists
pub mod Masks
pub mod Firsts
pub mod Tables
pub mod Fields
pub mod Records
pub mod Accepted
pub mod Verdicts
pub mod Worked
