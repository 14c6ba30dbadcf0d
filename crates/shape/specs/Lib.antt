-- What the engine's values mean, and the results of a step one by one.
pub mod Meaning
pub mod Slots
pub mod Keys
pub mod Listed
pub mod Records
pub mod Writing
