pub mod Lines
pub mod Jobs
pub mod Causes
pub mod Lawful
pub mod KeptBench
pub mod kept
