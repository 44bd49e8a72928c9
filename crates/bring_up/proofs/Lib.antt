pub mod Raising
pub mod Standings
