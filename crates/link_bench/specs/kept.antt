-- What values keep of their history, and how the code goes; no reader has to believe it.
pub mod Scenarios
pub mod Written
