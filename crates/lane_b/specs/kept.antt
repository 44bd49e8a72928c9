-- What values keep of their history, and how the code goes; no reader has to believe it.
pub mod Across
pub mod Cells
pub mod Counts
pub mod Gives
pub mod Receivers
pub mod Senders
pub mod Starts
pub mod Ticks
