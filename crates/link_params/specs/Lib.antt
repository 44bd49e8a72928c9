pub mod Laws
pub mod Numbers
pub mod TimingLaws
pub mod Links
pub mod Sizes
pub mod Config
pub mod Lanes
pub mod Runs
