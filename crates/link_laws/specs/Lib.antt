pub mod Premises
pub mod LaneLaws
pub mod Checked
pub mod Laws
pub mod LawsB
