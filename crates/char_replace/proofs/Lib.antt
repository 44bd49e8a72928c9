pub mod FramePlaces
pub mod Replacing
pub mod RestoringSteps
pub mod RoundTrip
