pub mod ClosingLaws
pub mod CallOffLaws
pub mod BallLaws
