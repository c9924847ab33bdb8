pub mod RecordLaws
pub mod DecodeLaws
pub mod AnswerBounds
pub mod ReadingLaws
pub mod RollsBalanced
