pub mod KeepLaws
pub mod WayLaws
pub mod WalkLaws
pub mod NotedLaws
pub mod OneWay
pub mod SurveyLaws
pub mod MarkLaws
pub mod CheckLaws
