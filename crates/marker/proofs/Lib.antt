-- The laws of the floor `marker`.
pub mod FirstLaws
pub mod MaskLaws
pub mod TestLaws
pub mod StepLaws
pub mod MarkLaws
pub mod RuleLaws
pub mod TableLaws
pub mod UnmarkedLaws
pub mod EncodedLaws
