-- The laws of AF codes and lists.
pub mod AfCodes
pub mod AfDifferent
pub mod AfLaws
pub mod AfLists
pub mod AfTests
pub mod FrequencyLaws
