pub mod AnswerLemmas
pub mod KindCode
pub mod UnitNumber
pub mod WholeLemmas
