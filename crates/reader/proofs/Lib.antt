pub mod Refused
pub mod LetterLaws
pub mod Progress
pub mod FormsLaws
pub mod LinesLaws
