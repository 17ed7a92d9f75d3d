pub mod Facts
pub mod Translations
pub mod Answers
pub mod Runs
pub mod Told
pub mod Pictures
