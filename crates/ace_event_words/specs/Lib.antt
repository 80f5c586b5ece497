pub mod Deeds
pub mod Folding
pub mod KindWords
pub mod Phrases
pub mod Sentences
pub mod SmallWords
