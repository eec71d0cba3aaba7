pub mod Composing
pub mod Tried
pub mod TriedExpressions
pub mod TriedMerged
pub mod TriedPassed
pub mod TriedValues
pub mod TriedCalls
pub mod TriedNames
