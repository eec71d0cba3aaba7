pub mod Cells
pub mod Once
pub mod Sound
pub mod Refining
pub mod Loading
pub mod Rooted
pub mod UsedImports
pub mod Headline
mod RenotedRows
mod RenotedUnused
mod RenotedChoice
mod RenotedParts
mod RenotedSides
mod RenotedKnown
mod RenotedIf
mod RenotedIdle
mod RenotedTry
mod RenotedValue
mod RenotedImports
mod RenotedPassed
mod RenotedSites
mod RenotedNames
pub mod Renoted
