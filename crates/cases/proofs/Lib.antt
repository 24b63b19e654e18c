pub mod Unjudged
pub mod Steps
pub mod Marked
pub mod Cases
pub mod Beginnings
pub mod LedgerCases
pub mod WrongLibraries
pub mod WrongChanges
