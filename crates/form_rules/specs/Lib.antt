pub mod Break
pub mod Name
pub mod Scope
pub mod Context
pub mod Rules
pub mod Form
pub mod Samples
pub mod Table
