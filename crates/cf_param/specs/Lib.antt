pub mod Pattern
pub mod Offered
pub mod Binding
pub mod Fault
pub mod Tested
