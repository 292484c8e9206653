pub mod Outputs
pub mod ExportsStay
pub mod Views
