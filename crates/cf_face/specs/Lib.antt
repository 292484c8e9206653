pub mod Line
pub mod Words
pub mod Exit
pub mod Report
pub mod SetReport
pub mod Print
