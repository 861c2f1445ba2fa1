pub mod SpentStatus
