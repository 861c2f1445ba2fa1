pub mod Askers
pub mod Free
pub mod Numbers
pub mod OnlyOpens
pub mod Played
pub mod Recents
pub mod Stepping
