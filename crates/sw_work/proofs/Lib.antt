pub mod Calling
pub mod Coherence
pub mod Keeping
pub mod Others
pub mod Working
