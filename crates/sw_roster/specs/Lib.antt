pub mod Beats
pub mod Members
pub mod Playing
pub mod Texts
