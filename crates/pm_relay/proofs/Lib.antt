mod Learnt
mod Small
mod Gathering
pub mod MadeUnder
