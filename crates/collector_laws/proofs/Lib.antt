pub mod Firsts
pub mod Jobs
pub mod Lists
pub mod Rounds
pub mod Texts
