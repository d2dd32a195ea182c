pub mod Falsified
pub mod Lists
pub mod Standings
pub mod Trails
pub mod Visits
pub mod Walks
pub mod Watched
