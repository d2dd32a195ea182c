pub mod BodySites
pub mod Concluding
pub mod Denials
pub mod Order
pub mod PairParts
pub mod Questions
pub mod Searching
pub mod SiteParts
