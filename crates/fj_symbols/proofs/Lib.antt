pub mod FeaturePlaces
mod Marks
