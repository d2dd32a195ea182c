pub mod FeatureBits
pub mod FormulaCases
pub mod SetBits
