pub mod Compare
pub mod Sign
