pub mod Layout
pub mod Headers
pub mod Parts
pub mod Placed
pub mod PlaceContract
pub mod TerminalContract
pub mod SmootherContract
pub mod SumsContract
