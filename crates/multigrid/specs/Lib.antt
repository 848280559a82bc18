pub mod New
pub mod Stores
pub mod UpdatingCall
pub mod SolvingCall
pub mod CountingCall
pub mod Contract
