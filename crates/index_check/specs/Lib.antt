pub mod Question
pub mod Sound
pub mod SoundContract
pub mod LevelContract
pub mod CheckContract
