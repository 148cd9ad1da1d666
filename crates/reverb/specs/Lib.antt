pub mod Reverb
