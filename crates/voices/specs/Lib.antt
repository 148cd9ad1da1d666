pub mod Voices
