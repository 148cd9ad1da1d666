pub mod Adpcm
