pub mod Xa
