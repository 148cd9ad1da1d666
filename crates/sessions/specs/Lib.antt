pub mod Fill
pub mod Program
