-- Everything in this library.
pub mod CallContracts
