-- Everything in this library.
pub mod LiveCalls
