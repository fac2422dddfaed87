pub mod Characters
pub mod Escapes
pub mod Decoding
pub mod CodePointEscapes
pub mod DecodingSteps
pub mod InvalidEscapes
