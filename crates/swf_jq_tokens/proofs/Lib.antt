pub mod Choices
pub mod Keywords
pub mod Decimals
pub mod Pieces
pub mod TokenSteps
pub mod Lexing
pub mod LexingNumbers
pub mod LexingTexts
