pub mod Gives
pub mod Words
pub mod Nest
pub mod Piece
pub mod Lexer
pub mod LexerLaws
