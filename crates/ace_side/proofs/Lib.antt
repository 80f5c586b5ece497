pub mod HexDigits
pub mod Pieces
pub mod OwnParts
pub mod TextLines
pub mod BadLines
pub mod SameLines
pub mod OneReading
