mod Worked
mod WorkedTexts
pub mod Digits
pub mod FewDigits
pub mod Cuts
pub mod Parts
pub mod Answered
pub mod Numbered
pub mod Utf8
pub mod Marks
pub mod Walks
pub mod PlacedColumns
pub mod FirstPlace
pub mod RowValues
pub mod PlainRows
pub mod ByteByByte
pub mod SmallNumbers
pub mod FitEvents
pub mod Holds
pub mod Times
pub mod Pieces
pub mod Points
pub mod PlainDecimals
