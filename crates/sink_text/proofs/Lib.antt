pub mod AppendedText
pub mod WrittenText
