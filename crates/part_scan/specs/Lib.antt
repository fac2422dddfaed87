pub mod Numbers
pub mod Punctuators
pub mod TemplateParts
pub mod RegularExpressionParts
pub mod Strings
