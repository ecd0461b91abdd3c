pub mod Braces
pub mod Sound
pub mod Only
pub mod ReadLaws
pub mod Printed
pub mod GameTokens
pub mod Shallow
