-- The definitions that the contracts cite.
pub mod Eval
pub mod Variables
pub mod Filled
pub mod Does
pub mod First
pub mod Texts
pub mod BaseLaw
pub mod Prefix
