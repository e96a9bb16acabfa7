-- The bench program's text by its pieces (Texts), and how it begins (Opens).
pub mod Texts
pub mod Opens
