pub mod Escaping
pub mod Items
pub mod Pieces
