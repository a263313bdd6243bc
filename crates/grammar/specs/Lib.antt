pub mod Reader
pub mod Printer
pub mod Grammar
pub mod Standing
