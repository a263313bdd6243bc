pub mod Root
