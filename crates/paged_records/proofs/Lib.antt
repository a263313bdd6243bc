pub mod Paging
pub mod Blanked
pub mod ReadPages
pub mod Filled
pub mod Texts
pub mod Replanned
pub mod Printed
mod LoadedPages
