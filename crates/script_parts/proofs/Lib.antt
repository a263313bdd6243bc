mod Drawing
mod Splitting
