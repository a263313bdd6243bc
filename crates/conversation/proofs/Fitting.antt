pub mod InWorlds
pub mod Printed
