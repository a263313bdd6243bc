pub mod RowFaults
pub mod LaidRows
pub mod Said
pub mod LaidTables
