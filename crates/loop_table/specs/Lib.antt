pub mod Agendas
pub mod Timers
pub mod Runs
pub mod TokenTables
pub mod Subjects
