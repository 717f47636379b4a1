pub mod Crosses
mod Arriving
mod Boards
mod Crewing
mod Handing
mod Known
mod Retold
mod Steps
mod WorkedRows
