mod Fronts
mod Runs
mod WorkedRows
mod OneTrace
