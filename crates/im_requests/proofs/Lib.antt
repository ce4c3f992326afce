pub mod PageQueries
mod Worked
