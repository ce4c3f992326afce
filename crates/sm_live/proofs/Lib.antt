pub mod Directions
mod Seen
mod Reservations
mod Worked
