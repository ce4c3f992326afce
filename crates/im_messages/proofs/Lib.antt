-- worked values
mod Worked
