mod Worked
mod WorkedExchange
