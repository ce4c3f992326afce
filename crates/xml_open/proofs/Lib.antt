-- pieces, one more
pub mod Said
-- names
pub mod Names
-- stacks, the innermost last, as lists, the innermost first
pub mod Stacks
