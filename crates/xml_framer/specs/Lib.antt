-- machine: a function from state and byte to state and items
pub mod Limits
pub mod States
pub mod Expanded
pub mod TextSteps
pub mod MarkupSteps
pub mod TagSteps
pub mod Machine
pub mod Readings
-- views: the state that a declared framer stands for, and steps of many bytes at once
pub mod StateCodes
pub mod FramerView
pub mod ManyBytes
