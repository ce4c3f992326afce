-- law: what a function that reads answers, in the grammar's words
pub mod Answers
-- law: what is read of what was written
pub mod AsRead
-- law: what an archived message is sent in
pub mod Archived
