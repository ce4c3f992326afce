-- ---- what each event keeps
-- numbers of connections that are open and framed, and moments at which sessions were parked
pub mod Framed
-- moments at which entries were archived
pub mod Stamped
-- archives and their accounts
pub mod Owned
-- one session on a connection
pub mod Alone
-- all of it, along events
pub mod Stands
-- ---- the law of the restart
pub mod Gone
