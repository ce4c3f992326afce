-- ---- what a test commits may be committed
pub mod Rising
