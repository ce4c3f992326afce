pub mod Affine
pub mod Dials
pub mod FewDials
pub mod Numbering
pub mod Stand
pub mod StandDrawn
