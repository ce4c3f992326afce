pub use Rattle.mam_pages.specs.PageOf
-- law: the entries of a page
pub mod Pages
