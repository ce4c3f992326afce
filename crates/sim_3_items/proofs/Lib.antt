pub mod TextsTold
pub mod ItemsUp
pub mod ItemsDown
pub mod PagesDown
pub mod FullAddresses
pub mod SaidTexts
