pub mod AskedPages
