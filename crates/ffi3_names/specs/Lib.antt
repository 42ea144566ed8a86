pub mod NamesOf
