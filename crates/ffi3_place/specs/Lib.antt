pub mod WithoutCopy
