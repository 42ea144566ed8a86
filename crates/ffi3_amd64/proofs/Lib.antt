pub mod LongDoubles
pub mod Results
pub mod Walks
