pub mod KnownFaults
