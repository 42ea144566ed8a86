mod Glue
mod Gather
mod Empty
