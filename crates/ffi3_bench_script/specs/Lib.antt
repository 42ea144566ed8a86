pub mod KindOf
pub mod ShapesOf
