-- The move that each Rust move stands for.
use Rattle.ffi3_types.specs.TreeOf.{tree_of}
use Rattle.ffi3_values.specs.ValueOf.{value_of}
use Rattle.ffi3_semantics_spec.specs.Move.{Move as RunMove, call, make, free, print, return}
use Rattle.ffi3_body.specs.declared.Move.{Move}
use Rattle.ffi3_body.specs.declared.Move.TheVariants.{Call, Make, Free, Print, Return}

abbrev pub move_of : Move → RunMove
move_of (Call ptr sig args) = call ptr sig args
move_of (Make func user) = make func user
move_of (Free ptr) = free ptr
move_of (Print ty value) = print (tree_of ty) (value_of value)
move_of (Return value) = return (value_of value)
