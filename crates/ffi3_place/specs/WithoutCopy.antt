-- Where an argument stands while its copy, if it has one, has no place in the frame yet.
use Rattle.ffi3_place_spec.specs.declared.Place.{Place}
use Rattle.ffi3_place_spec.specs.declared.Place.TheVariants.{Direct, ByRef}
use Rattle.ffi3_place_spec.specs.Standard.{Spot, in_pieces, by_reference}

abbrev pub without_copy : Spot → Place
without_copy (in_pieces pieces) = Direct pieces
without_copy (by_reference at) = ByRef at 0
