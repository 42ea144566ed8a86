-- The sizes that C is told of an interface.
use Rattle.std.specs.Prelude.{◌≡◌, ℕ, replicate, Option, Some, None}
use Rattle.ffi3_prepared.specs.declared.Prepared.{Prepared}
use Rattle.ffi3_prepared.specs.Prepared.{signature_in, sizes_of, standard_in}
use Rattle.ffi3_moves.specs.Moves.{returned_at}
use Rattle.ffi3_handle.specs.declared.kept.Kept.{Kept}
use Rattle.ffi3_capi.specs.declared.codes.TheConstants.{DONE, NOT_PREPARED}
use Rattle.ffi3_interface.specs.declared.numbers.TheConstants.{NOWHERE}
use Rattle.ffi3_interface.specs.declared.numbers.InterfaceSizes.{InterfaceSizes}
use Rattle.ffi3_interface.specs.Keeping.{interface_in}

abbrev pub place_or_none : Option ℕ → ℕ
place_or_none (Some at) = at
place_or_none None = NOWHERE

-- THE SIZES of an interface
abbrev pub sizes_in : Prepared → InterfaceSizes
sizes_in p = record {
  values = (sizes_of (standard_in p) (signature_in p)).values;
  result = (sizes_of (standard_in p) (signature_in p)).result;
  link = (sizes_of (standard_in p) (signature_in p)).link;
  frame = (sizes_of (standard_in p) (signature_in p)).frame;
  returned = place_or_none (returned_at (standard_in p) (signature_in p));
  reserved = replicate 3 0;
}

abbrev pub no_sizes : InterfaceSizes
no_sizes = record { values = 0; result = 0; link = 0; frame = 0; returned = 0; reserved = replicate 3 0 }

-- WHAT ffi3_sizes ANSWERS, and what it writes
pub data TellsSizes (it : Option Kept) : ℕ → InterfaceSizes → Type 0 where
  told : (k : Kept) → it ≡ Some k → TellsSizes it DONE (sizes_in (interface_in k))
  nothing : it ≡ None → TellsSizes it NOT_PREPARED no_sizes
