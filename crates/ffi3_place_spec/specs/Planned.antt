-- A plan from its places, by any standard.
use Rattle.std.specs.Prelude.{ℕ, ◌+◌, List}
use Rattle.ffi3_type_spec.specs.Signature.{Signature}
use Rattle.ffi3_place_spec.specs.declared.Place.{Place}
use Rattle.ffi3_place_spec.specs.declared.Res.{Res}
use Rattle.ffi3_place_spec.specs.declared.Plan.{Plan}
use Rattle.ffi3_place_spec.specs.Standard.{round16, block_bytes}

-- the last copy or buffer ends at `end`, and the return address and the callee's save area take `area` bytes
abbrev pub planned : Signature → List Place → Res → ℕ → ℕ → ℕ → Plan
planned s places res end area vectors = record {
  places = places;
  res = res;
  need = round16 end + area + block_bytes s;
  frame = round16 end;
  block = block_bytes s;
  vectors = vectors;
}
