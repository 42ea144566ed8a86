-- The pieces of one argument that stand on the stack rise.
use Rattle.std.proofs.Common.{ℕ, ◌+◌, Bool, true, false, cond, List, [], ◌∷◌}
use Rattle.std.specs.Prelude.{Option}
use Rattle.std.specs.List.{AllByRecursion}
use Rattle.ffi3_type_spec.specs.Tree.{Tree}
use Rattle.ffi3_place_spec.specs.declared.Taken.{Taken}
use Rattle.ffi3_place_spec.specs.Standard.{place_at, places_from, copy_end, in_pieces}
use Rattle.ffi3_place_spec.specs.Sound.{PlaceRises}
use Rattle.ffi3_aapcs64_spec.specs.Aapcs64.{is_copied, register_spot, stack_spot as rounded_spot}
use Rattle.ffi3_aapcs64_spec.proofs.Rising.{register_spot_rises, stack_spot_rises}
use Rattle.ffi3_apple_spec.specs.Apple.{is_named, is_packed, packed_pieces, stack_start, stack_spot, register_start, in_registers, spot_after, spots_after, taken_with}
use Rattle.ffi3_apple_spec.proofs.Packed.{packed_rise}

on_stack_rises : (start : ℕ → Tree → ℕ) (end at : ℕ) (t : Tree) (packed : Bool) → PlaceRises (place_at start end t (cond packed (in_pieces (packed_pieces at t)) (rounded_spot at t)))
on_stack_rises start end at t true = packed_rise at t
on_stack_rises start end at t false = stack_spot_rises start end at t (is_copied t)

spot_rises_if : (start : ℕ → Tree → ℕ) (end first at : ℕ) (named : Bool) (t : Tree) (fits : Bool) → PlaceRises (place_at start end t (cond fits (register_spot first t) (stack_spot named at t)))
spot_rises_if start end first at named t true = register_spot_rises start end first t (is_copied t)
spot_rises_if start end first at named t false = on_stack_rises start end at t (is_packed named t)

pub arguments_rise : (start : ℕ → Tree → ℕ) (end : ℕ) (fixed : Option ℕ) (before : Taken) (i : ℕ) (ts : List Tree) → AllByRecursion PlaceRises (places_from start end ts (spots_after fixed before i ts))
arguments_rise start end fixed before i [] = tt
arguments_rise start end fixed before i (t ∷ ts) =
    let named = is_named fixed i in
    (spot_rises_if start end (register_start before t) (stack_start named before.stack t) named t (in_registers named before t), arguments_rise start (copy_end start end t (spot_after named before t)) fixed (taken_with named before t) (i + 1) ts)
