-- The pieces of one argument that stand on the stack rise.
use Rattle.std.proofs.Common.{◌≡◌, ℕ, Bool, true, false, cond, List, [], ◌∷◌, ◌++◌, length}
use Rattle.std.specs.List.{AllByRecursion}
use Rattle.ffi3_type_spec.specs.Tree.{Tree}
use Rattle.ffi3_type_spec.specs.Layout.{size_of}
use Rattle.ffi3_place_spec.specs.declared.Loc.TheVariants.{S}
use Rattle.ffi3_place_spec.specs.declared.Taken.{Taken}
use Rattle.ffi3_place_spec.specs.Standard.{places_from, doubleword}
use Rattle.ffi3_place_spec.specs.Doublewords.{widening, stack_pieces}
use Rattle.ffi3_place_spec.specs.Sound.{AreRising, PlaceRises}
use Rattle.ffi3_place_spec.proofs.Rising.{register_rises, general_not_stack, floating_not_stack, stack_rises}
use Rattle.ffi3_amd64_spec.specs.declared.Class.{Class}
use Rattle.ffi3_amd64_spec.specs.declared.Class.TheVariants.{Integer, Sse}
use Rattle.ffi3_amd64_spec.specs.Amd64.{amd64, classes, general_argument, register_of, register_pieces, in_registers, stack_start, taken_with, spots_after}

not_stack : (general : ℕ → ℕ) (g f : ℕ) (earlier : List Class) (c : Class) (at w : ℕ) → register_of general g f earlier c ≡ S at w → ⊥
not_stack general g f earlier Integer at w e = general_not_stack _ at w e
not_stack general g f earlier Sse at w e = floating_not_stack _ at w e

registers_rise : (general : ℕ → ℕ) (g f : ℕ) (t : Tree) (earlier cs : List Class) → AreRising (register_pieces general g f t earlier cs)
registers_rise general g f t earlier [] = tt
registers_rise general g f t earlier (c ∷ cs) =
    (register_rises (doubleword (register_of general g f earlier c) (length earlier) (size_of t) (widening t)) (not_stack general g f earlier c) _, registers_rise general g f t (earlier ++ c ∷ []) cs)

rising_if : (a : Taken) (t : Tree) (b : Bool) → AreRising (cond b (register_pieces general_argument a.general a.vector t [] (classes t)) (stack_pieces (stack_start a.stack t) t))
rising_if a t true = registers_rise general_argument a.general a.vector t [] (classes t)
rising_if a t false = stack_rises (stack_start a.stack t) t

pub arguments_rise : (end : ℕ) (before : Taken) (ts : List Tree) → AllByRecursion PlaceRises (places_from amd64.copy_start end ts (spots_after before ts))
arguments_rise end before [] = tt
arguments_rise end before (t ∷ ts) =
    (rising_if before t (in_registers before t), arguments_rise end (taken_with before t) ts)
