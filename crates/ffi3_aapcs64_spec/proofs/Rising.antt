-- The pieces of one argument that stand on the stack rise.
use Rattle.std.proofs.Common.{ℕ, ◌+◌, Bool, true, false, cond, List, [], ◌∷◌, ◌++◌}
use Rattle.std.specs.List.{AllByRecursion}
use Rattle.ffi3_type_spec.specs.Tree.{Tree}
use Rattle.ffi3_type_spec.specs.Layout.{Leaf, leaves_of, size_of}
use Rattle.ffi3_place_spec.specs.declared.Loc.TheVariants.{G, F, S}
use Rattle.ffi3_place_spec.specs.declared.Ext.TheVariants.{Free}
use Rattle.ffi3_place_spec.specs.declared.Piece.{Piece}
use Rattle.ffi3_place_spec.specs.declared.Taken.{Taken}
use Rattle.ffi3_place_spec.specs.MachineRegisters.{upper_half}
use Rattle.ffi3_place_spec.specs.Standard.{in_pieces, by_reference, place_at, places_from, copy_end}
use Rattle.ffi3_place_spec.specs.Doublewords.{doublewords, widening, stack_pieces, leaf_piece}
use Rattle.ffi3_place_spec.specs.Sound.{AreRising, PlaceRises}
use Rattle.ffi3_place_spec.proofs.Rising.{register_rises, floating_not_stack, stack_rises, generals_rise}
use Rattle.ffi3_aapcs64_spec.specs.declared.Kind.TheVariants.{Quad}
use Rattle.ffi3_aapcs64_spec.proofs.Covered.{MemberBy}
use Rattle.ffi3_aapcs64_spec.specs.Aapcs64.{is_of, in_vectors, is_copied, passed, member_pieces, general_pieces, register_pieces, register_spot, stack_spot, register_start, stack_start, in_registers, spot_after, spots_after, taken_with}

member_rises : (v : ℕ) (l : Leaf) (others : List Piece) (quad : Bool) → AreRising others → AreRising (MemberBy quad v l ++ others)
member_rises v l others true h =
    let upper : Piece = record { loc = upper_half v; off = l.at + 8; len = 8; ext = Free } in
    (register_rises (record { loc = F v; off = l.at; len = 8; ext = Free }) (floating_not_stack v) (upper ∷ others), (register_rises upper (floating_not_stack (32 + v)) others, h))
member_rises v l others false h = (register_rises (leaf_piece (F v) Free l) (floating_not_stack v) others, h)

members_rise : (v : ℕ) (ls : List Leaf) → AreRising (member_pieces v ls)
members_rise v [] = tt
members_rise v (l ∷ ls) = member_rises v l (member_pieces (v + 1) ls) (is_of Quad l.kind) (members_rise (v + 1) ls)

registers_rise_if : (first : ℕ) (t : Tree) (b : Bool) → AreRising (cond b (member_pieces first (leaves_of t)) (general_pieces first t))
registers_rise_if first t true = members_rise first (leaves_of t)
registers_rise_if first t false = generals_rise first (size_of t) (widening t) 0 (doublewords t)

pub register_spot_rises : (start : ℕ → Tree → ℕ) (end first : ℕ) (t : Tree) (copied : Bool) → PlaceRises (place_at start end t (cond copied (by_reference (G first)) (in_pieces (register_pieces first t))))
register_spot_rises start end first t true = tt
register_spot_rises start end first t false = registers_rise_if first t (in_vectors t)

pub stack_spot_rises : (start : ℕ → Tree → ℕ) (end at : ℕ) (t : Tree) (copied : Bool) → PlaceRises (place_at start end t (cond copied (by_reference (S at 8)) (in_pieces (stack_pieces at t))))
stack_spot_rises start end at t true = tt
stack_spot_rises start end at t false = stack_rises at t

spot_rises_if : (start : ℕ → Tree → ℕ) (end first at : ℕ) (t : Tree) (fits : Bool) → PlaceRises (place_at start end t (cond fits (register_spot first t) (stack_spot at t)))
spot_rises_if start end first at t true = register_spot_rises start end first t (is_copied t)
spot_rises_if start end first at t false = stack_spot_rises start end at t (is_copied t)

pub arguments_rise : (start : ℕ → Tree → ℕ) (end : ℕ) (before : Taken) (ts : List Tree) → AllByRecursion PlaceRises (places_from start end ts (spots_after before ts))
arguments_rise start end before [] = tt
arguments_rise start end before (t ∷ ts) =
    (spot_rises_if start end (register_start before t) (stack_start before.stack (passed t)) t (in_registers before t), arguments_rise start (copy_end start end t (spot_after before t)) (taken_with before t) ts)
