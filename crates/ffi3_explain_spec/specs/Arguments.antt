-- Which arguments an image at an entry has by the standard alone, whoever called: what it leaves free is not judged, and a copy stands wherever its address points. (System V psABI AMD64 3.2.3; Arm AAPCS64, "Parameter Passing"; RISC-V ELF psABI, "Integer Calling Convention" and "Hardware Floating-point Calling Convention"; Microsoft, "x64 calling convention"; Apple, "Writing ARM64 code for Apple platforms". Where a caller has its copies, and what it leaves in the rest of a place, is its own affair by all five, but for narrow integers and floats on RISC-V, and by Apple's standard for integers narrower than 32 bits in registers)
use Rattle.std.specs.Prelude.{ℕ, suc, ◌+◌, ◌-◌, Bool, ◌&&◌, nat_le, cond, max, List, [], ◌∷◌, take}
use Rattle.std.specs.Prelude.{drop, length, Option, Some, None}
use Rattle.std.specs.List.{flat_map}
use Rattle.ffi3_type_spec.specs.Tree.{Tree}
use Rattle.ffi3_type_spec.specs.Layout.{size_of}
use Rattle.ffi3_type_spec.specs.Signature.{Signature}
use Rattle.ffi3_type_spec.specs.Value.{ValueTree, value_in}
use Rattle.ffi3_place_spec.specs.declared.Loc.{Loc}
use Rattle.ffi3_place_spec.specs.declared.Loc.TheVariants.{G, F, S}
use Rattle.ffi3_place_spec.specs.declared.Place.{Place}
use Rattle.ffi3_place_spec.specs.declared.Place.TheVariants.{Direct, ByRef}
use Rattle.ffi3_place_spec.specs.Image.{Image, word_at}
use Rattle.ffi3_place_spec.specs.Standard.{Standard, plan_of}
use Rattle.ffi3_place_spec.specs.Locs.{place_locs}
use Rattle.ffi3_explain_spec.specs.declared.Outside.{Outside}
use Rattle.ffi3_explain_spec.specs.Explain.{value_in_pieces}

-- ---- what an address points to

-- so many bytes from an address on are among the stack's bytes
abbrev pub is_in_image : Image → ℕ → ℕ → Bool
is_in_image m address size =
    nat_le m.sp address && nat_le (address + size) (m.sp + length m.stack)

-- where they begin among these
abbrev pub offset_in : Image → ℕ → ℕ → Option ℕ
offset_in m address size = cond (is_in_image m address size) (Some (address - m.sp)) None

-- the value of the bytes from an address on
abbrev pub value_at_address : Image → ℕ → Tree → ValueTree
value_at_address m address t = value_in t (take (size_of t) (drop (address - m.sp) m.stack))

-- ---- the arguments

abbrev pub value_by_standard : Image → ℕ → Tree → Place → ValueTree
value_by_standard m base t (Direct pieces) = value_in_pieces m base t pieces
value_by_standard m base t (ByRef at copy) = value_at_address m (word_at m base at) t

abbrev pub values_by_standard : Image → ℕ → List Tree → List Place → List ValueTree
values_by_standard m base (t ∷ ts) (p ∷ ps) =
    value_by_standard m base t p ∷ values_by_standard m base ts ps
values_by_standard m base _ _ = []

-- argument i, where its address points outside the image
abbrev pub outside_of : Image → ℕ → ℕ → Tree → Place → Option Outside
outside_of m base i t (Direct pieces) = None
outside_of m base i t (ByRef at copy) =
    cond (is_in_image m (word_at m base at) (size_of t)) None
    (Some (record { argument = i; address = word_at m base at }))

abbrev pub or_later : Option Outside → Option Outside → Option Outside
or_later (Some o) later = Some o
or_later None later = later

-- the first of the arguments from number i on whose address points there
abbrev pub first_outside : Image → ℕ → ℕ → List Tree → List Place → Option Outside
first_outside m base i (t ∷ ts) (p ∷ ps) =
    or_later (outside_of m base i t p) (first_outside m base (suc i) ts ps)
first_outside m base i _ _ = None

pub data Arguments : Type 0 where
  are_values : List ValueTree → Arguments
  points_outside : Outside → Arguments

abbrev pub arguments_by : List ValueTree → Option Outside → Arguments
arguments_by vs None = are_values vs
arguments_by vs (Some o) = points_outside o

-- WHICH ARGUMENTS THE IMAGE HAS BY THE STANDARD ALONE: the values whose bytes stand at the places, or the first address that points outside the image
abbrev pub held_by_standard : Standard → Signature → Image → Arguments
held_by_standard std s m =
    arguments_by
    (values_by_standard m std.link s.arguments (plan_of std s).places)
    (first_outside m std.link 0 s.arguments (plan_of std s).places)

-- ---- how much of the stack they need

-- where the highest of some places on the stack ends, and 0 where all are registers
abbrev pub stack_end : List Loc → ℕ
stack_end [] = 0
stack_end (G r ∷ ls) = stack_end ls
stack_end (F r ∷ ls) = stack_end ls
stack_end (S n w ∷ ls) = max (n + w) (stack_end ls)

-- the bytes from sp on that have the return address and the places of all arguments, without copies
abbrev pub least_stack : Standard → Signature → ℕ
least_stack std s = std.link + stack_end (flat_map place_locs (plan_of std s).places)
