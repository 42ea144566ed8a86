-- A prepared call interface: a target, whose calls go by its standard, and a signature that can be placed.
use Rattle.std.specs.Prelude.{◌≡◌, ℕ, ⊤, List, Option}
use Rattle.ffi3_type_spec.specs.declared.Target.{Target}
use Rattle.ffi3_type_spec.specs.declared.Target.TheVariants.{Amd64 as ForAmd64, Aapcs64 as ForAapcs64, Riscv as ForRiscv, Win64 as ForWin64, Apple as ForApple}
use Rattle.ffi3_type_spec.specs.Layout.{size_of}
use Rattle.ffi3_type_spec.specs.Signature.{Signature, SignatureIsPlaced}
use Rattle.ffi3_format_spec.specs.Format.{format_of}
use Rattle.ffi3_place_spec.specs.Standard.{Standard, frame_of}
use Rattle.ffi3_explain_spec.specs.Standards.{standard_of}
use Rattle.ffi3_nodes.specs.declared.Node.{Node}
use Rattle.ffi3_nodes.specs.Read.{IsCallableWithout, IsOfNone, IsRefusedFor, IsRefusedWithout, IsSignatureFor}
use Rattle.ffi3_nodes.specs.Read.{IsUnplaceable}
use Rattle.ffi3_transfer.specs.Packed.{packed_size}
use Rattle.ffi3_prepared.specs.declared.CallSizes.{CallSizes}
use Rattle.ffi3_prepared.specs.declared.Prepared.{Prepared}
use Rattle.ffi3_prepared.specs.declared.Prepared.TheVariants.{Amd64, Aapcs64, Riscv, Win64, Apple}
use Rattle.ffi3_prepared.specs.declared.Unprepared.{Unprepared}
use Rattle.ffi3_prepared.specs.declared.Unprepared.TheVariants.{Nodes, NoMemory}

abbrev pub target_in : Prepared → Target
target_in (Amd64 s) = ForAmd64
target_in (Aapcs64 s) = ForAapcs64
target_in (Riscv s) = ForRiscv
target_in (Win64 s) = ForWin64
target_in (Apple s) = ForApple

abbrev pub standard_in : Prepared → Standard
standard_in p = standard_of (target_in p)

abbrev pub signature_in : Prepared → Signature
signature_in (Amd64 s) = s
signature_in (Aapcs64 s) = s
signature_in (Riscv s) = s
signature_in (Win64 s) = s
signature_in (Apple s) = s

-- THE INTERFACE of a target and of the one signature that these nodes tell, where a long double has the format that the target's standard gives it
pub record IsPrepared (to : Target) (ns : List Node) (fixed : Option ℕ) (p : Prepared) : Type 0 where
  pub to_is : target_in p ≡ to
  pub signature : IsSignatureFor (format_of to) ns fixed (signature_in p)
  pub can_be : SignatureIsPlaced (signature_in p)
  pub only : (other : Signature) → IsSignatureFor (format_of to) ns fixed other → other ≡ signature_in p
  -- where the nodes tell no long double it is the signature that has them, and it can be called
  pub callable : IsCallableWithout ns fixed (signature_in p)

-- OR WHY THERE IS NONE. Memory alone is free.
abbrev pub IsUnprepared : Target → List Node → Option ℕ → Unprepared → Type 0
IsUnprepared to ns fixed (Nodes r) = IsRefusedFor (format_of to) ns fixed r
IsUnprepared to ns fixed NoMemory = ⊤

-- Nodes that are refused, but where they are too deep, are those of no signature.
abbrev pub IsUnpreparedOfNone : List Node → Unprepared → Type 0
IsUnpreparedOfNone ns (Nodes r) = IsOfNone ns r
IsUnpreparedOfNone ns NoMemory = ⊤

-- Nodes that are refused are those of no signature that can be placed.
abbrev pub IsUnpreparedUnplaceable : Target → List Node → Option ℕ → Unprepared → Type 0
IsUnpreparedUnplaceable to ns fixed (Nodes r) = IsUnplaceable (format_of to) ns fixed r
IsUnpreparedUnplaceable to ns fixed NoMemory = ⊤

-- Where they tell no long double, they are refused as those of no signature that can be called.
abbrev pub IsUnpreparedWithout : List Node → Option ℕ → Unprepared → Type 0
IsUnpreparedWithout ns fixed (Nodes r) = IsRefusedWithout ns fixed r
IsUnpreparedWithout ns fixed NoMemory = ⊤

-- THE SIZES of a call, in bytes: of its values as they are packed, of its result, of the return address on the stack, of the frame
abbrev pub sizes_of : Standard → Signature → CallSizes
sizes_of std s = record {
  values = packed_size s.arguments;
  result = size_of s.result_type;
  link = std.link;
  frame = frame_of std s;
}
