-- Which format `long double` has by each target's standard, and a signature with that type in its places.
use Rattle.std.specs.Prelude.{Bool, true, false, ◌||◌, [], ◌∷◌, map}
use Rattle.std.specs.List.{list_any}
use Rattle.ffi3_type_spec.specs.declared.Target.{Target}
use Rattle.ffi3_type_spec.specs.declared.Target.TheVariants as target
use Rattle.ffi3_type_spec.specs.Tree.{Tree, void, scalar, left_out, structure, array, Trees, no_trees, tree, struct_of}
use Rattle.ffi3_type_spec.specs.Tree.{array_of, double, x87, binary128, LeftOutKind, long_double, complex, vector}
use Rattle.ffi3_type_spec.specs.Signature.{Signature}
use Rattle.ffi3_format_spec.specs.declared.Format.{Format}
use Rattle.ffi3_format_spec.specs.declared.Format.TheVariants.{Double, X87, Binary128}

-- THE FORMAT OF LONG DOUBLE (System V psABI AMD64 3.1.2, "Fundamental Types": x87's extended format, of 80 bits; Arm AAPCS64, "Arithmetic Types", and RISC-V ELF psABI, "C/C++ Type Sizes and Alignments": of 128 bits, IEEE 754's; Microsoft, "Data Type Ranges", and Apple, "Writing ARM64 code for Apple platforms", "Handle data types and data alignment properly": that of double)
abbrev pub format_of : Target → Format
format_of target.Amd64 = X87
format_of target.Aapcs64 = Binary128
format_of target.Riscv = Binary128
format_of target.Win64 = Double
format_of target.Apple = Double

-- the type that `long double` is
abbrev pub long_double_by : Format → Tree
long_double_by Double = scalar double
long_double_by X87 = scalar x87
long_double_by Binary128 = scalar binary128

-- The type that `long double _Complex` is: its real and its imaginary part, one behind the other (C, "Types": a complex type has the representation and the alignment of an array of two elements of its real type). It is passed as a struct of the two (Arm AAPCS64, "Arithmetic Types"; RISC-V ELF psABI, "Hardware Floating-point Calling Convention"; Microsoft, "C complex math support": `_Lcomplex`; Apple's standard goes by Arm's), but in x87's format it has a class of its own, and so it stays an array here (System V psABI AMD64 3.2.3, "Classification": COMPLEX_X87).
abbrev pub complex_by : Format → Tree
complex_by Double = struct_of (scalar double ∷ scalar double ∷ [])
complex_by X87 = array_of (scalar x87) 2
complex_by Binary128 = struct_of (scalar binary128 ∷ scalar binary128 ∷ [])

-- Of the kinds that signatures tell without a format these two get one. No format tells how a vector is passed.
abbrev pub left_out_by : Format → LeftOutKind → Tree
left_out_by f long_double = long_double_by f
left_out_by f complex = complex_by f
left_out_by f vector = left_out vector

-- A TYPE IN WHICH THEY HAVE A FORMAT: long doubles and complex ones are what they are by it, and all else is as it was
abbrev mutual
  pub resolved : Format → Tree → Tree
  resolved f void = void
  resolved f (scalar s) = scalar s
  resolved f (left_out k) = left_out_by f k
  resolved f (structure ts) = structure (all_resolved f ts)
  resolved f (array ts n) = array (all_resolved f ts) n

  pub all_resolved : Format → Trees → Trees
  all_resolved f no_trees = no_trees
  all_resolved f (tree t ts) = tree (resolved f t) (all_resolved f ts)

-- THE SAME OF A SIGNATURE: its result and each of its arguments
abbrev pub resolved_signature : Format → Signature → Signature
resolved_signature f s = record {
  result_type = resolved f s.result_type;
  arguments = map (resolved f) s.arguments;
  fixed = s.fixed;
}

-- ---- where there is nothing to resolve

-- the kinds that a format is wanted for
abbrev pub kind_wants_format : LeftOutKind → Bool
kind_wants_format long_double = true
kind_wants_format complex = true
kind_wants_format vector = false

-- the type is one of these, or has one in it
abbrev mutual
  pub wants_format : Tree → Bool
  wants_format void = false
  wants_format (scalar s) = false
  wants_format (left_out k) = kind_wants_format k
  wants_format (structure ts) = want_format ts
  wants_format (array ts n) = want_format ts

  pub want_format : Trees → Bool
  want_format no_trees = false
  want_format (tree t ts) = wants_format t || want_format ts

abbrev pub signature_wants_format : Signature → Bool
signature_wants_format s = wants_format s.result_type || list_any wants_format s.arguments
