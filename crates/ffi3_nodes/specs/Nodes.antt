-- Types and signatures as data: nodes in preorder. A node is a kind and a count; a struct's count is how many elements follow it, an array's how many it has of the one type that follows, and another's is 0. (libffi manual, "Types": `ffi_type`. The kinds' numbers are this library's.)
use Rattle.std.specs.Prelude.{◌≡◌, ℕ, List, [], ◌∷◌, ◌++◌, length, Option, Some, slice_get}
use Rattle.ffi3_type_spec.specs.Tree.{Tree, void, scalar, left_out, struct_of, array_of, u8, s8, u16, s16, u32, s32, u64}
use Rattle.ffi3_type_spec.specs.Tree.{s64, u128, s128, float, double, pointer, long_double, complex, vector}
use Rattle.ffi3_type_spec.specs.Signature.{Signature}
use Rattle.ffi3_nodes.specs.declared.Node.{Node}
use Rattle.ffi3_nodes.specs.declared.TheConstants.{STRUCT, ARRAY}

abbrev pub node : ℕ → ℕ → Node
node kind count = record { kind = kind; count = count }

-- A complex number is passed as a struct of two, its real and its imaginary part. (System V psABI AMD64 3.2.3, "Classification": "as if they are implemented as struct complexT { T real; T imag; }"; Arm AAPCS64, "Arithmetic types": "Layout is struct {float re; float im;}"; RISC-V ELF psABI, "Hardware Floating-point Calling Convention": "as though it were a struct containing two floating-point reals"; Microsoft x64 has no complex type, and its C library's are structs of two, "C complex math support": `_Fcomplex`, `_Dcomplex`)
abbrev pub pair : Tree → Tree
pair part = struct_of (part ∷ part ∷ [])

-- the types that are one node, by its kind
abbrev pub leaves : List Tree
leaves =
    scalar u8 ∷ scalar s8 ∷ scalar u16 ∷ scalar s16 ∷ scalar u32 ∷ scalar s32 ∷ scalar u64 ∷ scalar s64 ∷ scalar u128
    ∷ scalar s128 ∷ scalar float ∷ scalar double ∷ scalar pointer ∷ void ∷ pair (scalar float) ∷ pair (scalar double)
    ∷ left_out long_double ∷ left_out complex ∷ left_out vector ∷ []

mutual
  -- THE NODES OF A TYPE
  pub data IsWritten : Tree → List Node → Type 0 where
    leaf : (k : ℕ) (t : Tree) → slice_get leaves k ≡ Some t → IsWritten t (node k 0 ∷ [])
    structure : (ts : List Tree) (ns : List Node) → AreWritten ts ns
        → IsWritten (struct_of ts) (node STRUCT (length ts) ∷ ns)
    array : (t : Tree) (n : ℕ) (ns : List Node) → IsWritten t ns → IsWritten (array_of t n) (node ARRAY n ∷ ns)

  -- and of types one after another
  pub data AreWritten : List Tree → List Node → Type 0 where
    none : AreWritten [] []
    one_more : (t : Tree) (ts : List Tree) (ns ms all : List Node) → IsWritten t ns → AreWritten ts ms → all ≡ ns ++ ms
        → AreWritten (t ∷ ts) all

-- THE NODES OF A SIGNATURE: those of the result, and then those of the arguments
pub record IsSignatureOf (ns : List Node) (fixed : Option ℕ) (s : Signature) : Type 0 where
  pub written : AreWritten (s.result_type ∷ s.arguments) ns
  pub fixed_is : s.fixed ≡ fixed
