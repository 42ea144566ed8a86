-- The names of types in the script language. (libffi manual, "Primitive Types"; the words are the names there without `ffi_type_`)
use Rattle.std.specs.Prelude.{ℕ, List, [], ◌∷◌, Option, Some, None, cond, ◌==◌, ◌++◌, codes, bytes_eq}
use Rattle.ffi3_type_spec.specs.Tree.{Tree, void, scalar, left_out, u8, s8, u16, s16, u32, s32, u64, s64, u128, s128}
use Rattle.ffi3_type_spec.specs.Tree.{float, double, pointer, long_double, complex, vector}

-- each word with its type; a C integer type is that of its size, where an int has 32 bits and a long 64
abbrev pub type_names : List (List ℕ × Tree)
type_names =
    (codes "void", void) ∷ (codes "uint8", scalar u8) ∷ (codes "sint8", scalar s8) ∷ (codes "uint16", scalar u16)
    ∷ (codes "sint16", scalar s16) ∷ (codes "uint32", scalar u32) ∷ (codes "sint32", scalar s32)
    ∷ (codes "uint64", scalar u64) ∷ (codes "sint64", scalar s64) ∷ (codes "float", scalar float)
    ∷ (codes "double", scalar double) ∷ (codes "pointer", scalar pointer) ∷ (codes "uchar", scalar u8)
    ∷ (codes "schar", scalar s8) ∷ (codes "ushort", scalar u16) ∷ (codes "sshort", scalar s16)
    ∷ (codes "uint", scalar u32) ∷ (codes "sint", scalar s32) ∷ (codes "ulong", scalar u64)
    ∷ (codes "slong", scalar s64) ∷ (codes "longdouble", left_out long_double)
    ∷ (codes "complex_float", left_out complex) ∷ (codes "complex_double", left_out complex)
    ∷ (codes "complex_longdouble", left_out complex) ∷ (codes "vector", left_out vector) ∷ []

-- the type that stands beside the word, if the word is in the table
abbrev pub type_beside : List ℕ → List (List ℕ × Tree) → Option Tree
type_beside word [] = None
type_beside word (entry ∷ entries) =
    cond (bytes_eq word entry.0) (Some entry.1) (type_beside word entries)

-- the words that version 1 of the script language doesn't have
abbrev pub wide_names : List (List ℕ × Tree)
wide_names = (codes "uint128", scalar u128) ∷ (codes "sint128", scalar s128) ∷ []

-- the type that a word names in a version of the script language
unfoldable pub type_named : ℕ → List ℕ → Option Tree
type_named version word =
    cond (version == 1) (type_beside word type_names) (type_beside word (wide_names ++ type_names))
