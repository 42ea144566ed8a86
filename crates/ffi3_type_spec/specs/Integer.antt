-- The number that the bytes of an integer make, and back: little-endian, two's complement. (psABI AMD64 3.1.2, AAPCS64 5.1, RISC-V ELF psABI "C/C++ type details")
use Rattle.std.specs.Prelude.{ℕ, suc, ◌-◌, ◌%◌, ◌^◌, Bool, true, false, if◌then◌else◌, ℤ, pos, negsuc, ◌+ℤ◌, List}
use Rattle.std.specs.Int.{Width, w8, w16, w32, w64, w128, to_le_bytes, from_le_bytes, cast_signed, cast_unsigned}
use Rattle.ffi3_type_spec.specs.Tree.{Scalar, u8, s8, u16, s16, u32, s32, u64, s64, u128, s128, float, double, pointer}
use Rattle.ffi3_type_spec.specs.Tree.{x87, binary128}
use Rattle.ffi3_type_spec.specs.Tree.{Tree, void, scalar, left_out, structure, array}

-- the ten integer types
abbrev pub is_integer : Scalar → Bool
is_integer u8 = true
is_integer s8 = true
is_integer u16 = true
is_integer s16 = true
is_integer u32 = true
is_integer s32 = true
is_integer u64 = true
is_integer s64 = true
is_integer u128 = true
is_integer s128 = true
is_integer float = false
is_integer double = false
is_integer pointer = false
is_integer x87 = false
is_integer binary128 = false

abbrev pub is_integer_type : Tree → Bool
is_integer_type void = false
is_integer_type (scalar s) = is_integer s
is_integer_type (left_out k) = false
is_integer_type (structure ts) = false
is_integer_type (array ts n) = false

-- the types whose bytes are a number: the integers and the pointer
abbrev pub is_number : Scalar → Bool
is_number u8 = true
is_number s8 = true
is_number u16 = true
is_number s16 = true
is_number u32 = true
is_number s32 = true
is_number u64 = true
is_number s64 = true
is_number u128 = true
is_number s128 = true
is_number float = false
is_number double = false
is_number pointer = true
is_number x87 = false
is_number binary128 = false

abbrev pub is_number_type : Tree → Bool
is_number_type void = false
is_number_type (scalar s) = is_number s
is_number_type (left_out k) = false
is_number_type (structure ts) = false
is_number_type (array ts n) = false

-- the scalar that a type is
abbrev pub scalar_of : Tree → Scalar
scalar_of void = u8
scalar_of (scalar s) = s
scalar_of (left_out k) = u8
scalar_of (structure ts) = u8
scalar_of (array ts n) = u8

abbrev pub is_signed : Scalar → Bool
is_signed u8 = false
is_signed s8 = true
is_signed u16 = false
is_signed s16 = true
is_signed u32 = false
is_signed s32 = true
is_signed u64 = false
is_signed s64 = true
is_signed u128 = false
is_signed s128 = true
is_signed float = false
is_signed double = false
is_signed pointer = false
is_signed x87 = false
is_signed binary128 = false

-- how many bits the bytes of a scalar have; of x87 and binary128, which are no numbers here, nothing asks it
abbrev pub width_of : Scalar → Width
width_of u8 = w8
width_of s8 = w8
width_of u16 = w16
width_of s16 = w16
width_of u32 = w32
width_of s32 = w32
width_of u64 = w64
width_of s64 = w64
width_of u128 = w128
width_of s128 = w128
width_of float = w32
width_of double = w64
width_of pointer = w64
width_of x87 = w128
width_of binary128 = w128

abbrev pub bit_count : Width → ℕ
bit_count w8 = 8
bit_count w16 = 16
bit_count w32 = 32
bit_count w64 = 64
bit_count w128 = 128

-- the number of an integer or a pointer, read by its sign
abbrev pub number_of : Scalar → List ℕ → ℤ
number_of s bytes =
    if is_signed s
    then cast_signed (width_of s) (from_le_bytes (width_of s) bytes)
    else pos (from_le_bytes (width_of s) bytes)

-- a number modulo two to the number of bits
abbrev pub modulo : ℕ → ℤ → ℕ
modulo bits (pos n) = n % 2 ^ bits
modulo bits (negsuc n) = 2 ^ bits - suc (n % 2 ^ bits)

-- the bytes of a number, modulo two to the type's number of bits
abbrev pub bytes_of_number : Scalar → ℤ → List ℕ
bytes_of_number s z = to_le_bytes (width_of s) (modulo (bit_count (width_of s)) z)

-- the bytes of the sum of two numbers, modulo two to the type's number of bits
abbrev pub sum_of : Scalar → List ℕ → List ℕ → List ℕ
sum_of s a b = bytes_of_number s (number_of s a +ℤ number_of s b)

-- an integer of at most 64 bits or a pointer, extended by its sign to the 64 bits of a register
abbrev pub widened : Scalar → List ℕ → ℕ
widened s bytes = cast_unsigned w64 (number_of s bytes)

-- an integer, extended by its sign to 32 bits where it is narrower, and from there by the upper bit (RISC-V ELF psABI, "Integer Calling Convention")
abbrev pub widened_from_32 : Scalar → List ℕ → ℕ
widened_from_32 s bytes =
    cast_unsigned w64 (cast_signed w32 (modulo 32 (number_of s bytes)))

abbrev pub is_floating : Scalar → Bool
is_floating u8 = false
is_floating s8 = false
is_floating u16 = false
is_floating s16 = false
is_floating u32 = false
is_floating s32 = false
is_floating u64 = false
is_floating s64 = false
is_floating u128 = false
is_floating s128 = false
is_floating float = true
is_floating double = true
is_floating pointer = false
is_floating x87 = false
is_floating binary128 = false

abbrev pub is_floating_type : Tree → Bool
is_floating_type void = false
is_floating_type (scalar s) = is_floating s
is_floating_type (left_out k) = false
is_floating_type (structure ts) = false
is_floating_type (array ts n) = false
