-- Worked lines, computed.
use Rattle.std.specs.Prelude.{◌≡◌, ℕ, List, [], ◌∷◌, ◌++◌, refl, Some, None, codes}
use Rattle.std.specs.Fmt.{digits}
use Rattle.ffi3_type_spec.specs.declared.Isa.TheVariants.{Amd64, Aarch64, Riscv}
use Rattle.ffi3_type_spec.specs.Tree.{Tree, void, scalar, struct_of, array_of, u8, s8, u16, s16, u32, s32, float, double, pointer}
use Rattle.ffi3_type_spec.specs.Layout.{least_multiple}
use Rattle.ffi3_type_spec.specs.Signature.{Signature, at_result, at_argument}
use Rattle.ffi3_type_spec.specs.Value.{leaf_value, struct_value, no_values, value}
use Rattle.ffi3_place_spec.specs.Event.{Event, enters}
use Rattle.ffi3_place_spec.specs.declared.Loc.{Loc}
use Rattle.ffi3_place_spec.specs.declared.Loc.TheVariants.{G, F, S}
use Rattle.ffi3_place_spec.specs.declared.Ext.TheVariants.{Free}
use Rattle.ffi3_place_spec.specs.declared.Piece.{Piece}
use Rattle.ffi3_place_spec.specs.declared.Place.TheVariants.{Direct, ByRef}
use Rattle.ffi3_place_spec.specs.declared.Res.TheVariants.{Direct as DirectRes, Hidden}
use Rattle.ffi3_text_spec.specs.LayoutLines.{layout_text_of}
use Rattle.ffi3_text_spec.specs.PlaceLines.{argument_text, result_text, vectors_text}
use Rattle.ffi3_text.specs.TraceLines.{enter_text_of, leave_text_of, register_text}

abbrev sig_of : Tree → List Tree → Signature
sig_of r a = record { result_type = r; arguments = a; fixed = None }

abbrev a_line : List ℕ → List ℕ
a_line text = text ++ 10 ∷ []

abbrev piece : Loc → ℕ → ℕ → Piece
piece at off len = record { loc = at; off = off; len = len; ext = Free }

-- ---- layouts

pub padded : layout_text_of 0 (sig_of void (struct_of (scalar u8 ∷ scalar u32 ∷ scalar u16 ∷ []) ∷ [])) (at_argument 0) ≡ a_line (codes "sig 0 arg 0 struct{uint8,uint32,uint16} size 12 align 4 leaves 0:uint8 4:uint32 8:uint16")
unfolding least_multiple digits
padded = refl

pub nested : layout_text_of 0 (sig_of void (struct_of (scalar s8 ∷ struct_of (scalar s16 ∷ scalar double ∷ []) ∷ scalar float ∷ []) ∷ [])) (at_argument 0) ≡ a_line (codes "sig 0 arg 0 struct{sint8,struct{sint16,double},float} size 32 align 8 leaves 0:sint8 8:sint16 16:double 24:float")
unfolding least_multiple digits
nested = refl

pub void_result : layout_text_of 12 (sig_of void []) at_result ≡ a_line (codes "sig 12 ret void")
unfolding least_multiple digits
void_result = refl

-- a scalar has one leaf
pub scalar_result : layout_text_of 0 (sig_of (scalar s32) []) at_result ≡ a_line (codes "sig 0 ret sint32 size 4 align 4 leaves 0:sint32")
unfolding least_multiple digits
scalar_result = refl

-- an array's leaves are its elements, and its count follows its element
pub arrays : layout_text_of 0 (sig_of void (struct_of (array_of (scalar u8) 3 ∷ array_of (scalar u32) 2 ∷ []) ∷ [])) (at_argument 0) ≡ a_line (codes "sig 0 arg 0 struct{uint8[3],uint32[2]} size 12 align 4 leaves 0:uint8 1:uint8 2:uint8 4:uint32 8:uint32")
unfolding least_multiple digits
arrays = refl

-- two arrays of three
pub array_of_arrays : layout_text_of 0 (sig_of (struct_of (array_of (array_of (scalar s8) 3) 2 ∷ [])) []) at_result ≡ a_line (codes "sig 0 ret struct{sint8[3][2]} size 6 align 1 leaves 0:sint8 1:sint8 2:sint8 3:sint8 4:sint8 5:sint8")
unfolding least_multiple digits
array_of_arrays = refl

-- ---- forms that the other standards have

pub by_reference : argument_text Aarch64 (ByRef (G 0) 32) ≡ codes " ref x0 copy 32"
unfolding digits
by_reference = refl

pub by_reference_on_stack : argument_text Riscv (ByRef (S 8 8) 16) ≡ codes " ref stack8 copy 16"
unfolding digits
by_reference_on_stack = refl

pub hidden_in_x8 : result_text Aarch64 (Hidden (G 8) 0) ≡ codes " hidden x8 buffer 0"
unfolding digits
hidden_in_x8 = refl

-- in a register and on the stack
pub half_on_stack : argument_text Riscv (Direct (piece (G 17) 0 8 ∷ piece (S 0 8) 8 8 ∷ [])) ≡ codes " a7:0+8 stack0:8+8"
unfolding digits
half_on_stack = refl

-- the end's padding is not told
pub five_floats : argument_text Riscv (Direct (piece (S 0 8) 0 8 ∷ piece (S 8 8) 8 8 ∷ piece (S 16 8) 16 4 ∷ [])) ≡ codes " stack0:0+20"
unfolding digits
five_floats = refl

pub integer_and_floating : argument_text Riscv (Direct (piece (G 10) 0 4 ∷ piece (F 10) 4 4 ∷ [])) ≡ codes " a0:0+4 fa0:4+4"
unfolding digits
integer_and_floating = refl

pub four_floats : argument_text Aarch64 (Direct (piece (F 0) 0 4 ∷ piece (F 1) 4 4 ∷ piece (F 2) 8 4 ∷ piece (F 3) 12 4 ∷ [])) ≡ codes " v0:0+4 v1:4+4 v2:8+4 v3:12+4"
unfolding digits
four_floats = refl

-- a variadic double on Microsoft x64 stands twice
pub in_both_registers : argument_text Amd64 (Direct (piece (G 2) 0 8 ∷ piece (F 1) 0 8 ∷ [])) ≡ codes " rdx:0+8 xmm1:0+8"
unfolding digits
in_both_registers = refl

pub hidden_in_rcx : result_text Amd64 (Hidden (G 1) 32) ≡ codes " hidden rcx buffer 32"
unfolding digits
hidden_in_rcx = refl

-- ---- long doubles

-- st(0) and st(1): the significand of each, and its sign and exponent
pub two_x87 : result_text Amd64 (DirectRes (piece (F 16) 0 8 ∷ piece (F 17) 8 2 ∷ piece (F 18) 16 8 ∷ piece (F 19) 24 2 ∷ [])) ≡ codes " st0:0+10 st1:16+10"
unfolding digits
two_x87 = refl

-- the halves of v0 and v1
pub two_quads : argument_text Aarch64 (Direct (piece (F 0) 0 8 ∷ piece (F 32) 8 8 ∷ piece (F 1) 16 8 ∷ piece (F 33) 24 8 ∷ [])) ≡ codes " v0:0+16 v1:16+16"
unfolding digits
two_quads = refl

-- an upper half is that of its own register alone
pub lower_halves : argument_text Aarch64 (Direct (piece (F 0) 0 8 ∷ piece (F 1) 8 8 ∷ piece (F 33) 16 8 ∷ [])) ≡ codes " v0:0+8 v1:8+16"
unfolding digits
lower_halves = refl

-- on the stack
pub x87_on_stack : argument_text Amd64 (Direct (piece (S 16 8) 0 8 ∷ piece (S 24 8) 8 8 ∷ [])) ≡ codes " stack16:0+16"
unfolding digits
x87_on_stack = refl

-- ---- what a call tells

-- a standard that tells no number of vector registers
pub no_number : vectors_text Amd64 None 2 ≡ []
no_number = refl

pub number_in_rax : vectors_text Amd64 (Some (G 0)) 2 ≡ codes " rax 2"
unfolding digits
number_in_rax = refl

-- ---- lines of a trace

-- an entry of a closure in the first slot, with a5a5000000000003 in register 3
abbrev entry : Event
entry = record {
  kind = enters;
  closure = 0x10000;
  image = record { general = 0 ∷ 0 ∷ 0 ∷ 0xa5a5000000000003 ∷ 0x1b ∷ []; floating = []; sp = 0x7ffefff8; stack = [] };
}

pub entered : enter_text_of (sig_of (scalar s32) (scalar s32 ∷ scalar pointer ∷ [])) entry (leaf_value (0xd6 ∷ 0xff ∷ 0xff ∷ 0xff ∷ []) ∷ leaf_value (0xef ∷ 0x0b ∷ 0 ∷ 0 ∷ 0 ∷ 0 ∷ 0 ∷ 0 ∷ []) ∷ []) ≡ a_line (codes "enter 0x10000 sp 0x7ffefff8 (-42,0xbef)")
unfolding digits
entered = refl

pub left : leave_text_of (sig_of (scalar s32) []) entry (leaf_value (42 ∷ 0 ∷ 0 ∷ 0 ∷ [])) ≡ a_line (codes "leave sp 0x7ffefff8 42")
unfolding digits
left = refl

-- an array's value stands in brackets
pub left_with_array : leave_text_of (sig_of (struct_of (array_of (scalar s16) 2 ∷ scalar u8 ∷ [])) []) entry (struct_value (value (struct_value (value (leaf_value (1 ∷ 0 ∷ [])) (value (leaf_value (0xfe ∷ 0xff ∷ [])) no_values))) (value (leaf_value (7 ∷ [])) no_values))) ≡ a_line (codes "leave sp 0x7ffefff8 {[1,-2],7}")
unfolding digits
left_with_array = refl

pub a_full_register : register_text entry (G 3) ≡ codes " a5a5000000000003"
unfolding digits
a_full_register = refl

pub a_padded_register : register_text entry (G 4) ≡ codes " 000000000000001b"
unfolding digits
a_padded_register = refl
