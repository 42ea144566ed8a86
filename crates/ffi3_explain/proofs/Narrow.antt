-- A narrow integer is a number of at most eight bytes, and what extends it.
use Rattle.std.proofs.Common.{◌≡◌, ℕ, ◌≤◌, true, refl, arith}
use Rattle.ffi3_type_spec.specs.Tree.{Tree, scalar, u8, s8, u16, s16, u32, s32, u64, s64}
use Rattle.ffi3_type_spec.specs.Layout.{size_of}
use Rattle.ffi3_type_spec.specs.Integer.{is_number_type, scalar_of, widened, widened_from_32}
use Rattle.ffi3_type_spec.specs.Value.{ValueTree, leaf_value, bytes_of, fits}
use Rattle.ffi3_place_spec.specs.declared.Ext.TheVariants.{Widen, Riscv}
use Rattle.ffi3_place_spec.specs.Sound.{is_narrow_integer}
use Rattle.ffi3_explain_spec.specs.Explain.{extended}

pub narrow_number : (t : Tree) → is_narrow_integer t ≡ true → (is_number_type t ≡ true) × (size_of t ≤ 8)
narrow_number (scalar u8) e = (refl, omega arith)
narrow_number (scalar s8) e = (refl, omega arith)
narrow_number (scalar u16) e = (refl, omega arith)
narrow_number (scalar s16) e = (refl, omega arith)
narrow_number (scalar u32) e = (refl, omega arith)
narrow_number (scalar s32) e = (refl, omega arith)
narrow_number (scalar u64) e = (refl, omega arith)
narrow_number (scalar s64) e = (refl, omega arith)
narrow_number _ e = cc

pub widened_is : (t : Tree) (v : ValueTree) (word r : ℕ) → is_narrow_integer t ≡ true → fits t v ≡ true → r ≡ widened (scalar_of t) (bytes_of v) → r ≡ extended Widen t v word
widened_is (scalar s) (leaf_value b) word r e f is = is
widened_is _ _ word r e f is = cc

pub widened_from_32_is : (t : Tree) (v : ValueTree) (word r : ℕ) → is_narrow_integer t ≡ true → fits t v ≡ true → r ≡ widened_from_32 (scalar_of t) (bytes_of v) → r ≡ extended Riscv t v word
widened_from_32_is (scalar s) (leaf_value b) word r e f is = is
widened_from_32_is _ _ word r e f is = cc
