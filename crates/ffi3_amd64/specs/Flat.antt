-- What a walk over the elements of a struct finds, where each is a scalar of at most eight bytes, or an array of such.
use Rattle.std.specs.Prelude.{◌≡◌, ℕ, ◌+◌, ◌*◌, ◌<◌, ◌≤◌, ◌&&◌, ◌||◌, Bool, true, false, max, nat_lt, List, map, Option, Some, None}
use Rattle.std.specs.List.{list_any}
use Rattle.ffi3_type_spec.specs.Tree.{Tree, scalar, trees_of, u8, s8, u16, s16, u32, s32, u64, s64, float, double, pointer}
use Rattle.ffi3_type_spec.specs.Layout.{Leaf, layouts, end_before, align_before, leaves_before, least_multiple, moved, size_of, align_of, leaves_of}
use Rattle.ffi3_amd64_spec.specs.Amd64.{is_integer_leaf_in, is_x87_scalar, is_aggregate, is_complex_x87, is_class_x87}
use Rattle.ffi3_amd64.specs.declared.flat.Run.{Run}
use Rattle.ffi3_amd64.specs.declared.flat.Walk.{Walk}

-- a long double of x87's format
abbrev pub is_x87_leaf : Leaf → Bool
is_x87_leaf l = is_x87_scalar l.kind

-- a byte of what stands from s on lies in eightbyte j
abbrev pub lies_in : ℕ → ℕ → ℕ → Bool
lies_in j s size = nat_lt s (8 * j + 8) && nat_lt (8 * j) (s + size)

-- a type whose leaves are scalars of one kind, one behind another without gaps, wherever it stands
pub record IsRun (r : Run) (t : Tree) : Type 0 where
  pub size : size_of t ≡ r.size
  pub align : align_of t ≡ r.each
  pub integers : (j s : ℕ) → list_any (is_integer_leaf_in j) (map (moved s) (leaves_of t)) ≡ (lies_in j s r.size && r.is_integer)
  pub none_x87 : (s : ℕ) → list_any is_x87_leaf (map (moved s) (leaves_of t)) ≡ false

abbrev pub one_scalar : ℕ → Bool → Run
one_scalar size is_integer = record { each = size; size = size; is_integer = is_integer }

abbrev pub scalar_run : Tree → Option Run
scalar_run (scalar u8) = Some (one_scalar 1 true)
scalar_run (scalar s8) = Some (one_scalar 1 true)
scalar_run (scalar u16) = Some (one_scalar 2 true)
scalar_run (scalar s16) = Some (one_scalar 2 true)
scalar_run (scalar u32) = Some (one_scalar 4 true)
scalar_run (scalar s32) = Some (one_scalar 4 true)
scalar_run (scalar u64) = Some (one_scalar 8 true)
scalar_run (scalar s64) = Some (one_scalar 8 true)
scalar_run (scalar pointer) = Some (one_scalar 8 true)
scalar_run (scalar float) = Some (one_scalar 4 false)
scalar_run (scalar double) = Some (one_scalar 8 false)
scalar_run _ = None

-- one element more
abbrev pub with_run : Walk → Run → Walk
with_run before run = record {
  end = least_multiple run.each before.end + run.size;
  align = max before.align run.each;
  first = before.first || (lies_in 0 (least_multiple run.each before.end) run.size && run.is_integer);
  second = before.second || (lies_in 1 (least_multiple run.each before.end) run.size && run.is_integer);
}

-- of the first n elements
pub record IsWalked (w : Walk) (ts : List Tree) (n : ℕ) : Type 0 where
  pub end : w.end ≡ end_before (layouts (trees_of ts)) n
  pub align : w.align ≡ align_before (layouts (trees_of ts)) n
  pub first : w.first ≡ list_any (is_integer_leaf_in 0) (leaves_before (layouts (trees_of ts)) n)
  pub second : w.second ≡ list_any (is_integer_leaf_in 1) (leaves_before (layouts (trees_of ts)) n)
  pub none_x87 : list_any is_x87_leaf (leaves_before (layouts (trees_of ts)) n) ≡ false

-- of all elements of a struct
pub record IsFlat (w : Walk) (t : Tree) : Type 0 where
  pub size : least_multiple w.align w.end ≡ size_of t
  pub some : 0 < w.align
  pub low : w.align ≤ 16
  pub near : w.end ≤ size_of t
  pub first : w.first ≡ list_any (is_integer_leaf_in 0) (leaves_of t)
  pub second : w.second ≡ list_any (is_integer_leaf_in 1) (leaves_of t)
  pub aggregate : is_aggregate t ≡ true
  pub not_complex : is_complex_x87 t ≡ false
  pub not_x87 : is_class_x87 t ≡ false
