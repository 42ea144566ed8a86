-- Which computed values are well typed: sums and differences of integers, casts also to and from pointers.
use Rattle.std.specs.Prelude.{◌≡◌, true, false, [], ◌∷◌, refl}
use Rattle.ffi3_type_spec.specs.Tree.{scalar, u64, double, pointer}
use Rattle.ffi3_script_spec.specs.Script.{Expression, constant, user_data, sum, difference, cast}
use Rattle.ffi3_script_spec.specs.Typed.{Kinds, has_type}

abbrev eight_bytes : Expression
eight_bytes = constant (1 ∷ 0 ∷ 0 ∷ 0 ∷ 0 ∷ 0 ∷ 0 ∷ 0 ∷ [])

module _ (k : Kinds) where
  sum_of_integers : has_type k (scalar u64) (sum u64 eight_bytes eight_bytes) ≡ true
  sum_of_integers = refl

  sum_of_pointers : has_type k (scalar pointer) (sum pointer eight_bytes user_data) ≡ false
  sum_of_pointers = refl

  difference_of_pointers : has_type k (scalar pointer) (difference pointer user_data eight_bytes) ≡ false
  difference_of_pointers = refl

  sum_of_doubles : has_type k (scalar double) (sum double eight_bytes eight_bytes) ≡ false
  sum_of_doubles = refl

  sum_by_casts : has_type k (scalar pointer) (cast u64 pointer (sum u64 (cast pointer u64 user_data) eight_bytes)) ≡ true
  sum_by_casts = refl
