-- A walk over the elements of a struct, each a scalar of at most eight bytes, or an array of such.
use Rattle.std.proofs.Common.{◌≡◌, ℕ, zero, suc, ◌+◌, ◌*◌, ◌<◌, ◌&&◌, ◌||◌, not, inl, inr, Bool, true, false, ltb, List, [], ◌∷◌, map, length, Some, refl, ap, sym, ◌∙◌, subst, arith, add-one, add-zero}
use Rattle.std.specs.List.{list_any}
use Rattle.std.proofs.Math.Bool.{or-false}
use Rattle.std.proofs.lemmas.Bool.{cases_lt, ltb-true, lt-ltb}
use Rattle.std.proofs.lemmas.List.{map-append}
use Rattle.std.proofs.lemmas.List.Folds.{list_any-append}
use Rattle.ffi3_type_spec.specs.Tree.{Tree, scalar, array, Scalar, u8, s8, u16, s16, u32, s32, u64, s64, float, double, pointer, struct_of, trees_of, tree_at}
use Rattle.ffi3_type_spec.specs.Integer.{is_floating}
use Rattle.ffi3_type_spec.specs.Layout.{Layout, Leaf, layouts, element, start_of, leaves_before, leaves_of, repeated, moved, least_multiple, scalar_room, scalar_size}
use Rattle.ffi3_type_spec.proofs.Layouts.{layout_here, length-layouts, start-turn, end_before-turn, align_before-turn, size_at_end, align_before-positive, align_before-bounded, aligns_bounded}
use Rattle.ffi3_type_spec.proofs.Values.{end_within}
use Rattle.ffi3_type_spec.proofs.Arrays.{moved_twice}
use Rattle.ffi3_amd64_spec.specs.Amd64.{is_integer_leaf_in, is_x87_scalar, is_one_x87}
use Rattle.ffi3_amd64.specs.declared.flat.Run.{Run}
use Rattle.ffi3_amd64.specs.declared.flat.Walk.{Walk}
use Rattle.ffi3_amd64.specs.Flat.{IsRun, IsWalked, IsFlat, is_x87_leaf, lies_in, one_scalar, scalar_run, with_run}

-- ---- a scalar

one_is_run : (k : Scalar) (size : ℕ) (b : Bool) → scalar_room k ≡ size → scalar_size k ≡ size → not (is_floating k) ≡ b → is_x87_scalar k ≡ false → IsRun (one_scalar size b) (scalar k)
one_is_run k size b room sized integer other = record {
  size = room;
  align = room;
  integers = λ j s. or-false _ ∙ rw (add-zero, sized, integer) refl;
  none_x87 = λ s. or-false _ ∙ other;
}

some_is : (r s : Run) → Some r ≡ Some s → r ≡ s
some_is r s e = cc

run_is : (k : Scalar) (size : ℕ) (b : Bool) (r : Run) → Some (one_scalar size b) ≡ Some r → IsRun (one_scalar size b) (scalar k) → IsRun r (scalar k)
run_is k size b r e is = subst (λ x. IsRun x (scalar k)) (some_is (one_scalar size b) r e) is

pub scalar_is_run : (t : Tree) (r : Run) → scalar_run t ≡ Some r → IsRun r t
scalar_is_run (scalar u8) r e = run_is u8 1 true r e (one_is_run u8 1 true refl refl refl refl)
scalar_is_run (scalar s8) r e = run_is s8 1 true r e (one_is_run s8 1 true refl refl refl refl)
scalar_is_run (scalar u16) r e = run_is u16 2 true r e (one_is_run u16 2 true refl refl refl refl)
scalar_is_run (scalar s16) r e = run_is s16 2 true r e (one_is_run s16 2 true refl refl refl refl)
scalar_is_run (scalar u32) r e = run_is u32 4 true r e (one_is_run u32 4 true refl refl refl refl)
scalar_is_run (scalar s32) r e = run_is s32 4 true r e (one_is_run s32 4 true refl refl refl refl)
scalar_is_run (scalar u64) r e = run_is u64 8 true r e (one_is_run u64 8 true refl refl refl refl)
scalar_is_run (scalar s64) r e = run_is s64 8 true r e (one_is_run s64 8 true refl refl refl refl)
scalar_is_run (scalar pointer) r e = run_is pointer 8 true r e (one_is_run pointer 8 true refl refl refl refl)
scalar_is_run (scalar float) r e = run_is float 4 false r e (one_is_run float 4 false refl refl refl refl)
scalar_is_run (scalar double) r e = run_is double 8 false r e (one_is_run double 8 false refl refl refl refl)
scalar_is_run _ r e = cc

-- ---- an array

-- what stands in front of an end, and what goes on there
either : (a before d after b : Bool) → (d ≡ true → a ≡ true) → (before ≡ true → after ≡ true) → (before ≡ false → d ≡ true) → (((a && before) && b) || ((d && after) && b)) ≡ ((a && after) && b)
either true true d true true h1 h2 h3 = refl
either true true true true false h1 h2 h3 = refl
either true true false true false h1 h2 h3 = refl
either false true true true b h1 h2 h3 = let no : false ≡ true = h1 refl in cc
either false true false true b h1 h2 h3 = refl
either a true d false b h1 h2 h3 = let no : false ≡ true = h2 refl in cc
either true false true after b h1 h2 h3 = refl
either false false true after b h1 h2 h3 = let no : false ≡ true = h1 refl in cc
either a false false after b h1 h2 h3 = let no : false ≡ true = h3 refl in cc

goes_on : (j s x size : ℕ) (b : Bool) → ((lies_in j s x && b) || (lies_in j (s + x) size && b)) ≡ (lies_in j s (x + size) && b)
goes_on j s x size b =
    let earlier : ltb (s + x) (8 * j + 8) ≡ true → ltb s (8 * j + 8) ≡ true = λ e. lt-ltb s (8 * j + 8) (omega (arith, ltb-true (s + x) (8 * j + 8) e)) in
    let later : ltb (8 * j) (s + x) ≡ true → ltb (8 * j) (s + (x + size)) ≡ true = λ e. lt-ltb (8 * j) (s + (x + size)) (omega (arith, ltb-true (8 * j) (s + x) e)) in
    let there : ltb (8 * j) (s + x) ≡ false → ltb (s + x) (8 * j + 8) ≡ true = λ e. elim (cases_lt (8 * j) (s + x)) [
      | inl below ↦ let no : false ≡ true = sym e ∙ lt-ltb (8 * j) (s + x) below in cc
      | inr above ↦ lt-ltb (s + x) (8 * j + 8) (omega (arith, above))
    ] in
    let whole : s + x + size ≡ s + (x + size) = omega arith in
    ap (λ n. (lies_in j s x && b) || ((ltb (s + x) (8 * j + 8) && ltb (8 * j) n) && b)) whole ∙ either (ltb s (8 * j + 8)) (ltb (8 * j) (s + x)) (ltb (s + x) (8 * j + 8)) (ltb (8 * j) (s + (x + size))) b earlier later there

module _ (p : Leaf → Bool) (l : Layout) (s : ℕ) where
  one_more : (n : ℕ) → list_any p (map (moved s) (repeated l (suc n))) ≡ (list_any p (map (moved s) (repeated l n)) || list_any p (map (moved (s + n * l.size)) l.leaves))
  one_more n =
      ap (λ ls. list_any p ls) (map-append (moved s) (repeated l n) (map (moved (n * l.size)) l.leaves))
      ∙ list_any-append p (map (moved s) (repeated l n)) (map (moved s) (map (moved (n * l.size)) l.leaves))
      ∙ ap (λ ls. list_any p (map (moved s) (repeated l n)) || list_any p ls) (moved_twice s (n * l.size) l.leaves)

repeated_integers : (l : Layout) (j : ℕ) (b : Bool) → ((s : ℕ) → list_any (is_integer_leaf_in j) (map (moved s) l.leaves) ≡ (lies_in j s l.size && b)) → (s n : ℕ) → list_any (is_integer_leaf_in j) (map (moved s) (repeated l (suc n))) ≡ (lies_in j s (suc n * l.size) && b)
repeated_integers l j b each s zero =
    let start : s + 0 * l.size ≡ s = omega arith in
    let size : l.size ≡ 1 * l.size = omega arith in
    one_more (is_integer_leaf_in j) l s zero ∙ each (s + 0 * l.size) ∙ ap (λ x. lies_in j x l.size && b) start ∙ ap (λ x. lies_in j s x && b) size
repeated_integers l j b each s (suc n) =
    let size : suc n * l.size + l.size ≡ suc (suc n) * l.size = omega arith in
    one_more (is_integer_leaf_in j) l s (suc n)
    ∙ ap (λ x. x || list_any (is_integer_leaf_in j) (map (moved (s + suc n * l.size)) l.leaves)) (repeated_integers l j b each s n)
    ∙ ap (λ x. (lies_in j s (suc n * l.size) && b) || x) (each (s + suc n * l.size))
    ∙ goes_on j s (suc n * l.size) l.size b
    ∙ ap (λ x. lies_in j s x && b) size

repeated_none : (l : Layout) → ((s : ℕ) → list_any is_x87_leaf (map (moved s) l.leaves) ≡ false) → (s n : ℕ) → list_any is_x87_leaf (map (moved s) (repeated l n)) ≡ false
repeated_none l none s zero = refl
repeated_none l none s (suc n) =
    one_more is_x87_leaf l s n ∙ ap (λ x. x || list_any is_x87_leaf (map (moved (s + n * l.size)) l.leaves)) (repeated_none l none s n) ∙ none (s + n * l.size)

pub array_is_run : (ts : List Tree) (n : ℕ) (t : Tree) (r : Run) (size : ℕ) → 0 < n → t ≡ tree_at ts 0 → size ≡ n * r.size → IsRun r t → IsRun (record { each = r.each; size = size; is_integer = r.is_integer }) (array (trees_of ts) n)
array_is_run ts zero t r size some is sized run = absurd (omega arith)
array_is_run ts (suc n) t r size some is sized run =
    let l = element (layouts (trees_of ts)) 0 in
    let here = layout_here ts 0 t is in
    let each : l.size ≡ r.size = ap (λ m. m.size) here ∙ run.size in
    let leaves : l.leaves ≡ leaves_of t = ap (λ m. m.leaves) here in
    record {
      size = ap (λ k. suc n * k) each ∙ sym sized;
      align = ap (λ m. m.align) here ∙ run.align;
      integers = λ j s. repeated_integers l j r.is_integer (λ o. ap (λ ls. list_any (is_integer_leaf_in j) (map (moved o) ls)) leaves ∙ run.integers j o ∙ ap (λ k. lies_in j o k && r.is_integer) (sym each)) s n ∙ ap (λ k. lies_in j s (suc n * k) && r.is_integer) each ∙ ap (λ k. lies_in j s k && r.is_integer) (sym sized);
      none_x87 = λ s. repeated_none l (λ o. ap (λ ls. list_any is_x87_leaf (map (moved o) ls)) leaves ∙ run.none_x87 o) s (suc n);
    }

-- ---- a struct

module _ (p : Leaf → Bool) (ts : List Tree) (i : ℕ) (t : Tree) (is : t ≡ tree_at ts i) where
  behind : list_any p (leaves_before (layouts (trees_of ts)) (i + 1)) ≡ (list_any p (leaves_before (layouts (trees_of ts)) i) || list_any p (map (moved (start_of (layouts (trees_of ts)) i)) (leaves_of t)))
  behind =
      let es = layouts (trees_of ts) in
      rw add-one (list_any-append p (leaves_before es i) (map (moved (start_of es i)) (element es i).leaves) ∙ ap (λ l. list_any p (leaves_before es i) || list_any p (map (moved (start_of es i)) l.leaves)) (layout_here ts i t is))

pub walked-turn : (ts : List Tree) (i : ℕ) (t : Tree) (w new : Walk) (r : Run) → t ≡ tree_at ts i → IsWalked w ts i → IsRun r t → new ≡ with_run w r → IsWalked new ts (i + 1)
walked-turn ts i t w new r is walked run e =
    let es = layouts (trees_of ts) in
    let start : least_multiple r.each w.end ≡ start_of es i = start-turn ts i t is w.end r.each walked.end (sym run.align) in
    let found : (j : ℕ) (before : Bool) → before ≡ list_any (is_integer_leaf_in j) (leaves_before es i) → (before || (lies_in j (least_multiple r.each w.end) r.size && r.is_integer)) ≡ list_any (is_integer_leaf_in j) (leaves_before es (i + 1)) = λ j before b. ap (λ x. x || (lies_in j (least_multiple r.each w.end) r.size && r.is_integer)) b ∙ ap (λ s. list_any (is_integer_leaf_in j) (leaves_before es i) || (lies_in j s r.size && r.is_integer)) start ∙ ap (λ x. list_any (is_integer_leaf_in j) (leaves_before es i) || x) (sym (run.integers j (start_of es i))) ∙ sym (behind (is_integer_leaf_in j) ts i t is) in
    record {
      end = ap (λ n. n.end) e ∙ end_before-turn ts i t is w.end r.size r.each walked.end (sym run.size) (sym run.align);
      align = ap (λ n. n.align) e ∙ align_before-turn ts i t is w.align r.each walked.align (sym run.align);
      first = ap (λ n. n.first) e ∙ found 0 w.first walked.first;
      second = ap (λ n. n.second) e ∙ found 1 w.second walked.second;
      none_x87 = behind is_x87_leaf ts i t is ∙ ap (λ x. x || list_any is_x87_leaf (map (moved (start_of es i)) (leaves_of t))) walked.none_x87 ∙ run.none_x87 (start_of es i);
    }

-- none of the leaves is a long double, so the value is not one
none_is_one : (ls : List Leaf) → list_any is_x87_leaf ls ≡ false → is_one_x87 ls ≡ false
none_is_one [] e = refl
none_is_one (l ∷ []) e = sym (or-false (is_x87_leaf l)) ∙ e
none_is_one (l ∷ m ∷ ls) e = refl

pub walked_at_end : (ts : List Tree) (n : ℕ) (w : Walk) → n ≡ length ts → IsWalked w ts n → IsFlat w (struct_of ts)
walked_at_end ts n w all walked =
    let es = layouts (trees_of ts) in
    let count : n ≡ length es = all ∙ sym (length-layouts ts) in
    record {
      size = size_at_end ts n all w.end w.align walked.end walked.align;
      some = omega (arith, walked.align, align_before-positive es n);
      low = omega (arith, walked.align, align_before-bounded es n (aligns_bounded (trees_of ts)));
      near = omega (arith, walked.end, end_within ts n (omega (arith, all)));
      first = walked.first ∙ ap (λ k. list_any (is_integer_leaf_in 0) (leaves_before es k)) count;
      second = walked.second ∙ ap (λ k. list_any (is_integer_leaf_in 1) (leaves_before es k)) count;
      aggregate = refl;
      not_complex = refl;
      not_x87 = or-false _ ∙ none_is_one (leaves_of (struct_of ts)) (ap (λ k. list_any is_x87_leaf (leaves_before es k)) (sym count) ∙ walked.none_x87);
    }
