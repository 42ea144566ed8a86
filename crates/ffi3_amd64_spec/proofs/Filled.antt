-- The rest of each place is filled as the standard says: a lone narrow integer is extended by its sign, all else is free.
use Rattle.std.proofs.Common.{◌≡◌, ℕ, Bool, true, false, cond, List, [], ◌∷◌, ◌++◌, ◌+◌, refl}
use Rattle.std.specs.List.{AllByRecursion}
use Rattle.ffi3_type_spec.specs.Tree.{Tree, scalar, u8, s8, u16, s16, u32, s32}
use Rattle.ffi3_type_spec.specs.Layout.{Leaf, leaves_of}
use Rattle.ffi3_place_spec.specs.declared.Ext.TheVariants.{Free, Widen}
use Rattle.ffi3_place_spec.specs.declared.Piece.{Piece}
use Rattle.ffi3_place_spec.specs.declared.Taken.{Taken}
use Rattle.ffi3_place_spec.specs.MachineRegisters.{significand, sign_and_exponent}
use Rattle.ffi3_place_spec.specs.Standard.{places_from, result_at}
use Rattle.ffi3_place_spec.specs.Doublewords.{doublewords, widening, stack_pieces}
use Rattle.ffi3_place_spec.specs.Sound.{is_narrow_integer, is_floating_place, IsFilled, IsWhole, PlacesAreFilled, ResultIsFilled}
use Rattle.ffi3_place_spec.proofs.Filled.{doublewords_filled, no_narrow_place}
use Rattle.ffi3_amd64_spec.specs.declared.Class.{Class}
use Rattle.ffi3_amd64_spec.proofs.Covered.{in_one_word}
use Rattle.ffi3_amd64_spec.proofs.LongDoubles.{x87_not_narrow}
use Rattle.ffi3_amd64_spec.proofs.Steps.{result_when}
use Rattle.ffi3_amd64_spec.specs.Amd64.{is_class_x87, x87_pieces, result_pieces, amd64, classes, general_argument, result_register, register_of, register_pieces, in_registers, stack_start, taken_with, spots_after, result_spot_of}

differ : (b : Bool) → b ≡ true → b ≡ false → ⊥
differ b h k = cc

module _ (t : Tree) where
  -- a piece of a lone narrow integer, not in a vector register
  narrow_filled : (p : Piece) → is_floating_place p.loc ≡ false → IsWhole p.loc → p.ext ≡ Widen → IsFilled amd64 t p
  narrow_filled p general whole extended =
      record { narrow = λ h _. extended; single = λ h k. absurd (differ (is_floating_place p.loc) h general); narrow_place = no_narrow_place p.loc whole }

  -- the pieces of all else
  free_filled : (general : ℕ → ℕ) (g f : ℕ) → is_narrow_integer t ≡ false → widening t ≡ Free → (earlier cs : List Class) → AllByRecursion (IsFilled amd64 t) (register_pieces general g f t earlier cs)
  free_filled general g f wide free earlier [] = tt
  free_filled general g f wide free earlier (c ∷ cs) =
      (record { narrow = λ h _. absurd (differ (is_narrow_integer t) h wide); single = λ h k. free; narrow_place = no_narrow_place (register_of general g f earlier c) (in_one_word general g f t earlier c) }, free_filled general g f wide free (earlier ++ c ∷ []) cs)

-- a lone narrow integer takes one general register
pub registers_filled : (general : ℕ → ℕ) (g f : ℕ) (t : Tree) → AllByRecursion (IsFilled amd64 t) (register_pieces general g f t [] (classes t))
registers_filled general g f (scalar u8) = (narrow_filled (scalar u8) _ refl refl refl, tt)
registers_filled general g f (scalar s8) = (narrow_filled (scalar s8) _ refl refl refl, tt)
registers_filled general g f (scalar u16) = (narrow_filled (scalar u16) _ refl refl refl, tt)
registers_filled general g f (scalar s16) = (narrow_filled (scalar s16) _ refl refl refl, tt)
registers_filled general g f (scalar u32) = (narrow_filled (scalar u32) _ refl refl refl, tt)
registers_filled general g f (scalar s32) = (narrow_filled (scalar s32) _ refl refl refl, tt)
registers_filled general g f t = free_filled t general g f refl refl [] (classes t)

filled_if : (a : Taken) (t : Tree) (b : Bool) → AllByRecursion (IsFilled amd64 t) (cond b (register_pieces general_argument a.general a.vector t [] (classes t)) (stack_pieces (stack_start a.stack t) t))
filled_if a t true = registers_filled general_argument a.general a.vector t
filled_if a t false = doublewords_filled amd64 t _ (λ j. refl) (λ j. refl) 0 (doublewords t)

pub arguments_filled : (end : ℕ) (before : Taken) (ts : List Tree) → PlacesAreFilled amd64 ts (places_from amd64.copy_start end ts (spots_after before ts))
arguments_filled end before [] = tt
arguments_filled end before (t ∷ ts) =
    (filled_if before t (in_registers before t), arguments_filled end (taken_with before t) ts)

-- ---- a result

-- the words of x87 registers have no narrow integer
x87_filled : (t : Tree) → is_narrow_integer t ≡ false → (k : ℕ) (ls : List Leaf) → AllByRecursion (IsFilled amd64 t) (x87_pieces k ls)
x87_filled t wide k [] = tt
x87_filled t wide k (l ∷ ls) = (
  record { narrow = λ h _. absurd (differ (is_narrow_integer t) h wide); single = λ h n. refl; narrow_place = no_narrow_place (significand k) refl },
  (record { narrow = λ h _. absurd (differ (is_narrow_integer t) h wide); single = λ h n. refl; narrow_place = no_narrow_place (sign_and_exponent k) refl }, x87_filled t wide (k + 1) ls),
)

pieces_if : (t : Tree) (b : Bool) → is_class_x87 t ≡ b → AllByRecursion (IsFilled amd64 t) (cond b (x87_pieces 0 (leaves_of t)) (register_pieces result_register 0 0 t [] (classes t)))
pieces_if t true e = x87_filled t (x87_not_narrow t e) 0 (leaves_of t)
pieces_if t false e = registers_filled result_register 0 0 t

pieces_filled : (t : Tree) → AllByRecursion (IsFilled amd64 t) (result_pieces t)
pieces_filled t = pieces_if t (is_class_x87 t) refl

pub result_filled : (t : Tree) (end : ℕ) → ResultIsFilled amd64 t (result_at amd64.copy_start end t (result_spot_of t))
result_filled t end =
    result_when (λ spot. ResultIsFilled amd64 t (result_at amd64.copy_start end t spot)) t (λ e. tt) (λ e. tt) (λ _ e. pieces_filled t)
