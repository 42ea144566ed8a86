-- The stack around a save area, and the mark.
use Rattle.std.proofs.Common.{◌≡◌, ◌⊎◌, inl, inr, ℕ, ◌+◌, ◌-◌, ◌*◌, ◌<◌, ◌≤◌, min, List, [], ◌∷◌, ◌++◌, take, drop, get_or, length, refl, ap, ◌∙◌, arith}
use Rattle.std.specs.List.{replace_range}
use Rattle.std.proofs.lemmas.List.{get_or-take, get_or-drop, get_or_append_left, get_or-append_right, length-append, length-take-le}
use Rattle.ffi3_machine_spec.specs.Memory.{low_bytes}
use Rattle.ffi3_type_spec.specs.declared.Isa.{Isa}
use Rattle.ffi3_type_spec.specs.declared.limits.TheConstants.{STACK, STACK_TOP, STACK_BYTES}
use Rattle.ffi3_place_spec.specs.declared.Loc.{Loc}
use Rattle.ffi3_place_spec.specs.MachineRegisters.{stack_pointer}
use Rattle.ffi3_machine_spec.specs.State.{State}
use Rattle.ffi3_machine_spec.specs.Stubs.{load, size_of}
use Rattle.ffi3_stubs.specs.Effects.{held, saved, to_area}
use Rattle.ffi3_stubs.proofs.Reading.{word_length}

-- ---- the bytes around a word that is written

module _ (xs : List ℕ) (at v : ℕ) (fits : at + 8 ≤ length xs) where
  abbrev eight : List ℕ
  eight = low_bytes 8 v

  first_length : length (take at xs) ≡ at
  first_length = length-take-le at xs (omega arith)

  both_length : length (take at xs ++ low_bytes 8 v) ≡ at + 8
  both_length = length-append (take at xs) (low_bytes 8 v) ∙ ap (λ n. n + 8) first_length

  byte_below : (i : ℕ) → i < at → get_or (replace_range xs at (at + length (low_bytes 8 v)) (low_bytes 8 v)) i 0 ≡ get_or xs i 0
  byte_below i to =
      get_or_append_left (take at xs ++ low_bytes 8 v) (drop (at + 8) xs) 0 i (omega (arith, both_length)) ∙ get_or_append_left (take at xs) (low_bytes 8 v) 0 i (omega (arith, first_length)) ∙ get_or-take at xs i 0 to

  byte_above : (i : ℕ) → at + 8 ≤ i → get_or (replace_range xs at (at + length (low_bytes 8 v)) (low_bytes 8 v)) i 0 ≡ get_or xs i 0
  byte_above i from =
      let back : at + 8 + (i - (at + 8)) ≡ i = omega arith in
      get_or-append_right (take at xs ++ low_bytes 8 v) (drop (at + 8) xs) (at + 8) i 0 both_length from ∙ get_or-drop (at + 8) xs (i - (at + 8)) 0 ∙ ap (λ n. get_or xs n 0) back

-- ---- words that follow one another

pub area_size : (isa : Isa) (at : ℕ) (ls : List Loc) (s : State) → STACK ≤ s.sp + at → s.sp + at + 8 * length ls ≤ STACK_TOP → length s.stack ≡ STACK_BYTES → length (to_area isa at ls s).stack ≡ length s.stack
area_size isa at [] s low high len = refl
area_size isa at (l ∷ ls) s low high len =
    let v : ℕ = held l s in
    let m : State = saved (size_of isa (load l (stack_pointer isa) 0)) (s.sp + at) v s in
    let one : length m.stack ≡ length s.stack = word_length s.stack (s.sp + at - STACK) v (omega arith) in
    area_size isa (at + 8) ls m (omega arith) (omega arith) (one ∙ len) ∙ one

pub area_outside : (isa : Isa) (at : ℕ) (ls : List Loc) (s : State) (i : ℕ) → STACK ≤ s.sp + at → s.sp + at + 8 * length ls ≤ STACK_TOP → length s.stack ≡ STACK_BYTES → (STACK + i < s.sp + at) ⊎ (s.sp + at + 8 * length ls ≤ STACK + i) → get_or (to_area isa at ls s).stack i 0 ≡ get_or s.stack i 0
area_outside isa at [] s i low high len far = refl
area_outside isa at (l ∷ ls) s i low high len (inl below) =
    let v : ℕ = held l s in
    let m : State = saved (size_of isa (load l (stack_pointer isa) 0)) (s.sp + at) v s in
    let one : length m.stack ≡ length s.stack = word_length s.stack (s.sp + at - STACK) v (omega arith) in
    area_outside isa (at + 8) ls m i (omega arith) (omega arith) (one ∙ len) (inl (omega arith)) ∙ byte_below s.stack (s.sp + at - STACK) v (omega arith) i (omega arith)
area_outside isa at (l ∷ ls) s i low high len (inr above) =
    let v : ℕ = held l s in
    let m : State = saved (size_of isa (load l (stack_pointer isa) 0)) (s.sp + at) v s in
    let one : length m.stack ≡ length s.stack = word_length s.stack (s.sp + at - STACK) v (omega arith) in
    area_outside isa (at + 8) ls m i (omega arith) (omega arith) (one ∙ len) (inr (omega arith)) ∙ byte_above s.stack (s.sp + at - STACK) v (omega arith) i (omega arith)

-- words above the mark leave it
mark_stays : (isa : Isa) (at : ℕ) (ls : List Loc) (s : State) → s.mark ≤ s.sp + at → (to_area isa at ls s).mark ≡ s.mark
mark_stays isa at [] s above = refl
mark_stays isa at (l ∷ ls) s above =
    let m : State = saved (size_of isa (load l (stack_pointer isa) 0)) (s.sp + at) (held l s) s in
    let same : m.mark ≡ s.mark = omega arith in
    mark_stays isa (at + 8) ls m (omega (arith, same)) ∙ same

pub area_mark : (isa : Isa) (at : ℕ) (ls : List Loc) (s : State) → 0 < length ls → (to_area isa at ls s).mark ≡ min s.mark (s.sp + at)
area_mark isa at [] s some = absurd (omega (arith, some))
area_mark isa at (l ∷ ls) s some =
    let m : State = saved (size_of isa (load l (stack_pointer isa) 0)) (s.sp + at) (held l s) s in
    mark_stays isa (at + 8) ls m (omega arith)
