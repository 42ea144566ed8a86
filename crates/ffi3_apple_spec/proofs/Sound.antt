-- The places of a signature are a chain, so no two share a register or a byte of stack; and they have all of the values, which they therefore determine.
use Rattle.std.proofs.Common.{◌≡◌, ℕ, ◌+◌, ◌*◌, ◌≤◌, length, Bool, true, false, cond, leb, List, [], ◌∷◌, ap, sym, ◌∙◌, refl, arith}
use Rattle.std.specs.Prelude.{Option}
use Rattle.std.specs.List.{AllByRecursion, flat_map}
use Rattle.std.proofs.lemmas.Bool.{leb-true}
use Rattle.ffi3_type_spec.specs.declared.Isa.TheVariants.{Aarch64}
use Rattle.ffi3_type_spec.specs.declared.Target.TheVariants as target
use Rattle.ffi3_type_spec.specs.Tree.{Tree, scalar, pointer}
use Rattle.ffi3_type_spec.specs.Layout.{leaves_of, size_of, align_of, least_multiple, has_long_double}
use Rattle.ffi3_type_spec.specs.Signature.{Signature, HasNoLongDouble}
use Rattle.ffi3_type_spec.proofs.Layouts.{least_multiple-above}
use Rattle.ffi3_place_spec.specs.declared.Loc.TheVariants.{G, S}
use Rattle.ffi3_place_spec.specs.declared.Taken.{Taken}
use Rattle.ffi3_place_spec.specs.declared.Ext.TheVariants.{Free}
use Rattle.ffi3_place_spec.specs.StubRegisters.{result_loads}
use Rattle.ffi3_place_spec.specs.Standard.{Spot, in_pieces, by_reference, start, place_at, places_from, copy_end, copies_start, plan_of, round8}
use Rattle.ffi3_place_spec.specs.Doublewords.{doublewords, widening, stack_pieces}
use Rattle.ffi3_place_spec.specs.Sound.{piece_locs, place_locs, hidden_locs, result_locs, IsOneOf, PlaceHasAll, PlacesHaveAll, HaveLowerWords, PlaceHasLowerWords, PlaceIsFilled, PlacesAreFilled, IsSound, IsDetermined}
use Rattle.ffi3_place_spec.proofs.Chain.{AtMost, at_most_self, chain_append}
use Rattle.ffi3_place_spec.proofs.Frame.{value_chain}
use Rattle.ffi3_place_spec.proofs.Ends.{start-behind}
use Rattle.ffi3_place_spec.proofs.Tests.{and_right}
use Rattle.ffi3_place_spec.proofs.Filled.{doublewords_filled}
use Rattle.ffi3_place_spec.proofs.Determines.{determined}
use Rattle.ffi3_place_spec.proofs.Further.{IsNotFurther, HasNoneBelow, each_of_all, lowest_words, doublewords_each, each_without}
use Rattle.ffi3_aapcs64_spec.specs.Aapcs64.{in_vectors, is_copied, member_pieces, general_pieces, register_pieces, register_spot, untouched, stack_spot as rounded_spot}
use Rattle.ffi3_aapcs64_spec.proofs.Covered.{register_spot_has_all, stack_spot_has_all, registers_filled, copied_not_vectors, NeedBy, pointer_rounded}
use Rattle.ffi3_aapcs64_spec.proofs.Registers.{numbered, halves}
use Rattle.ffi3_aapcs64_spec.proofs.Sound.{PlacesChain, doubled, doubled_more, members_chain, generals_chain, register_spot_lower, stack_spot_lower, register_spot_not_further, stack_spot_not_further, filled_here, every_law, loaded, address_saved}
use Rattle.ffi3_apple_spec.specs.Apple.{apple, is_named, is_packed, packed_pieces, stack_start, stack_spot, register_start, in_registers, spot_after, spots_after, taken_with, taken_after, placing_of}
use Rattle.ffi3_apple_spec.proofs.Packed.{packed_place, packed_have_all, packed_filled, packed_chain}
use Rattle.ffi3_apple_spec.proofs.Rising.{arguments_rise}

-- ---- one argument, by whether it is in registers, packed, copied, and in vector registers

abbrev PassedBy : Bool → Tree → Tree
PassedBy copied t = cond {A = Tree} copied (scalar pointer) t

abbrev StartBy : Bool → Taken → ℕ
StartBy vector a = cond vector a.vector a.general

-- where it begins on the stack, and how much it takes there
abbrev AtBy : Bool → Bool → Taken → Tree → ℕ
AtBy packed copied a t =
    cond packed (least_multiple (align_of t) a.stack) (start a.stack (PassedBy copied t))

abbrev SizeBy : Bool → Bool → Tree → ℕ
SizeBy packed copied t = cond packed (size_of t) (round8 (size_of (PassedBy copied t)))

abbrev SpotBy : Bool → Bool → Bool → Bool → Taken → Tree → Spot
SpotBy fits packed copied vector a t =
    cond fits
    (cond copied (by_reference (G (StartBy vector a))) (in_pieces (cond vector (member_pieces (StartBy vector a) (leaves_of t)) (general_pieces (StartBy vector a) t))))
    (cond packed (in_pieces (packed_pieces (AtBy packed copied a t) t))
    (cond copied (by_reference (S (AtBy packed copied a t) 8)) (in_pieces (stack_pieces (AtBy packed copied a t) t))))

abbrev TakenBy : Bool → Bool → Bool → Bool → Taken → Tree → Taken
TakenBy fits packed copied vector a t = record {
  general = cond vector a.general (StartBy vector a + NeedBy vector copied t);
  vector = cond vector (StartBy vector a + NeedBy vector copied t) a.vector;
  stack = cond fits a.stack (AtBy packed copied a t + SizeBy packed copied t);
}

-- what an argument leaves is never less
at_behind : (packed copied : Bool) (a : Taken) (t : Tree) → a.stack ≤ AtBy packed copied a t
at_behind true copied a t = least_multiple-above (align_of t) a.stack
at_behind false copied a t = start-behind a.stack (PassedBy copied t)

taken_by_more : (fits packed copied vector : Bool) (a : Taken) (t : Tree) → AtMost a (TakenBy fits packed copied vector a t)
taken_by_more true packed copied true a t =
    record { general = omega arith; vector = omega arith; stack = omega arith }
taken_by_more true packed copied false a t =
    record { general = omega arith; vector = omega arith; stack = omega arith }
taken_by_more false packed copied true a t =
    record { general = omega arith; vector = omega arith; stack = omega (arith, at_behind packed copied a t) }
taken_by_more false packed copied false a t =
    record { general = omega arith; vector = omega arith; stack = omega (arith, at_behind packed copied a t) }

abbrev FitsBy : Bool → Bool → Taken → Tree → Bool
FitsBy vector copied a t = leb (StartBy vector a + NeedBy vector copied t) 8

fits_by : (named : Bool) (a : Taken) (t : Tree) (vector copied : Bool) → in_vectors t ≡ vector → is_copied t ≡ copied → in_registers named a t ≡ true → StartBy vector a + NeedBy vector copied t ≤ 8
fits_by named a t vector copied ev ec ef =
    leb-true _ _ (sym (ap (λ v. FitsBy v (is_copied t) a t) ev ∙ ap (λ c. FitsBy vector c a t) ec) ∙ and_right named _ ef)

module _ (begin : ℕ → Tree → ℕ) where
  argument_chain_by : (end : ℕ) (named : Bool) (a : Taken) (t : Tree) (fits packed copied vector : Bool) → in_registers named a t ≡ fits → is_copied t ≡ copied → in_vectors t ≡ vector → PlacesChain a (place_locs (place_at begin end t (SpotBy fits packed copied vector a t))) (TakenBy fits packed copied vector a t)
  argument_chain_by end named a t true packed true true ef ec ev = let apart = copied_not_vectors t ec in cc
  argument_chain_by end named a t true packed true false ef ec ev =
      let room : a.general + 1 ≤ 8 = fits_by named a t false true ev ec ef in
      let end = TakenBy true packed true false a t in
      (doubled end, (a.general, refl, omega arith, omega (arith, room)), (a.general, refl, omega arith), doubled_more a end (taken_by_more true packed true false a t), at_most_self (doubled end))
  argument_chain_by end named a t true packed false true ef ec ev =
      members_chain (doubled a) a.vector (leaves_of t) (doubled (TakenBy true packed false true a t)) (omega arith) (fits_by named a t true false ev ec ef) (omega arith) (omega arith) (omega arith)
  argument_chain_by end named a t true packed false false ef ec ev =
      let room : a.general + doublewords t ≤ 8 = fits_by named a t false false ev ec ef in
      generals_chain (doubled a) a.general (size_of t) (widening t) 0 (doublewords t) (doubled (TakenBy true packed false false a t)) (omega arith) (omega (arith, room)) (omega arith) (omega arith) (omega arith)
  argument_chain_by end named a t false true copied vector ef ec ev =
      let end = TakenBy false true copied vector a t in
      let more = doubled_more a end (taken_by_more false true copied vector a t) in
      packed_chain numbered halves 8 16 (doubled a) (least_multiple (align_of t) a.stack) t (doubled end) (least_multiple-above (align_of t) a.stack) (omega arith) more.general more.vector
  argument_chain_by end named a t false false true vector ef ec ev =
      let end = TakenBy false false true vector a t in
      (doubled end, start-behind a.stack (scalar pointer), (omega (arith, pointer_rounded), omega arith, omega arith), doubled_more a end (taken_by_more false false true vector a t), at_most_self (doubled end))
  argument_chain_by end named a t false false false vector ef ec ev =
      let end = TakenBy false false false vector a t in
      let more = doubled_more a end (taken_by_more false false false vector a t) in
      value_chain numbered halves 8 16 (doubled a) (start a.stack t) t (doubled end) (start-behind a.stack t) (omega arith) more.general more.vector

  argument_chain : (end : ℕ) (named : Bool) (a : Taken) (t : Tree) → PlacesChain a (place_locs (place_at begin end t (spot_after named a t))) (taken_with named a t)
  argument_chain end named a t =
      argument_chain_by end named a t (in_registers named a t) (is_packed named t) (is_copied t) (in_vectors t) refl refl refl

  places_chain : (end : ℕ) (fixed : Option ℕ) (a : Taken) (i : ℕ) (ts : List Tree) → PlacesChain a (flat_map place_locs (places_from begin end ts (spots_after fixed a i ts))) (taken_after fixed a i ts)
  places_chain end fixed a i [] = at_most_self (doubled a)
  places_chain end fixed a i (t ∷ ts) =
      let named = is_named fixed i in
      chain_append numbered halves 8 16 (doubled a) (place_locs (place_at begin end t (spot_after named a t))) (doubled (taken_with named a t)) _ _
      (argument_chain end named a t) (places_chain (copy_end begin end t (spot_after named a t)) fixed (taken_with named a t) (i + 1) ts)

abbrev spots : Signature → List Spot
spots s = spots_after s.fixed untouched 0 s.arguments

abbrev taken_by_all : Signature → Taken
taken_by_all s = taken_after s.fixed untouched 0 s.arguments

-- ---- what the pieces have, and what fills the rest of their places

on_stack_has_all : (begin : ℕ → Tree → ℕ) (end at : ℕ) (t : Tree) (packed : Bool) → PlaceHasAll t (place_at begin end t (cond packed (in_pieces (packed_pieces at t)) (rounded_spot at t)))
on_stack_has_all begin end at t true = packed_have_all at t
on_stack_has_all begin end at t false = stack_spot_has_all begin end at t (is_copied t)

spot_has_all_if : (begin : ℕ → Tree → ℕ) (end first at : ℕ) (named : Bool) (t : Tree) (fits : Bool) → PlaceHasAll t (place_at begin end t (cond fits (register_spot first t) (stack_spot named at t)))
spot_has_all_if begin end first at named t true = register_spot_has_all begin end first t (is_copied t)
spot_has_all_if begin end first at named t false = on_stack_has_all begin end at t (is_packed named t)

arguments_have_all : (begin : ℕ → Tree → ℕ) (end : ℕ) (fixed : Option ℕ) (before : Taken) (i : ℕ) (ts : List Tree) → PlacesHaveAll ts (places_from begin end ts (spots_after fixed before i ts))
arguments_have_all begin end fixed before i [] = tt
arguments_have_all begin end fixed before i (t ∷ ts) =
    let named = is_named fixed i in
    (spot_has_all_if begin end (register_start before t) (stack_start named before.stack t) named t (in_registers named before t), arguments_have_all begin (copy_end begin end t (spot_after named before t)) fixed (taken_with named before t) (i + 1) ts)

register_filled : (begin : ℕ → Tree → ℕ) (end first : ℕ) (t : Tree) (copied : Bool) → PlaceIsFilled apple t (place_at begin end t (cond copied (by_reference (G first)) (in_pieces (register_pieces first t))))
register_filled begin end first t true = tt
register_filled begin end first t false = filled_here target.Apple spots taken_by_all t (register_pieces first t) (registers_filled first t)

rounded_filled : (begin : ℕ → Tree → ℕ) (end at : ℕ) (t : Tree) (copied : Bool) → PlaceIsFilled apple t (place_at begin end t (cond copied (by_reference (S at 8)) (in_pieces (stack_pieces at t))))
rounded_filled begin end at t true = tt
rounded_filled begin end at t false =
    doublewords_filled apple t (λ j. S (at + 8 * j) 8) (λ j. refl) (λ j. refl) 0 (doublewords t)

on_stack_filled : (begin : ℕ → Tree → ℕ) (end at : ℕ) (t : Tree) (packed : Bool) → PlaceIsFilled apple t (place_at begin end t (cond packed (in_pieces (packed_pieces at t)) (rounded_spot at t)))
on_stack_filled begin end at t true = packed_filled apple at t
on_stack_filled begin end at t false = rounded_filled begin end at t (is_copied t)

spot_filled_if : (begin : ℕ → Tree → ℕ) (end first at : ℕ) (named : Bool) (t : Tree) (fits : Bool) → PlaceIsFilled apple t (place_at begin end t (cond fits (register_spot first t) (stack_spot named at t)))
spot_filled_if begin end first at named t true = register_filled begin end first t (is_copied t)
spot_filled_if begin end first at named t false = on_stack_filled begin end at t (is_packed named t)

arguments_filled : (begin : ℕ → Tree → ℕ) (end : ℕ) (fixed : Option ℕ) (before : Taken) (i : ℕ) (ts : List Tree) → PlacesAreFilled apple ts (places_from begin end ts (spots_after fixed before i ts))
arguments_filled begin end fixed before i [] = tt
arguments_filled begin end fixed before i (t ∷ ts) =
    let named = is_named fixed i in
    (spot_filled_if begin end (register_start before t) (stack_start named before.stack t) named t (in_registers named before t), arguments_filled begin (copy_end begin end t (spot_after named before t)) fixed (taken_with named before t) (i + 1) ts)

-- ---- upper halves

-- the members of an argument in registers do not go past v7
members_fit : (named : Bool) (a : Taken) (t : Tree) → in_registers named a t ≡ true → in_vectors t ≡ true → register_start a t + length (leaves_of t) ≤ 8
members_fit named a t ef ev =
    let start : register_start a t ≡ a.vector = ap (λ b. cond b a.vector a.general) ev in
    omega (arith, start, fits_by named a t true (is_copied t) ev refl ef)

-- what is packed stands on the stack
packed_lower : (at : ℕ) (t : Tree) → HaveLowerWords Aarch64 (packed_pieces at t)
packed_lower at t =
    lowest_words Aarch64 (packed_pieces at t) (doublewords_each (HasNoneBelow Aarch64) (packed_place at (size_of t)) (λ j. refl) (size_of t) Free 0 (doublewords t))

packed_not_further : (at : ℕ) (t : Tree) → AllByRecursion (IsNotFurther Aarch64) (piece_locs (packed_pieces at t))
packed_not_further at t =
    doublewords_each (IsNotFurther Aarch64) (packed_place at (size_of t)) (λ j f. f) (size_of t) Free 0 (doublewords t)

on_stack_lower : (begin : ℕ → Tree → ℕ) (end at : ℕ) (t : Tree) (packed : Bool) → PlaceHasLowerWords Aarch64 (place_at begin end t (cond packed (in_pieces (packed_pieces at t)) (rounded_spot at t)))
on_stack_lower begin end at t true = packed_lower at t
on_stack_lower begin end at t false = stack_spot_lower begin end at t (is_copied t)

spot_lower_if : (begin : ℕ → Tree → ℕ) (end first at : ℕ) (named : Bool) (t : Tree) (fits : Bool) → (fits ≡ true → in_vectors t ≡ true → first + length (leaves_of t) ≤ 8) → PlaceHasLowerWords Aarch64 (place_at begin end t (cond fits (register_spot first t) (stack_spot named at t)))
spot_lower_if begin end first at named t true fit = register_spot_lower begin end first t (is_copied t) (fit refl)
spot_lower_if begin end first at named t false fit = on_stack_lower begin end at t (is_packed named t)

arguments_lower : (begin : ℕ → Tree → ℕ) (end : ℕ) (fixed : Option ℕ) (before : Taken) (i : ℕ) (ts : List Tree) → AllByRecursion (PlaceHasLowerWords Aarch64) (places_from begin end ts (spots_after fixed before i ts))
arguments_lower begin end fixed before i [] = tt
arguments_lower begin end fixed before i (t ∷ ts) =
    let named = is_named fixed i in
    (spot_lower_if begin end (register_start before t) (stack_start named before.stack t) named t (in_registers named before t) (members_fit named before t), arguments_lower begin (copy_end begin end t (spot_after named before t)) fixed (taken_with named before t) (i + 1) ts)

on_stack_not_further : (begin : ℕ → Tree → ℕ) (end at : ℕ) (t : Tree) (packed : Bool) → AllByRecursion (IsNotFurther Aarch64) (place_locs (place_at begin end t (cond packed (in_pieces (packed_pieces at t)) (rounded_spot at t))))
on_stack_not_further begin end at t true = packed_not_further at t
on_stack_not_further begin end at t false = stack_spot_not_further begin end at t (is_copied t)

spot_not_further_if : (begin : ℕ → Tree → ℕ) (end first at : ℕ) (named : Bool) (t : Tree) (fits : Bool) → (fits ≡ true → in_vectors t ≡ true → first + length (leaves_of t) ≤ 8) → has_long_double t ≡ false → AllByRecursion (IsNotFurther Aarch64) (place_locs (place_at begin end t (cond fits (register_spot first t) (stack_spot named at t))))
spot_not_further_if begin end first at named t true fit short = register_spot_not_further begin end first t (is_copied t) (fit refl) short
spot_not_further_if begin end first at named t false fit short = on_stack_not_further begin end at t (is_packed named t)

arguments_not_further : (begin : ℕ → Tree → ℕ) (end : ℕ) (fixed : Option ℕ) (before : Taken) (i : ℕ) (ts : List Tree) → AllByRecursion (λ t. has_long_double t ≡ false) ts → AllByRecursion (IsNotFurther Aarch64) (flat_map place_locs (places_from begin end ts (spots_after fixed before i ts)))
arguments_not_further begin end fixed before i [] short = tt
arguments_not_further begin end fixed before i (t ∷ ts) short =
    let named = is_named fixed i in
    each_of_all (IsNotFurther Aarch64) (place_locs (place_at begin end t (spot_after named before t))) (flat_map place_locs (places_from begin (copy_end begin end t (spot_after named before t)) ts (spots_after fixed (taken_with named before t) (i + 1) ts)))
    (spot_not_further_if begin end (register_start before t) (stack_start named before.stack t) named t (in_registers named before t) (members_fit named before t) short.0)
    (arguments_not_further begin (copy_end begin end t (spot_after named before t)) fixed (taken_with named before t) (i + 1) ts short.1)

-- ---- this standard

pub sound : (s : Signature) → IsSound apple s
sound s =
    let copies = copies_start (placing_of s) in
    every_law target.Apple spots taken_by_all s refl (record {
      chain = places_chain start copies s.fixed untouched 0 s.arguments;
      lower_words = arguments_lower start copies s.fixed untouched 0 s.arguments;
      has_all = arguments_have_all start copies s.fixed untouched 0 s.arguments;
      filled = arguments_filled start copies s.fixed untouched 0 s.arguments;
      rising = arguments_rise start copies s.fixed untouched 0 s.arguments;
      not_further = λ plain. arguments_not_further start copies s.fixed untouched 0 s.arguments (each_without s.arguments plain.arguments);
    })

pub determines : (s : Signature) → IsDetermined apple s
determines s = determined apple s (sound s).has_all (sound s).result_has_all

pub result_loaded : (s : Signature) → HasNoLongDouble s → AllByRecursion (IsOneOf (result_loads Aarch64)) (result_locs (plan_of apple s).res)
result_loaded s = loaded target.Apple spots taken_by_all s

pub hidden_saved : (s : Signature) → AllByRecursion (IsOneOf (G 8 ∷ [])) (hidden_locs (plan_of apple s).res)
hidden_saved s = address_saved target.Apple spots taken_by_all s
