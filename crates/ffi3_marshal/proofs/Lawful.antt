-- What the laws of a standard give a store of all arguments.
use Rattle.std.proofs.Common.{◌≡◌, ℕ, zero, suc, ◌+◌, ◌*◌, ◌<◌, ◌≤◌, List, [], ◌∷◌, ◌++◌, true, false, inl, inr, length, refl, sym, subst, ◌∙◌, arith}
use Rattle.std.specs.Prelude.{⊤, ◌/◌, nat_le, nat_lt}
use Rattle.std.proofs.lemmas.Bool.Decides.{nat_tests}
use Rattle.std.specs.List.{AllByRecursion, flat_map}
use Rattle.ffi3_type_spec.specs.declared.Target.{Target}
use Rattle.ffi3_type_spec.specs.declared.Isa.{Isa}
use Rattle.ffi3_type_spec.specs.declared.Isa.TheVariants.{Amd64, Aarch64, Riscv}
use Rattle.ffi3_type_spec.specs.TargetIsa.{isa_of}
use Rattle.ffi3_type_spec.specs.Tree.{Tree, void, scalar, left_out, structure, array, no_trees, tree, tree_at}
use Rattle.ffi3_type_spec.specs.Layout.{size_of, layouts, align_before, end_before}
use Rattle.ffi3_type_spec.specs.Fault.{takes_void, HasNoFault, bad_typedef, left_out_type, out_of_place, left_out_kind, misshapen}
use Rattle.ffi3_type_spec.specs.Signature.{Signature, SignatureHasNoFault, SignatureIsPlaced, bad_type, at_argument, in_argument, of_type}
use Rattle.ffi3_type_spec.specs.declared.Role.{Role}
use Rattle.ffi3_type_spec.specs.declared.Role.TheVariants.{AsArgument, AsElement, PlacedArgument}
use Rattle.ffi3_type_spec.proofs.Placed.{faultless_is_plain}
use Rattle.ffi3_type_spec.proofs.Faults.{fault_outside}
use Rattle.ffi3_type_spec.proofs.Layouts.{least_multiple-above, scalar_room-bounds, size_le-end}
use Rattle.ffi3_type_spec.proofs.Right.{argument_is_right, right_without_first}
use Rattle.ffi3_type_spec.proofs.Tests.{and_right}
use Rattle.ffi3_place_spec.specs.declared.Loc.{Loc}
use Rattle.ffi3_place_spec.specs.declared.Loc.TheVariants.{G, F, S}
use Rattle.ffi3_place_spec.specs.declared.Place.{Place}
use Rattle.ffi3_place_spec.specs.declared.Place.TheVariants.{Direct, ByRef}
use Rattle.ffi3_place_spec.specs.Standard.{Standard, plan_of, frame_of}
use Rattle.ffi3_place_spec.specs.Agrees.{AgreesWithMachine}
use Rattle.ffi3_place_spec.specs.Sound.{Apart, AreApart, IsNoneOf, IsFurther, IsSound, LiesIn, StandsIn, PlacesHaveAll, place_locs, piece_locs, copy_locs, stack_words, stack_words_for, argument_locs, hidden_locs, buffer_locs, call_locs, closed_to_results, closed_to_arguments}
use Rattle.ffi3_place_spec.specs.MachineRegisters.{to_list}
pub use Rattle.ffi3_place_spec.proofs.Tests.{each_weaker as each_map}
pub use Rattle.ffi3_place_spec.proofs.Further.{each_in_front as each_first, each_behind as each_rest, each_of_all as each_join}
use Rattle.ffi3_place_spec.proofs.Further.{each_both}
use Rattle.ffi3_marshal.specs.Stored.{IsPlace, IsPlaceIn, IsWritable}
use Rattle.ffi3_marshal.specs.Standing.{all_uses, AreReady, AreReadyIn}
use Rattle.ffi3_marshal.proofs.Composing.{apart_sym}

-- ---- places that are apart

-- each of the one list is apart from each of the other
abbrev pub Across : List Loc → List Loc → Type 0
Across xs ys = AllByRecursion (λ x. AllByRecursion (Apart x) ys) xs

pub apart_first : (xs ys : List Loc) → AreApart (xs ++ ys) → AreApart xs
apart_first [] ys h = tt
apart_first (x ∷ xs) ys h = (each_first (Apart x) xs ys h.0, apart_first xs ys h.1)

pub apart_rest : (xs ys : List Loc) → AreApart (xs ++ ys) → AreApart ys
apart_rest [] ys h = h
apart_rest (x ∷ xs) ys h = apart_rest xs ys h.1

pub apart_across : (xs ys : List Loc) → AreApart (xs ++ ys) → Across xs ys
apart_across [] ys h = tt
apart_across (x ∷ xs) ys h = (each_rest (Apart x) xs ys h.0, apart_across xs ys h.1)

pub apart_join : (xs ys : List Loc) → AreApart xs → AreApart ys → Across xs ys → AreApart (xs ++ ys)
apart_join [] ys h k c = k
apart_join (x ∷ xs) ys h k c = (each_join (Apart x) xs ys h.0 c.0, apart_join xs ys h.1 k c.1)

-- none of the other list, for each of this
pub across_none : (xs ys : List Loc) → Across xs ys → AllByRecursion (λ y. AllByRecursion (Apart y) xs) ys
across_none xs [] c = tt
across_none xs (y ∷ ys) c =
    (each_map (λ x. AllByRecursion (Apart x) (y ∷ ys)) (Apart y) (λ x h. apart_sym x y h.0) xs c, across_none xs ys (each_map (λ x. AllByRecursion (Apart x) (y ∷ ys)) (λ x. AllByRecursion (Apart x) ys) (λ x h. h.1) xs c))

pub across_first : (xs ys zs : List Loc) → Across xs (ys ++ zs) → Across xs ys
across_first xs ys zs c = each_map (λ x. AllByRecursion (Apart x) (ys ++ zs)) (λ x. AllByRecursion (Apart x) ys) (λ x h. each_first (Apart x) ys zs h) xs c

across_rest : (xs ys zs : List Loc) → Across xs (ys ++ zs) → Across xs zs
across_rest xs ys zs c = each_map (λ x. AllByRecursion (Apart x) (ys ++ zs)) (λ x. AllByRecursion (Apart x) zs) (λ x h. each_rest (Apart x) ys zs h) xs c

pub uses_each : (P : Loc → Type 0) (ts : List Tree) (ps : List Place) → PlacesHaveAll ts ps → AllByRecursion P (flat_map place_locs ps) → AllByRecursion P (copy_locs ts ps) → AllByRecursion P (all_uses ts ps)
uses_each P [] [] all h k = tt
uses_each P (t ∷ ts) (Direct pieces ∷ ps) all h k =
    each_join P (piece_locs pieces) (all_uses ts ps) (each_first P (piece_locs pieces) (flat_map place_locs ps) h) (uses_each P ts ps all.1 (each_rest P (piece_locs pieces) (flat_map place_locs ps) h) k)
uses_each P (t ∷ ts) (ByRef at copy ∷ ps) all h k =
    (h.0, each_join P (stack_words_for copy t) (all_uses ts ps) (each_first P (stack_words_for copy t) (copy_locs ts ps) k) (uses_each P ts ps all.1 h.1 (each_rest P (stack_words_for copy t) (copy_locs ts ps) k)))
uses_each P _ _ all h k = absurd all

-- places and copies, argument by argument
pub uses_apart : (ts : List Tree) (ps : List Place) → PlacesHaveAll ts ps → AreApart (flat_map place_locs ps) → AreApart (copy_locs ts ps) → Across (flat_map place_locs ps) (copy_locs ts ps) → AreApart (all_uses ts ps)
uses_apart [] [] all h k c = tt
uses_apart (t ∷ ts) (Direct pieces ∷ ps) all h k c =
    let flat = flat_map place_locs ps in
    let first = each_first (λ x. AllByRecursion (Apart x) (copy_locs ts ps)) (piece_locs pieces) (flat_map place_locs ps) c in
    let later = each_rest (λ x. AllByRecursion (Apart x) (copy_locs ts ps)) (piece_locs pieces) (flat_map place_locs ps) c in
    apart_join (piece_locs pieces) (all_uses ts ps) (apart_first (piece_locs pieces) (flat_map place_locs ps) h) (uses_apart ts ps all.1 (apart_rest (piece_locs pieces) (flat_map place_locs ps) h) k later)
    (each_both (λ x. AllByRecursion (Apart x) (flat_map place_locs ps)) (λ x. AllByRecursion (Apart x) (copy_locs ts ps)) (λ x. AllByRecursion (Apart x) (all_uses ts ps)) (λ x a b. uses_each (Apart x) ts ps all.1 a b) (piece_locs pieces) (apart_across (piece_locs pieces) (flat_map place_locs ps) h) first)
uses_apart (t ∷ ts) (ByRef at copy ∷ ps) all h k c =
    let words_clear = across_none (flat_map place_locs ps) (stack_words_for copy t) (across_first (flat_map place_locs ps) (stack_words_for copy t) (copy_locs ts ps) c.1) in
    let later = across_rest (flat_map place_locs ps) (stack_words_for copy t) (copy_locs ts ps) c.1 in
    let rest = uses_apart ts ps all.1 h.1 (apart_rest (stack_words_for copy t) (copy_locs ts ps) k) later in (
      each_join (Apart at) (stack_words_for copy t) (all_uses ts ps) (each_first (Apart at) (stack_words_for copy t) (copy_locs ts ps) c.0) (uses_each (Apart at) ts ps all.1 h.0 (each_rest (Apart at) (stack_words_for copy t) (copy_locs ts ps) c.0)),
      apart_join (stack_words_for copy t) (all_uses ts ps) (apart_first (stack_words_for copy t) (copy_locs ts ps) k) rest
          (each_both (λ x. AllByRecursion (Apart x) (flat_map place_locs ps)) (λ x. AllByRecursion (Apart x) (copy_locs ts ps)) (λ x. AllByRecursion (Apart x) (all_uses ts ps)) (λ x a b. uses_each (Apart x) ts ps all.1 a b) (stack_words_for copy t) words_clear (apart_across (stack_words_for copy t) (copy_locs ts ps) k)),
    )
uses_apart _ _ all h k c = absurd all

-- ---- copies lie in the frame

abbrev CopyFits : ℕ → Tree → Place → Type 0
CopyFits n t (Direct pieces) = ⊤
CopyFits n t (ByRef at copy) = copy + size_of t ≤ n

abbrev CopiesFit : ℕ → List Tree → List Place → Type 0
CopiesFit n (t ∷ ts) (p ∷ ps) = CopyFits n t p × CopiesFit n ts ps
CopiesFit n _ _ = ⊤

abbrev HasSomeBytes : Tree → Type 0
HasSomeBytes t = 1 ≤ size_of t

words_fit : (f n at count : ℕ) → AllByRecursion (IsPlaceIn f n) (stack_words at (suc count)) → at + 8 * suc count ≤ n
words_fit f n at zero h = omega (arith, h.0)
words_fit f n at (suc count) h = omega (arith, words_fit f n (at + 8) count h.1)

copy_fits : (f n copy count size : ℕ) → 1 ≤ size → count ≡ (size + 7) / 8 → AllByRecursion (IsPlaceIn f n) (stack_words copy count) → copy + size ≤ n
copy_fits f n copy zero size some is h = absurd (omega (arith, some, is))
copy_fits f n copy (suc count) size some is h = omega (arith, words_fit f n copy count h, is)

copies_fit : (f n : ℕ) (ts : List Tree) (ps : List Place) → AllByRecursion HasSomeBytes ts → AllByRecursion (IsPlaceIn f n) (copy_locs ts ps) → CopiesFit n ts ps
copies_fit f n (t ∷ ts) (Direct pieces ∷ ps) some h = (tt, copies_fit f n ts ps some.1 h)
copies_fit f n (t ∷ ts) (ByRef at copy ∷ ps) some h = (
  copy_fits f n copy ((size_of t + 7) / 8) (size_of t) some.0 refl (each_first (IsPlaceIn f n) (stack_words_for copy t) (copy_locs ts ps) h),
  copies_fit f n ts ps some.1 (each_rest (IsPlaceIn f n) (stack_words_for copy t) (copy_locs ts ps) h),
)
copies_fit f n _ _ some h = tt

-- ---- an argument without fault has bytes

bytes_of_right : (outer : ℕ) (role : Role) (t : Tree) → takes_void role ≡ false → HasNoFault outer role t → 1 ≤ size_of t
bytes_of_right outer role void none right = absurd (right [] bad_typedef (out_of_place refl none))
bytes_of_right outer role (scalar s) none right = (scalar_room-bounds s).0
bytes_of_right outer role (left_out k) none right = absurd (right [] (left_out_type (left_out k)) (left_out_kind refl))
bytes_of_right outer role (array (tree t no_trees) (suc n)) none right =
    let inside : HasNoFault (outer + 1) AsElement t = λ path fault is. right (0 ∷ path) fault (fault_outside (array (tree t no_trees) (suc n)) 0 path fault (omega arith) is) in
    let first = bytes_of_right (outer + 1) AsElement t refl inside in
    let more : suc n * size_of t ≡ n * size_of t + size_of t = omega arith in
    omega (arith, first, more)
bytes_of_right outer role (structure (tree t ts)) none right =
    let inside : HasNoFault (outer + 1) AsElement t = λ path fault is. right (0 ∷ path) fault (fault_outside (structure (tree t ts)) 0 path fault (omega arith) is) in
    let first = bytes_of_right (outer + 1) AsElement t refl inside in
    let ends : size_of t ≤ end_before (layouts (tree t ts)) (length (layouts (tree t ts))) = size_le-end (layouts (tree t ts)) 0 (length (layouts (tree t ts))) (omega arith) in
    let rounded : end_before (layouts (tree t ts)) (length (layouts (tree t ts))) ≤ size_of (structure (tree t ts)) = least_multiple-above (align_before (layouts (tree t ts)) (length (layouts (tree t ts)))) (end_before (layouts (tree t ts)) (length (layouts (tree t ts)))) in
    omega (arith, first, ends, rounded)
bytes_of_right outer role _ none right = absurd (right [] bad_typedef (misshapen refl refl))

each_has_bytes : (role : Role) → takes_void role ≡ false → (ts : List Tree) → ((i : ℕ) → i < length ts → HasNoFault 0 role (tree_at ts i)) → AllByRecursion HasSomeBytes ts
each_has_bytes role none [] h = tt
each_has_bytes role none (t ∷ ts) h =
    (bytes_of_right 0 role t none (h 0 (omega arith)), each_has_bytes role none ts (λ i below. h (suc i) (omega arith)))

-- and so has one that can be placed
placed_bytes : (s : Signature) → SignatureIsPlaced s → AllByRecursion HasSomeBytes s.arguments
placed_bytes s right =
    each_has_bytes PlacedArgument refl s.arguments (λ i below. right_without_first PlacedArgument (tree_at s.arguments i) (λ path f first. right (bad_type (at_argument i) path f) (in_argument below (of_type first))))

-- ---- places of the standard are places of its machine

pub machine_place : (isa : Isa) (n : ℕ) (l : Loc) → LiesIn isa n l → IsPlace n l
machine_place Amd64 n (G r) h = omega (arith, h)
machine_place isa n (S k w) h = h
machine_place _ n _ h = omega (arith, h)

pub machine_places : (isa : Isa) (n : ℕ) (ls : List Loc) → AllByRecursion (LiesIn isa n) ls → AllByRecursion (IsPlace n) ls
machine_places isa n ls h =
    each_map (LiesIn isa n) (IsPlace n) (λ l lies. machine_place isa n l lies) ls h

-- ---- and those that may be further words are of a floating file that has these

more_words : (n : ℕ) (l : Loc) → IsPlace n l → IsPlaceIn 40 n l
more_words n (F r) h = omega (arith, h)
more_words n _ h = h

further_place : (isa : Isa) (n : ℕ) (l : Loc) → IsFurther isa l → IsPlaceIn 40 n l
further_place Amd64 n (F r) h = let below : nat_lt r 20 ≡ true = and_right (nat_le 16 r) (nat_lt r 20) h in grind (arith, nat_tests, below)
further_place Aarch64 n (F r) h = let below : nat_lt r 40 ≡ true = and_right (nat_le 32 r) (nat_lt r 40) h in grind (arith, nat_tests, below)
further_place Riscv n (F r) h = cc
further_place isa n _ h = absurd h

pub any_place : (isa : Isa) (n : ℕ) (l : Loc) → StandsIn isa n l → IsPlaceIn 40 n l
any_place isa n l (inl lies) = more_words n l (machine_place isa n l lies)
any_place isa n l (inr further) = further_place isa n l further

pub any_places : (isa : Isa) (n : ℕ) (ls : List Loc) → AllByRecursion (StandsIn isa n) ls → AllByRecursion (IsPlaceIn 40 n) ls
any_places isa n ls h =
    each_map (StandsIn isa n) (IsPlaceIn 40 n) (λ l stands. any_place isa n l stands) ls h

module _ (f : ℕ) (target : Target) where
  ready_from : (n : ℕ) (ts : List Tree) (ps : List Place) → PlacesHaveAll ts ps → CopiesFit n ts ps → AllByRecursion (IsPlaceIn f n) (flat_map place_locs ps) → AllByRecursion (IsWritable target) (flat_map place_locs ps) → AreReadyIn f target n ts ps
  ready_from n [] [] all fit lie write = tt
  ready_from n (t ∷ ts) (Direct pieces ∷ ps) all fit lie write = (
    record {
      has_all = all.0;
      lies = each_first (IsPlaceIn f n) (piece_locs pieces) (flat_map place_locs ps) lie;
      writable = each_first (IsWritable target) (piece_locs pieces) (flat_map place_locs ps) write;
    },
    ready_from n ts ps all.1 fit.1 (each_rest (IsPlaceIn f n) (piece_locs pieces) (flat_map place_locs ps) lie) (each_rest (IsWritable target) (piece_locs pieces) (flat_map place_locs ps) write),
  )
  ready_from n (t ∷ ts) (ByRef at copy ∷ ps) all fit lie write = (
    record { has_all = all.0; lies = (lie.0, fit.0); writable = (write.0, tt) },
    ready_from n ts ps all.1 fit.1 lie.1 write.1,
  )
  ready_from n _ _ all fit lie write = absurd all

-- ---- the laws

module _ (std : Standard) (s : Signature) (sound : IsSound std s) where
  -- all that a call carries lies in the frame
  pub call_places : SignatureHasNoFault s → AllByRecursion (IsPlace (frame_of std s)) (call_locs s (plan_of std s))
  call_places right =
      machine_places (isa_of std.target) (frame_of std s) (call_locs s (plan_of std s)) (sound.on_machine (faultless_is_plain s right)).in_frame

  -- and what may be a further word is of a floating file that has these
  pub any_call_places : AllByRecursion (IsPlaceIn 40 (frame_of std s)) (call_locs s (plan_of std s))
  any_call_places =
      any_places (isa_of std.target) (frame_of std s) (call_locs s (plan_of std s)) sound.in_frame

  all_ready_in : (f : ℕ) → AllByRecursion (IsPlaceIn f (frame_of std s)) (call_locs s (plan_of std s)) → AllByRecursion HasSomeBytes s.arguments → (target : Target) → AllByRecursion (IsWritable target) (argument_locs (plan_of std s)) → AreReadyIn f target (frame_of std s) s.arguments (plan_of std s).places
  all_ready_in f lie some target write =
      let arguments = argument_locs (plan_of std s) in
      let copies = copy_locs s.arguments (plan_of std s).places in
      let buffer = buffer_locs s.result_type (plan_of std s).res in
      let hidden = hidden_locs (plan_of std s).res in
      let flat = flat_map place_locs (plan_of std s).places in
      let in_frame = each_rest (IsPlaceIn f (frame_of std s)) arguments (copies ++ buffer) lie in
      ready_from f target (frame_of std s) s.arguments (plan_of std s).places sound.has_all
      (copies_fit f (frame_of std s) s.arguments (plan_of std s).places some (each_first (IsPlaceIn f (frame_of std s)) copies buffer in_frame))
      (each_rest (IsPlaceIn f (frame_of std s)) hidden flat (each_first (IsPlaceIn f (frame_of std s)) arguments (copies ++ buffer) lie))
      (each_rest (IsWritable target) hidden flat write)

  pub all_ready : SignatureHasNoFault s → (target : Target) → AllByRecursion (IsWritable target) (argument_locs (plan_of std s)) → AreReady target (frame_of std s) s.arguments (plan_of std s).places
  all_ready right target write =
      all_ready_in 32 (call_places right) (each_has_bytes AsArgument refl s.arguments (argument_is_right s right)) target write

  pub any_ready : SignatureIsPlaced s → (target : Target) → AllByRecursion (IsWritable target) (argument_locs (plan_of std s)) → AreReadyIn 40 target (frame_of std s) s.arguments (plan_of std s).places
  any_ready right target write = all_ready_in 40 any_call_places (placed_bytes s right) target write

  pub all_apart : AreApart (all_uses s.arguments (plan_of std s).places)
  all_apart =
      let ps = (plan_of std s).places in
      let hidden = hidden_locs (plan_of std s).res in
      let buffer = buffer_locs s.result_type (plan_of std s).res in
      let copies = copy_locs s.arguments (plan_of std s).places in
      let across = apart_across (argument_locs (plan_of std s)) (copy_locs s.arguments (plan_of std s).places ++ buffer_locs s.result_type (plan_of std s).res) sound.apart in
      uses_apart s.arguments ps sound.has_all
      (apart_rest hidden (flat_map place_locs ps) (apart_first (argument_locs (plan_of std s)) (copies ++ buffer) sound.apart))
      (apart_first copies buffer (apart_rest (argument_locs (plan_of std s)) (copies ++ buffer) sound.apart))
      (across_first (flat_map place_locs ps) copies buffer (each_rest (λ x. AllByRecursion (Apart x) (copies ++ buffer)) hidden (flat_map place_locs ps) across))

-- ---- places that are written to

pub all_written : (std : Standard) (s : Signature) → IsSound std s → (target : Target) → ((l : Loc) → IsNoneOf std.reserved l → IsWritable target l) → AllByRecursion (IsWritable target) (argument_locs (plan_of std s))
all_written std s sound target law =
    each_map (IsNoneOf (closed_to_arguments std)) (IsWritable target) one (argument_locs (plan_of std s)) sound.allowed
  where
    one : (l : Loc) → IsNoneOf (closed_to_arguments std) l → IsWritable target l
    one l h =
        let closed = each_first (Apart l) (closed_to_results std) (std.trampoline_registers ++ to_list std.vector_count) h in
        let rest = each_rest (Apart l) std.callee_saved (std.reserved ++ to_list std.link_register) closed.1 in
        law l (each_first (Apart l) std.reserved (to_list std.link_register) rest)

-- by the law of a standard and its machine
pub written_by_law : (std : Standard) (s : Signature) → IsSound std s → AgreesWithMachine std → (target kind : Target) → std.target ≡ kind → target ≡ kind → AllByRecursion (IsWritable target) (argument_locs (plan_of std s))
written_by_law std s sound agrees target kind is same =
    subst (λ k. AllByRecursion (IsWritable k) (argument_locs (plan_of std s))) (is ∙ sym same) (all_written std s sound std.target agrees.written)
