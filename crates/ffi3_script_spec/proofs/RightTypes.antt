-- Types without a first fault: what follows for their elements, their values, and the types of signatures.
use Rattle.std.proofs.Common.{◌≡◌, ℕ, zero, suc, ◌+◌, ◌*◌, ◌<◌, ◌≤◌, Bool, true, false, List, [], ◌∷◌, length, Option, Some, None, refl, ap, sym, subst, arith, replicate}
use Rattle.std.specs.Prelude.{nat_lt, option_map, is_none, not, ◌&&◌, if◌then◌else◌}
use Rattle.std.specs.List.{list_all}
use Rattle.std.proofs.lemmas.Bool.{eq-eqb}
use Rattle.std.proofs.lemmas.List.{length-replicate}
use Rattle.ffi3_type_spec.specs.declared.limits.TheConstants.{DEEPEST_NESTING, MOST_ARGUMENTS}
use Rattle.ffi3_type_spec.specs.declared.Role.{Role}
use Rattle.ffi3_type_spec.specs.declared.Role.TheVariants.{AsResult, AsArgument, AsElement, Anywhere}
use Rattle.ffi3_type_spec.specs.Tree.{Tree, void, scalar, left_out, long_double, structure, array, Trees, no_trees, tree, tree_at, list_of, trees_of, elements_of, parts_of, trees_of-list_of}
use Rattle.ffi3_type_spec.specs.Layout.{Layout, layouts, start_of, size_of, scalar_size, has_long_double}
use Rattle.ffi3_type_spec.specs.Value.{ValueTree, part, significant, value_in, values_in, first_value_in, repeated_values, zero_value, fits, all_fit}
use Rattle.ffi3_type_spec.specs.Fault.{bad_typedef, left_out_type, too_deep, takes, is_misshapen}
use Rattle.ffi3_type_spec.proofs.Faults.{part_is_right, right_anywhere}
use Rattle.ffi3_type_spec.proofs.Arrays.{length_of_equal, one_of_equal}
use Rattle.ffi3_type_spec.specs.Signature.{Signature, signature_at, at_result, at_argument, SignatureFault, too_many, for_calls}
use Rattle.ffi3_type_spec.proofs.Values.{element_within}
use Rattle.ffi3_type_spec.proofs.Parts.{length_part}
use Rattle.ffi3_type_spec.proofs.Significant.{length-significant}
use Rattle.ffi3_type_spec.specs.FirstFault.{Found, first_fault, found_fault, first_inside, or_else, in_composite, unless_deep, inside_element, fault_of_size, first_signature_fault, first_in_arguments, first_in_fixed, at_position}
use Rattle.ffi3_script_spec.specs.Typed.{is_right, is_right_argument, is_laid_out, signature_is_right}
use Rattle.ffi3_type_spec.proofs.FirstFaults.{right_by_none, none_found}
use Rattle.ffi3_script_spec.proofs.Tests.{and_left, and_right, both}

-- ---- options

pub is_none-none : {A : Type 0} (o : Option A) → is_none o ≡ true → o ≡ None
is_none-none None h = refl
is_none-none (Some a) h = cc

pub none-is_none : {A : Type 0} (o : Option A) → o ≡ None → is_none o ≡ true
none-is_none o h = ap is_none h

none_first : {A : Type 0} (o p : Option A) → or_else o p ≡ None → o ≡ None
none_first None p h = refl
none_first (Some a) p h = h

none_second : {A : Type 0} (o p : Option A) → or_else o p ≡ None → p ≡ None
none_second None p h = h
none_second (Some a) p h = cc

none_mapped : {A B : Type 0} (f : A → B) (o : Option A) → option_map f o ≡ None → o ≡ None
none_mapped f None h = refl
none_mapped f (Some a) h = cc

none_then : {A : Type 0} (b : Bool) (o : Option A) (x : A) → (if b then o else Some x) ≡ None → o ≡ None
none_then true o x h = h
none_then false o x h = cc

none_else : {A : Type 0} (b : Bool) (o : Option A) (x : A) → (if b then Some x else o) ≡ None → o ≡ None
none_else true o x h = cc
none_else false o x h = h

-- the condition of a choice, where what it chooses is none
none_held : {A : Type 0} (b : Bool) (o : Option A) (x : A) → (if b then o else Some x) ≡ None → b ≡ true
none_held true o x h = refl
none_held false o x h = cc

-- ---- elements

-- a struct or an array without a first fault
module _ (outer : ℕ) (role : Role) (root : Tree) (f : Option Found) (h : unless_deep outer (in_composite role root f) ≡ None) where
  own_is_right : in_composite role root f ≡ None
  own_is_right =
      none_then (nat_lt outer DEEPEST_NESTING) (in_composite role root f) ([], too_deep) h

  -- there is none inside
  pub inside_is_right : f ≡ None
  inside_is_right =
      none_first f (fault_of_size (size_of root)) (none_then (takes role root && not (is_misshapen root)) (or_else f (fault_of_size (size_of root))) ([], bad_typedef) own_is_right)

  -- and its shape is right
  pub is_shaped : not (is_misshapen root) ≡ true
  is_shaped =
      and_right (takes role root) (not (is_misshapen root)) (none_held (takes role root && not (is_misshapen root)) (or_else f (fault_of_size (size_of root))) ([], bad_typedef) own_is_right)

-- what has no first fault in a role may stand anywhere
pub laid_out_by : (role : Role) (t : Tree) → first_fault 0 role t ≡ None → is_laid_out t ≡ true
laid_out_by role t h =
    none-is_none (first_fault 0 Anywhere t) (none_found 0 Anywhere t (right_anywhere 0 role t (right_by_none 0 role t h)))

pub argument_is_laid_out : (t : Tree) → is_right_argument t ≡ true → is_laid_out t ≡ true
argument_is_laid_out t h = laid_out_by AsArgument t (is_none-none (first_fault 0 AsArgument t) h)

pub result_is_laid_out : (t : Tree) → is_right t ≡ true → is_laid_out t ≡ true
result_is_laid_out t h = laid_out_by AsResult t (is_none-none (first_fault 0 AsResult t) h)

part_is_laid_out : (t : Tree) (k : ℕ) → is_laid_out t ≡ true → k < length (parts_of t) → is_laid_out (tree_at (parts_of t) k) ≡ true
part_is_laid_out t k h below =
    let right = part_is_right Anywhere t (right_by_none 0 Anywhere t (is_none-none (first_fault 0 Anywhere t) h)) k below in
    none-is_none (first_fault 0 Anywhere (tree_at (parts_of t) k)) (none_found 0 Anywhere (tree_at (parts_of t) k) right)

-- each element of what may stand anywhere may
pub element_is_laid_out : (t : Tree) (k : ℕ) → is_laid_out t ≡ true → k < length (elements_of t) → is_laid_out (tree_at (elements_of t) k) ≡ true
element_is_laid_out (structure ts) k h below = part_is_laid_out (structure ts) k h below
element_is_laid_out (array no_trees n) k h below =
    let shaped = is_shaped 0 Anywhere (array no_trees n) None (is_none-none (first_fault 0 Anywhere (array no_trees n)) h) in
    absurd (cc)
element_is_laid_out (array (tree t ts) n) k h below =
    let same = one_of_equal n k t void (omega (arith, below, length_of_equal n t)) in
    subst (λ u. is_laid_out u ≡ true) (sym same) (part_is_laid_out (array (tree t ts) n) 0 h (omega arith))
element_is_laid_out _ k h below = absurd (omega arith)

-- ---- zero

abbrev HasRoom : Trees → List Layout → ℕ → List ℕ → Type 0
HasRoom ts es i bytes =
    (k : ℕ) → k < length (list_of ts) → start_of es (i + k) + size_of (tree_at (list_of ts) k) ≤ length bytes

has_room : (ts : Trees) (bytes : List ℕ) → length bytes ≡ size_of (structure ts) → HasRoom ts (layouts ts) 0 bytes
has_room ts bytes n k below =
    let from_zero : 0 + k ≡ k = omega arith in
    let Within : Trees → Type 0 = λ us. start_of (layouts us) k + size_of (tree_at (list_of ts) k) ≤ size_of (structure us) in
    let within : Within ts = subst Within (trees_of-list_of ts) (element_within (list_of ts) k below) in
    subst (λ m. start_of (layouts ts) m + size_of (tree_at (list_of ts) k) ≤ length bytes) (sym from_zero) (omega arith)

-- the values of n elements of an array from number i on, where the value of each fits
repeated_fit : (t : Tree) (read : List ℕ → ValueTree) (size i n : ℕ) (bytes : List ℕ) → ((part : List ℕ) → length part ≡ size → fits t (read part) ≡ true) → i * size + n * size ≤ length bytes → all_fit (trees_of (replicate n t)) (repeated_values read size i n bytes) ≡ true
repeated_fit t read size i zero bytes each room = refl
repeated_fit t read size i (suc n) bytes each room =
    let more : suc n * size ≡ size + n * size = omega arith in
    let next : (i + 1) * size ≡ i * size + size = omega arith in
    both (fits t (read (part bytes (i * size) size))) _ (each (part bytes (i * size) size) (length_part bytes (i * size) size (omega (arith, more, room)))) (repeated_fit t read size (i + 1) n bytes each (omega (arith, more, next, room)))

mutual
  -- the bytes of a right type have a value that fits it
  pub value_in-fits : (outer : ℕ) (role : Role) (t : Tree) (bytes : List ℕ) → first_fault outer role t ≡ None → length bytes ≡ size_of t → fits t (value_in t bytes) ≡ true
  value_in-fits outer role void bytes h n = refl
  value_in-fits outer role (scalar s) bytes h n =
      eq-eqb (length (significant s bytes)) (scalar_size s) (length-significant s bytes n)
  value_in-fits outer role (left_out k) bytes h n = cc
  value_in-fits outer role (structure ts) bytes h n =
      values_in-fit (outer + 1) 0 ts (layouts ts) 0 bytes (inside_is_right outer role (structure ts) (first_inside (outer + 1) 0 ts) h) (has_room ts bytes n)
  value_in-fits outer role (array no_trees count) bytes h n =
      let shaped = is_shaped outer role (array no_trees count) None h in cc
  value_in-fits outer role (array (tree t ts) count) bytes h n =
      let here = option_map (inside_element 0) (first_fault (outer + 1) AsElement t) in
      let inside = inside_is_right outer role (array (tree t ts) count) (first_inside (outer + 1) 0 (tree t ts)) h in
      let right = none_mapped (inside_element 0) (first_fault (outer + 1) AsElement t) (none_first here (first_inside (outer + 1) 1 ts) inside) in
      repeated_fit t (first_value_in (tree t ts)) (size_of t) 0 count bytes (λ part m. value_in-fits (outer + 1) AsElement t part right m) (omega (arith, n))

  values_in-fit : (outer j : ℕ) (ts : Trees) (es : List Layout) (i : ℕ) (bytes : List ℕ) → first_inside outer j ts ≡ None → HasRoom ts es i bytes → all_fit ts (values_in ts es i bytes) ≡ true
  values_in-fit outer j no_trees es i bytes h room = refl
  values_in-fit outer j (tree t ts) es i bytes h room =
      let here = option_map (inside_element j) (first_fault outer AsElement t) in
      let right = none_mapped (inside_element j) (first_fault outer AsElement t) (none_first here (first_inside outer (j + 1) ts) h) in
      let at_zero : i + 0 ≡ i = omega arith in
      let first : start_of es i + size_of t ≤ length bytes = subst (λ m. start_of es m + size_of t ≤ length bytes) at_zero (room 0 (omega arith)) in
      let later : HasRoom ts es (i + 1) bytes = λ k below. let moved : i + suc k ≡ i + 1 + k = omega arith in subst (λ m. start_of es m + size_of (tree_at (list_of ts) k) ≤ length bytes) moved (room (suc k) (omega arith)) in
      both (fits t (value_in t (part bytes (start_of es i) (size_of t)))) _ (value_in-fits outer AsElement t (part bytes (start_of es i) (size_of t)) right (length_part bytes (start_of es i) (size_of t) first)) (values_in-fit outer (j + 1) ts es (i + 1) bytes (none_second here (first_inside outer (j + 1) ts) h) later)

pub zero_fits : (t : Tree) → is_right t ≡ true → fits t (zero_value t) ≡ true
zero_fits t h =
    value_in-fits 0 AsResult t (replicate (size_of t) 0) (is_none-none (first_fault 0 AsResult t) h) (length-replicate (size_of t) 0)

-- ---- signatures

-- a type that is found to have no fault has none of its own
own_none : (role : Role) (t : Tree) → found_fault for_calls role t ≡ None → is_none (first_fault 0 role t) ≡ true
own_none role t e =
    none-is_none (first_fault 0 role t) (none_first (first_fault 0 role t) (if has_long_double t then Some ([], left_out_type (left_out long_double)) else None) e)

-- the first fault of a signature, but for its number of arguments
abbrev first_but_number : Signature → Option SignatureFault
first_but_number s =
    or_else (option_map (at_position at_result) (found_fault for_calls AsResult s.result_type)) (or_else (first_in_arguments for_calls 0 s.arguments) (first_in_fixed s.fixed s.arguments))

none_but_number : (s : Signature) → signature_is_right s ≡ true → first_but_number s ≡ None
none_but_number s h =
    none_else (nat_lt MOST_ARGUMENTS (length s.arguments)) (first_but_number s) (too_many (length s.arguments)) (is_none-none (first_signature_fault s) h)

-- the result type of a right signature
pub result_type_is_right : (s : Signature) → signature_is_right s ≡ true → is_right s.result_type ≡ true
result_type_is_right s h =
    own_none AsResult s.result_type (none_mapped (at_position at_result) (found_fault for_calls AsResult s.result_type) (none_first (option_map (at_position at_result) (found_fault for_calls AsResult s.result_type)) (or_else (first_in_arguments for_calls 0 s.arguments) (first_in_fixed s.fixed s.arguments)) (none_but_number s h)))

all_arguments : (i : ℕ) (ts : List Tree) → first_in_arguments for_calls i ts ≡ None → list_all is_right_argument ts ≡ true
all_arguments i [] h = refl
all_arguments i (t ∷ ts) h =
    let first = option_map (at_position (at_argument i)) (found_fault for_calls AsArgument t) in
    both (is_right_argument t) _ (own_none AsArgument t (none_mapped (at_position (at_argument i)) (found_fault for_calls AsArgument t) (none_first first (first_in_arguments for_calls (i + 1) ts) h))) (all_arguments (i + 1) ts (none_second first (first_in_arguments for_calls (i + 1) ts) h))

-- the argument types of a right signature
pub argument_types_are_right : (s : Signature) → signature_is_right s ≡ true → list_all is_right_argument s.arguments ≡ true
argument_types_are_right s h =
    let first = option_map (at_position at_result) (found_fault for_calls AsResult s.result_type) in
    let rest = or_else (first_in_arguments for_calls 0 s.arguments) (first_in_fixed s.fixed s.arguments) in
    all_arguments 0 s.arguments (none_first (first_in_arguments for_calls 0 s.arguments) (first_in_fixed s.fixed s.arguments) (none_second first rest (none_but_number s h)))

-- each signature of a list of right ones
pub signature_at-right : (ss : List Signature) (i : ℕ) → list_all signature_is_right ss ≡ true → i < length ss → signature_is_right (signature_at ss i) ≡ true
signature_at-right [] i h below = absurd (omega arith)
signature_at-right (s ∷ ss) zero h below = and_left (signature_is_right s) _ h
signature_at-right (s ∷ ss) (suc i) h below =
    signature_at-right ss i (and_right (signature_is_right s) _ h) (omega arith)

-- also of a number that is in no list, which stands for a signature without arguments and result
pub any_result_type_is_right : (ss : List Signature) (i : ℕ) → list_all signature_is_right ss ≡ true → is_right (signature_at ss i).result_type ≡ true
any_result_type_is_right [] i h = refl
any_result_type_is_right (s ∷ ss) zero h =
    result_type_is_right s (and_left (signature_is_right s) _ h)
any_result_type_is_right (s ∷ ss) (suc i) h =
    any_result_type_is_right ss i (and_right (signature_is_right s) _ h)
