-- The first fault of a type and of a signature, computed. `proofs/FirstFaults.antt` and `proofs/FirstSignatureFaults.antt` have that each is the first fault by the order of faults, and that it is there wherever one is.
use Rattle.std.specs.Prelude.{ℕ, ◌+◌, ◌==◌, ◌&&◌, ◌||◌, not, List, [], ◌∷◌, length, drop, Option, Some, None}
use Rattle.std.specs.Prelude.{option_map, if◌then◌else◌, nat_lt}
use Rattle.ffi3_type_spec.specs.declared.limits.TheConstants.{DEEPEST_NESTING, LARGEST_TYPE, MOST_ARGUMENTS}
use Rattle.ffi3_type_spec.specs.declared.Role.{Role}
use Rattle.ffi3_type_spec.specs.declared.Role.TheVariants.{AsElement}
use Rattle.ffi3_type_spec.specs.Tree.{Tree, void, scalar, left_out, structure, array, Trees, no_trees, tree, long_double}
use Rattle.ffi3_type_spec.specs.Layout.{size_of, has_long_double}
use Rattle.ffi3_type_spec.specs.Fault.{Fault, bad_typedef, left_out_type, too_large, too_deep, takes, takes_void}
use Rattle.ffi3_type_spec.specs.Fault.{is_misshapen}
use Rattle.ffi3_type_spec.specs.Signature.{Signature, SignatureFault, too_many, bad_type, bad_fixed, bad_argument_type}
use Rattle.ffi3_type_spec.specs.Signature.{Position, at_result, at_argument, is_promoted, Purpose, for_calls, is_for_calls}
use Rattle.ffi3_type_spec.specs.Signature.{result_role, argument_role}

-- a fault, and the element numbers that lead to its node
abbrev pub Found : Type 0
Found = List ℕ × Fault

-- the one, or else the other
abbrev pub or_else : {A : Type 0} → Option A → Option A → Option A
or_else (Some a) other = Some a
or_else None other = other

abbrev pub inside_element : ℕ → Found → Found
inside_element i f = (i ∷ f.0, f.1)

-- the struct or array itself, after all that is inside it
abbrev pub fault_of_size : ℕ → Option Found
fault_of_size size =
    if nat_lt LARGEST_TYPE size then Some ([], too_large size) else None

-- of a struct or an array, from the first fault inside it: its place and its shape are looked at before what is inside, its size after that
abbrev pub in_composite : Role → Tree → Option Found → Option Found
in_composite role t inside =
    if takes role t && not (is_misshapen t)
    then or_else inside (fault_of_size (size_of t))
    else Some ([], bad_typedef)

abbrev pub unless_deep : ℕ → Option Found → Option Found
unless_deep outer f = if nat_lt outer DEEPEST_NESTING then f else Some ([], too_deep)

-- of a type in a role that stands inside so many structs and arrays: a node comes before its elements, elements come from the left, and an array's element type stands once
abbrev mutual
  pub first_fault : ℕ → Role → Tree → Option Found
  first_fault outer role void = if takes_void role then None else Some ([], bad_typedef)
  first_fault outer role (scalar s) = None
  first_fault outer role (left_out k) = Some ([], left_out_type (left_out k))
  first_fault outer role (structure ts) =
      unless_deep outer (in_composite role (structure ts) (first_inside (outer + 1) 0 ts))
  first_fault outer role (array ts n) =
      unless_deep outer (in_composite role (array ts n) (first_inside (outer + 1) 0 ts))

  -- of the elements from number i on
  pub first_inside : ℕ → ℕ → Trees → Option Found
  first_inside outer i no_trees = None
  first_inside outer i (tree t ts) =
      or_else (option_map (inside_element i) (first_fault outer AsElement t)) (first_inside outer (i + 1) ts)

-- ---- signatures

abbrev pub at_position : Position → Found → SignatureFault
at_position position f = bad_type position f.0 f.1

-- of a type that stands in a signature
abbrev pub found_fault : Purpose → Role → Tree → Option Found
found_fault purpose role t =
    or_else (first_fault 0 role t)
    (if is_for_calls purpose && has_long_double t then Some ([], left_out_type (left_out long_double)) else None)

-- of the arguments from number i on
abbrev pub first_in_arguments : Purpose → ℕ → List Tree → Option SignatureFault
first_in_arguments purpose i [] = None
first_in_arguments purpose i (t ∷ ts) =
    or_else (option_map (at_position (at_argument i)) (found_fault purpose (argument_role purpose) t))
    (first_in_arguments purpose (i + 1) ts)

-- of the variadic arguments, the first of them number i
abbrev pub first_promoted : ℕ → List Tree → Option SignatureFault
first_promoted i [] = None
first_promoted i (t ∷ ts) =
    if is_promoted t then Some (bad_argument_type i) else first_promoted (i + 1) ts

abbrev pub first_in_fixed : Option ℕ → List Tree → Option SignatureFault
first_in_fixed None arguments = None
first_in_fixed (Some n) arguments =
    if (n == 0) || nat_lt (length arguments) n
    then Some (bad_fixed n (length arguments))
    else first_promoted n (drop n arguments)

abbrev pub first_fault_for : Purpose → Signature → Option SignatureFault
first_fault_for purpose s =
    if nat_lt MOST_ARGUMENTS (length s.arguments)
    then Some (too_many (length s.arguments))
    else or_else
    (option_map (at_position at_result) (found_fault purpose (result_role purpose) s.result_type))
    (or_else (first_in_arguments purpose 0 s.arguments) (first_in_fixed s.fixed s.arguments))

abbrev pub first_signature_fault : Signature → Option SignatureFault
first_signature_fault s = first_fault_for for_calls s
