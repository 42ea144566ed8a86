-- WELL-TYPED VALUES FIT THEIR TYPES, and the moves of a well-typed body fit.
use Rattle.std.proofs.Common.{◌≡◌, ℕ, ◌<◌, suc, Bool, true, false, Option, Some, None, List, [], ◌∷◌, ◌++◌, length, take, refl, ap, ◌∙◌, subst, arith}
use Rattle.std.specs.Prelude.{slice_index_or, nat_lt, ◌&&◌, is_none, replicate}
use Rattle.std.specs.Int.{w64, to_le_bytes}
use Rattle.std.specs.List.{list_all}
use Rattle.std.proofs.lemmas.Bool.{eq-eqb, ltb-true}
use Rattle.ffi3_type_spec.specs.Tree.{Scalar, float, pointer, Tree, void, scalar, left_out, structure, array, Trees, no_trees, tree, tree_at, trees_of, list_of, elements_of, trees_of-list_of}
use Rattle.ffi3_type_spec.specs.declared.Role.TheVariants.{Anywhere}
use Rattle.ffi3_type_spec.specs.Integer.{is_integer, is_number, bytes_of_number, number_of, sum_of}
use Rattle.ffi3_type_spec.specs.Layout.{scalar_size}
use Rattle.ffi3_type_spec.specs.Value.{ValueTree, ValueTrees, no_values, value, void_value, leaf_value, struct_value, bytes_of, list_of_values, zero_value, fits, all_fit}
use Rattle.ffi3_type_spec.specs.Signature.{Signature, signature_at}
use Rattle.ffi3_type_spec.specs.Value as values
use Rattle.ffi3_type_spec.proofs.ValueElements.{fitting_element}
use Rattle.ffi3_type_spec.proofs.Widened.{length-bytes_of_number}
use Rattle.ffi3_script_spec.specs.Script.{Expression, constant, composed, argument, outcome, user_data, element, typed_as, sum, difference, cast, Expressions, no_expressions, expression, Act, call, make, free, print, return, return_void, ScriptMove, Typed}
use Rattle.ffi3_semantics_spec.specs.Move.{Move, MoveFits, result_type_of}
use Rattle.ffi3_type_spec.specs.FirstFault.{first_fault}
use Rattle.ffi3_script_spec.specs.Values.{is_list_type}
use Rattle.ffi3_script_spec.specs.Bodies.{type_of_act, is_return, ends}
use Rattle.ffi3_script_spec.specs.Meaning.{Known, value_of, values_of, element_value, difference_of, is_done, move_of, next_by, next_of, knows_too, behaviour_of, known}
use Rattle.ffi3_script_spec.specs.Typed.{Kinds, is_at, own_type, is_scalar_of, is_integer_of, is_number_of, trees_in, has_type, have_types, same_scalar, Setting, is_laid_out, signature_is_right, act_is_typed, gives_too, moves_are_typed, body_is_typed, IsOfType, is_condition}
use Rattle.ffi3_script_spec.proofs.Tests.{and_left, and_right, both, types_are_same, scalars_are_same}
use Rattle.ffi3_type_spec.proofs.FirstFaults.{right_by_none}
use Rattle.ffi3_script_spec.proofs.RightTypes.{is_none-none, zero_fits, any_result_type_is_right}

-- the list of values and back
pub values_of-list_of_values : (vs : ValueTrees) → values.values_of (list_of_values vs) ≡ vs
values_of-list_of_values no_values = refl
values_of-list_of_values (value v vs) = ap (value v) (values_of-list_of_values vs)

-- what is at a place of a list of types fits it, where values fit the list
at_place : (ts : List Tree) (vs : List ValueTree) (i : ℕ) (t : Tree) → all_fit (trees_of ts) (values.values_of vs) ≡ true → is_at ts i t ≡ true → fits t (slice_index_or vs i void_value) ≡ true
at_place ts vs i t h here =
    let below = ltb-true i (length ts) (and_left (nat_lt i (length ts)) _ here) in
    let same = types_are_same (tree_at ts i) t (and_right (nat_lt i (length ts)) _ here) in
    subst (λ u. fits u (slice_index_or vs i void_value) ≡ true) same (fitting_element ts vs i h below)

-- no place is in an empty list
nowhere : (i : ℕ) (t : Tree) → is_at [] i t ≡ true → ⊥
nowhere i t here = omega (arith, ltb-true i 0 (and_left (nat_lt i 0) _ here))

-- an element of a value that fits a type
element_fits : (u : Tree) (v : ValueTree) (i : ℕ) (t : Tree) → fits u v ≡ true → is_at (elements_of u) i t ≡ true → fits t (element_value v i) ≡ true
element_fits (structure ts) (struct_value vs) i t h here =
    at_place (list_of ts) (list_of_values vs) i t (ap (λ us. all_fit us (values.values_of (list_of_values vs))) (trees_of-list_of ts) ∙ ap (all_fit ts) (values_of-list_of_values vs) ∙ h) here
element_fits void v i t h here = absurd (nowhere i t here)
element_fits (scalar s) v i t h here = absurd (nowhere i t here)
element_fits (left_out k) v i t h here = absurd (nowhere i t here)
element_fits (array (tree u us) n) (struct_value vs) i t h here =
    at_place (replicate n u) (list_of_values vs) i t (ap (all_fit (trees_of (replicate n u))) (values_of-list_of_values vs) ∙ h) here
element_fits _ _ i t h here = cc

-- a leaf of as many bytes as the type has
leaf_fits : (t : Tree) (bytes : List ℕ) → is_scalar_of (length bytes) t ≡ true → fits t (leaf_value bytes) ≡ true
leaf_fits (scalar s) bytes h = h
leaf_fits _ bytes h = cc

-- the bytes of a number
number_fits : (s : Scalar) (t : Tree) (bytes : List ℕ) → (is_number s ≡ true → length bytes ≡ scalar_size s) → is_number_of s t ≡ true → fits t (leaf_value bytes) ≡ true
number_fits s (scalar r) bytes n h =
    let same = scalars_are_same s r (and_left (same_scalar s r) _ h) in
    eq-eqb (length bytes) (scalar_size r) (n (ap is_number same ∙ and_right (same_scalar s r) _ h) ∙ ap scalar_size same)
number_fits s _ bytes n h = cc

pub integer_is_number : (s : Scalar) → is_integer s ≡ true → is_number s ≡ true
integer_is_number float h = cc
integer_is_number _ h = cc

-- an integer's type is a number's
pub number_by_integer : (s : Scalar) (t : Tree) → is_integer_of s t ≡ true → is_number_of s t ≡ true
number_by_integer s (scalar r) h =
    both (same_scalar s r) (is_number r) (and_left (same_scalar s r) _ h) (integer_is_number r (and_right (same_scalar s r) _ h))
number_by_integer s _ h = cc

composed_fits : (t : Tree) (vs : ValueTrees) → is_list_type t ≡ true → all_fit (trees_in t) vs ≡ true → fits t (struct_value vs) ≡ true
composed_fits (structure ts) vs h each = each
composed_fits (array (tree t ts) n) vs h each = each
composed_fits _ vs h each = cc

pointer_fits : (t : Tree) (address : ℕ) → scalar pointer ≡ t → fits t (leaf_value (to_le_bytes w64 address)) ≡ true
pointer_fits t address same = subst (λ u. fits u (leaf_value (to_le_bytes w64 address)) ≡ true) same refl

-- VALUES, from arguments that fit and earlier results that fit
module _ (kinds : Kinds) (k : Known) (arguments : all_fit (trees_of kinds.arguments) (values.values_of k.arguments) ≡ true) (outcomes : all_fit (trees_of kinds.outcomes) (values.values_of k.outcomes) ≡ true) where
  mutual
    pub value_fits : (t : Tree) (e : Expression) → has_type kinds t e ≡ true → fits t (value_of k e) ≡ true
    value_fits t (constant bytes) h = leaf_fits t bytes h
    value_fits t (composed es) h =
        composed_fits t (values_of k es) (and_left (is_list_type t) _ h) (values_fit (trees_in t) es (and_right (is_list_type t) _ h))
    value_fits t (argument i) h = at_place kinds.arguments k.arguments i t arguments h
    value_fits t (outcome i) h = at_place kinds.outcomes k.outcomes i t outcomes h
    value_fits t user_data h = pointer_fits t k.user (types_are_same (scalar pointer) t h)
    value_fits t (element e i) h =
        element_fits (own_type kinds e) (value_of k e) i t (value_fits (own_type kinds e) e (and_right (is_at (elements_of (own_type kinds e)) i t) _ h)) (and_left (is_at (elements_of (own_type kinds e)) i t) _ h)
    value_fits t (typed_as u e) h =
        subst (λ w. fits w (value_of k e) ≡ true) (types_are_same u t (and_left _ _ h)) (value_fits u e (and_right _ _ (and_right _ _ h)))
    value_fits t (sum s e f) h =
        number_fits s t (sum_of s (bytes_of (value_of k e)) (bytes_of (value_of k f))) (length-bytes_of_number s _) (number_by_integer s t (and_left (is_integer_of s t) _ h))
    value_fits t (difference s e f) h =
        number_fits s t (difference_of s (bytes_of (value_of k e)) (bytes_of (value_of k f))) (length-bytes_of_number s _) (number_by_integer s t (and_left (is_integer_of s t) _ h))
    value_fits t (cast from to e) h =
        number_fits to t (bytes_of_number to (number_of from (bytes_of (value_of k e)))) (length-bytes_of_number to _) (and_left (is_number_of to t) _ h)

    pub values_fit : (ts : Trees) (es : Expressions) → have_types kinds ts es ≡ true → all_fit ts (values_of k es) ≡ true
    values_fit no_trees no_expressions h = refl
    values_fit (tree t ts) (expression e es) h =
        both (fits t (value_of k e)) _ (value_fits t e (and_left (has_type kinds t e) _ h)) (values_fit ts es (and_right (has_type kinds t e) _ h))
    values_fit _ _ h = cc

-- ---- moves

-- the result types of moves, and one more
pub one_more_fits : (ts : List Tree) (vs : List ValueTree) (t : Tree) (v : ValueTree) → all_fit (trees_of ts) (values.values_of vs) ≡ true → fits t v ≡ true → all_fit (trees_of (ts ++ t ∷ [])) (values.values_of (vs ++ v ∷ [])) ≡ true
one_more_fits [] [] t v h last = both (fits t v) true last refl
one_more_fits (u ∷ ts) (w ∷ vs) t v h last =
    both (fits u w) _ (and_left (fits u w) _ h) (one_more_fits ts vs t v (and_right (fits u w) _ h) last)
one_more_fits _ _ t v h last = cc

void_fits : (t : Tree) → void ≡ t → fits t void_value ≡ true
void_fits t same = subst (λ u. fits u void_value ≡ true) same refl

-- a result is of the type of the move that it answers
module _ (signatures : List Signature) (k : Known) where
  pub result_fits : (a : Act) (r : ValueTree) → IsOfType r (result_type_of signatures (move_of k a)) → fits (type_of_act signatures a) r ≡ true
  result_fits (return e) r h = absurd h
  result_fits return_void r h = absurd h
  result_fits _ r h = h

  pub none_after_return : (a : Act) (r : ValueTree) → is_return a ≡ true → ¬ IsOfType r (result_type_of signatures (move_of k a))
  none_after_return (return e) r h of_type = of_type
  none_after_return return_void r h of_type = of_type
  none_after_return _ r h of_type = cc

-- a move that is not done has the zero of its type
pub unfinished_fits : (signatures : List Signature) (a : Act) → list_all signature_is_right signatures ≡ true → fits (type_of_act signatures a) (zero_value (type_of_act signatures a)) ≡ true
unfinished_fits signatures (call to sig arguments) right =
    zero_fits (signature_at signatures sig).result_type (any_result_type_is_right signatures sig right)
unfinished_fits signatures (make function user) right = zero_fits (scalar pointer) refl
unfinished_fits signatures _ right = refl

-- each result, as far as the moves have come, is of the type of the move that it answers
abbrev pub Follow : List Signature → (List ValueTree → Move) → List ValueTree → Type 0
Follow signatures next results =
    (i : ℕ) → i < length results → IsOfType (slice_index_or results i void_value) (result_type_of signatures (next (take i results)))

module _ (s : Setting) (right : list_all signature_is_right s.signatures ≡ true) where
  -- WHAT A WELL-TYPED MOVE DOES FITS
  module _ (kinds : Kinds) (k : Known) (arguments : all_fit (trees_of kinds.arguments) (values.values_of k.arguments) ≡ true) (outcomes : all_fit (trees_of kinds.outcomes) (values.values_of k.outcomes) ≡ true) where
    pub act_fits : (a : Act) → act_is_typed s kinds a ≡ true → MoveFits s.signatures s.functions s.result_type (move_of k a)
    act_fits (call to sig es) h =
        let ts = trees_of (signature_at s.signatures sig).arguments in
        let rest = and_right (nat_lt sig (length s.signatures)) _ h in
        let each = values_fit kinds k arguments outcomes ts es (and_right (has_type kinds (scalar pointer) to) _ rest) in
        (ltb-true sig (length s.signatures) (and_left (nat_lt sig (length s.signatures)) _ h), ap (all_fit ts) (values_of-list_of_values (values_of k es)) ∙ each)
    act_fits (make function user) h =
        ltb-true function s.functions (and_left (nat_lt function s.functions) _ h)
    act_fits (free to) h = tt
    act_fits (print v) h =
        (right_by_none 0 Anywhere v.type (is_none-none (first_fault 0 Anywhere v.type) (and_left (is_laid_out v.type) _ h)), value_fits kinds k arguments outcomes v.type v.value (and_right (is_laid_out v.type) _ h))
    act_fits (return e) h = value_fits kinds k arguments outcomes s.result_type e h
    act_fits return_void h = void_fits s.result_type (types_are_same void s.result_type h)

  abbrev pub IsFitting : Move → Type 0
  IsFitting m = MoveFits s.signatures s.functions s.result_type m

  -- one move, from what holds of those after it
  one_fits : (done : Bool) (this : Move) (t : Tree) (skipped : ValueTree) (after : ValueTree → List ValueTree → Move) (results : List ValueTree) → IsFitting this → ((r : ValueTree) → IsOfType r (result_type_of s.signatures this) → fits t r ≡ true) → fits t skipped ≡ true → ((v : ValueTree) (rest : List ValueTree) → fits t v ≡ true → Follow s.signatures (after v) rest → IsFitting (after v rest)) → Follow s.signatures (next_by done this skipped after) results → IsFitting (next_by done this skipped after results)
  one_fits true this t skipped after [] here of_type skipped_is later follow = here
  one_fits true this t skipped after (r ∷ rest) here of_type skipped_is later follow =
      later r rest (of_type r (follow 0 (omega arith))) (λ i below. follow (suc i) (omega arith))
  one_fits false this t skipped after results here of_type skipped_is later follow =
      later skipped results skipped_is follow

  -- a last return
  last_fits : (kinds : Kinds) (k : Known) (condition : Option Typed) (a : Act) (skipped : ValueTree) (after : ValueTree → List ValueTree → Move) (results : List ValueTree) → (is_none condition && is_return a) ≡ true → IsFitting (move_of k a) → Follow s.signatures (next_by (is_done k condition) (move_of k a) skipped after) results → IsFitting (next_by (is_done k condition) (move_of k a) skipped after results)
  last_fits kinds k None a skipped after [] returns here follow = here
  last_fits kinds k None a skipped after (r ∷ rest) returns here follow =
      absurd (none_after_return s.signatures k a r returns (follow 0 (omega arith)))
  last_fits kinds k (Some c) a skipped after results returns here follow = cc

  -- THE NEXT MOVE FITS, after moves whose results fit
  pub moves_fit : (kinds : Kinds) (ms : List ScriptMove) (k : Known) (results : List ValueTree) → all_fit (trees_of kinds.arguments) (values.values_of k.arguments) ≡ true → all_fit (trees_of kinds.outcomes) (values.values_of k.outcomes) ≡ true → ends ms ≡ true → moves_are_typed s kinds ms ≡ true → Follow s.signatures (next_of s.signatures ms k) results → IsFitting (next_of s.signatures ms k results)
  moves_fit kinds [] k results arguments outcomes ended typed follow = cc
  moves_fit kinds (m ∷ []) k results arguments outcomes ended typed follow =
      let act = and_left (act_is_typed s kinds m.act) _ (and_right (is_condition kinds m.condition) _ typed) in
      last_fits kinds k m.condition m.act (zero_value (type_of_act s.signatures m.act)) (λ v rest. next_of s.signatures [] (knows_too k v) rest) results ended (act_fits kinds k arguments outcomes m.act act) follow
  moves_fit kinds (m ∷ n ∷ ms) k results arguments outcomes ended typed follow =
      let t = type_of_act s.signatures m.act in
      let here = and_right (is_condition kinds m.condition) _ typed in
      let act = and_left (act_is_typed s kinds m.act) _ here in
      let rest = and_right (act_is_typed s kinds m.act) _ here in
      one_fits (is_done k m.condition) (move_of k m.act) t (zero_value t) (λ v others. next_of s.signatures (n ∷ ms) (knows_too k v) others) results (act_fits kinds k arguments outcomes m.act act) (result_fits s.signatures k m.act) (unfinished_fits s.signatures m.act right) (λ v others v_fits. moves_fit (gives_too kinds t) (n ∷ ms) (knows_too k v) others arguments (one_more_fits kinds.outcomes k.outcomes t v outcomes v_fits) ended rest) follow

-- WHAT A WELL-TYPED BODY DOES NEXT FITS, after results that follow
pub body_fits : (signatures : List Signature) (functions : ℕ) (own : Signature) (ms : List ScriptMove) (arguments : List ValueTree) (user : ℕ) (results : List ValueTree) → list_all signature_is_right signatures ≡ true → body_is_typed signatures functions own ms ≡ true → all_fit (trees_of own.arguments) (values.values_of arguments) ≡ true → ((i : ℕ) → i < length results → IsOfType (slice_index_or results i void_value) (result_type_of signatures (behaviour_of signatures ms arguments user (take i results)))) → MoveFits signatures functions own.result_type (behaviour_of signatures ms arguments user results)
body_fits signatures functions own ms arguments user results right typed fit follow =
    moves_fit (record { signatures = signatures; functions = functions; result_type = own.result_type }) right (record { arguments = own.arguments; outcomes = [] }) ms (known arguments user) results fit refl (and_left (ends ms) _ typed) (and_right (ends ms) _ typed) follow
