-- EVERY SCRIPT THAT IS READ IS WELL TYPED: each move, each body, and the whole.
use Rattle.std.proofs.Common.{◌≡◌, ℕ, suc, ◌+◌, Bool, true, List, [], ◌∷◌, ◌++◌, length, Option, Some, None, refl, ap, ◌∙◌, sym, subst, arith}
use Rattle.std.specs.Prelude.{◌==◌, nat_lt, codes, option_and_then, position, bytes_eq, pos}
use Rattle.std.specs.List.{list_all}
use Rattle.std.proofs.lemmas.Bool.{eqb-true, lt-ltb, ltb-true}
use Rattle.std.proofs.lemmas.List.{map-append, length-map, length-append}
use Rattle.std.proofs.lemmas.List.Quantifiers.{position-Some}
use Rattle.serde_json.specs.Data.{Data, null, array, Items, no_items, item}
use Rattle.serde_json.specs.Find.{get, as_number, as_u64, as_str}
use Rattle.serde_json.specs.Events.{items_len}
use Rattle.ffi3_type_spec.specs.Tree.{Tree, void, scalar, left_out, structure, trees_of, pointer}
use Rattle.ffi3_type_spec.specs.Tree as types
use Rattle.ffi3_type_spec.specs.Integer.{is_number_type, bytes_of_number}
use Rattle.ffi3_type_spec.specs.Same.{same_tree}
use Rattle.ffi3_type_spec.specs.Signature.{Signature, signature_at}
use Rattle.ffi3_semantics_spec.specs.Move.{no_signature}
use Rattle.ffi3_type_spec.specs.FirstFault.{first_signature_fault}
use Rattle.ffi3_script_spec.specs.Language.{read, read_map, JsonPath, under, at_item, check_object, value_under, read_signature, no_such_signature, wrong_type, wrong_count, no_return_at_the_end}
use Rattle.ffi3_script_spec.specs.Script.{Expression, constant, Expressions, Typed, Act, call, return, return_void, ScriptMove, ScriptFunction, Script}
use Rattle.ffi3_script_spec.specs.Values.{Given, Scope, read_value, read_values, read_typed}
use Rattle.ffi3_script_spec.specs.Bodies.{signature_below, read_signature_number, Surroundings, Kind, call_kind, make_kind, free_kind, print_kind, return_kind, kind_of, keys_of, read_name, condition_of, read_condition, read_arguments, read_call, function_numbered, read_function, read_user, read_make, read_result, unnamed, read_act, scope_of, read_kind, read_move, type_of_act, given_by, read_moves, ends, if_ended, read_body, script_keys, function_keys, items_at, version_of, read_signatures, Heading, new_name, is_one_of, read_heading, read_headings, function_of, read_bodies, names_of, read_rest, read_script}
use Rattle.ffi3_script_spec.specs.Typed.{Kinds, has_type, have_types, is_condition, is_right, is_right_argument, is_laid_out, Setting, act_is_typed, gives_too, moves_are_typed, body_is_typed, types_of, kinds_of, scope_is_right, setting_of, signature_is_right, function_is_typed, script_is_typed}
use Rattle.ffi3_script_spec.proofs.Tests.{and_left, and_right, both}
use Rattle.ffi3_script_spec.proofs.RightTypes.{none-is_none, any_result_type_is_right, argument_types_are_right, signature_at-right}
use Rattle.ffi3_script_spec.proofs.ReadParts.{first_was_read, part_was_read, same_read, test_held}
use Rattle.ffi3_script_spec.proofs.Signatures.{read_is_right}
use Rattle.ffi3_type_spec.proofs.FirstSignatureFaults.{signature_none_found}
use Rattle.ffi3_script_spec.proofs.TypedValues.{IsOfItsType, value_is_typed, values_are_typed, typed_is_typed}

-- ---- numbers

signature_number : (count : ℕ) (i : Option ℕ) (path : JsonPath) (n : ℕ) → signature_below count i path ≡ read n → nat_lt n count ≡ true
signature_number count None path n h = cc
signature_number count (Some i) path n h =
    let held = test_held (nat_lt i count) (read i) path no_such_signature n h in
    subst (λ m. nat_lt m count ≡ true) (same_read i n held.1) held.0

function_found : (names : List (List ℕ)) (p : List ℕ → Bool) (i : Option ℕ) (path : JsonPath) (n : ℕ) → position p names ≡ i → function_numbered i path ≡ read n → nat_lt n (length names) ≡ true
function_found names p None path n is h = cc
function_found names p (Some i) path n is h =
    subst (λ m. nat_lt m (length names) ≡ true) (same_read i n h) (lt-ltb i (length names) (position-Some p names i [] is).0)

function_number : (names : List (List ℕ)) (name : Option (List ℕ)) (path : JsonPath) (n : ℕ) → read_function names name path ≡ read n → nat_lt n (length names) ≡ true
function_number names None path n h = cc
function_number names (Some name) path n h =
    function_found names (bytes_eq name) (position (bytes_eq name) names) path n refl h

-- ---- moves

module _ (scope : Scope) (right : scope_is_right scope ≡ true) where
  abbrev kinds : Kinds
  kinds = kinds_of scope

  conditioned : (path : JsonPath) (v : Typed) (c : Option Typed) → IsOfItsType kinds v → condition_of path v ≡ read c → is_condition kinds c ≡ true
  conditioned path v c good h =
      let held = test_held (is_number_type v.type) (read (Some v)) path wrong_type c h in
      subst (λ o. is_condition kinds o ≡ true) (same_read (Some v) c held.1) (both (is_number_type v.type) _ held.0 good.has_it)

  pub condition_is_typed : (d : Option Data) (path : JsonPath) (c : Option Typed) → read_condition scope d path ≡ read c → is_condition kinds c ≡ true
  condition_is_typed None path c h =
      subst (λ o. is_condition kinds o ≡ true) (same_read None c h) refl
  condition_is_typed (Some d) path c h =
      let was = first_was_read (condition_of path) (read_typed scope d path) c h in
      conditioned path was.0 c (typed_is_typed scope right d path was.0 was.1) was.2

  pub arguments_are_typed : (ts : List Tree) (d : Data) (path : JsonPath) (es : Expressions) → read_arguments scope ts d path ≡ read es → have_types kinds (trees_of ts) es ≡ true
  arguments_are_typed ts (array ds) path es h =
      let held = test_held (items_len ds == length ts) (read_values scope ts ds path 0) path wrong_count es h in
      values_are_typed scope right ts ds path 0 es (eqb-true (items_len ds) (length ts) held.0) held.1
  arguments_are_typed ts _ path es h = cc

  user_is_typed : (d : Option Data) (path : JsonPath) (e : Expression) → read_user scope d path ≡ read e → has_type kinds (scalar pointer) e ≡ true
  user_is_typed None path e h =
      subst (λ f. has_type kinds (scalar pointer) f ≡ true) (same_read (constant (bytes_of_number pointer (pos 0))) e h) refl
  user_is_typed (Some d) path e h = value_is_typed scope right (scalar pointer) d path e h

  module _ (s : Setting) where
    return_is_typed : (t : Tree) (d : Data) (path : JsonPath) (a : Act) → s.result_type ≡ t → read_map return (read_value scope t d path) ≡ read a → act_is_typed s kinds a ≡ true
    return_is_typed t d path a is h =
        let part = part_was_read return (read_value scope t d path) a h in
        subst (λ b. act_is_typed s kinds b ≡ true) part.2 (subst (λ u. has_type kinds u part.0 ≡ true) (sym is) (value_is_typed scope right t d path part.0 part.1))

    pub result_is_typed : (t : Tree) (d : Data) (path : JsonPath) (a : Act) → s.result_type ≡ t → read_result scope t d path ≡ read a → act_is_typed s kinds a ≡ true
    result_is_typed void null path a is h =
        subst (λ b. act_is_typed s kinds b ≡ true) (same_read return_void a h) (ap (same_tree void) is)
    result_is_typed (scalar r) d path a is h = return_is_typed (scalar r) d path a is h
    result_is_typed (left_out k) d path a is h = return_is_typed (left_out k) d path a is h
    result_is_typed (structure ts) d path a is h = return_is_typed (structure ts) d path a is h
    result_is_typed (types.array ts n) d path a is h =
        return_is_typed (types.array ts n) d path a is h
    result_is_typed void _ path a is h = cc

-- a move has its types, in these surroundings and after moves that give these results
pub record IsTypedMove (s : Surroundings) (given : List Given) (m : ScriptMove) : Type 0 where
  pub condition : is_condition (kinds_of (scope_of s given)) m.condition ≡ true
  pub act : act_is_typed (setting_of s) (kinds_of (scope_of s given)) m.act ≡ true

module _ (s : Surroundings) (given : List Given) (right : scope_is_right (scope_of s given) ≡ true) where
  abbrev here : Scope
  here = scope_of s given

  call_is_typed : (c : Option Typed) (d : Data) (path : JsonPath) (m : ScriptMove) → is_condition (kinds_of here) c ≡ true → read_call s given here c d path ≡ read m → IsTypedMove s given m
  call_is_typed c d path m of_condition h =
      let to = first_was_read _ (read_value here (scalar pointer) (value_under (codes "call") d) (under path (codes "call"))) m h in
      let sig = first_was_read _ (read_signature_number (length s.signatures) (value_under (codes "sig") d) (under path (codes "sig"))) m to.2 in
      let ts = (signature_at s.signatures sig.0).arguments in
      let arguments = first_was_read _ (read_arguments here ts (value_under (codes "args") d) (under path (codes "args"))) m sig.2 in
      let name = part_was_read _ (read_name given (signature_at s.signatures sig.0).result_type (get (codes "as") d) (under path (codes "as"))) m arguments.2 in
      let below = signature_number (length s.signatures) (option_and_then as_u64 (as_number (value_under (codes "sig") d))) (under path (codes "sig")) sig.0 sig.1 in
      let to_is = value_is_typed here right (scalar pointer) (value_under (codes "call") d) (under path (codes "call")) to.0 to.1 in
      let each = arguments_are_typed here right ts (value_under (codes "args") d) (under path (codes "args")) arguments.0 arguments.1 in
      subst (IsTypedMove s given) name.2 (record { condition = of_condition; act = both (nat_lt sig.0 (length s.signatures)) _ below (both (has_type (kinds_of here) (scalar pointer) to.0) _ to_is each) })

  make_is_typed : (c : Option Typed) (d : Data) (path : JsonPath) (m : ScriptMove) → is_condition (kinds_of here) c ≡ true → read_make s given here c d path ≡ read m → IsTypedMove s given m
  make_is_typed c d path m of_condition h =
      let name_of = as_str (value_under (codes "make") d) in
      let number_of = first_was_read _ (read_function s.functions name_of (under path (codes "make"))) m h in
      let user = first_was_read _ (read_user here (get (codes "user") d) (under path (codes "user"))) m number_of.2 in
      let name = part_was_read _ (read_name given (scalar pointer) (get (codes "as") d) (under path (codes "as"))) m user.2 in
      let below = function_number s.functions name_of (under path (codes "make")) number_of.0 number_of.1 in
      let user_is = user_is_typed here right (get (codes "user") d) (under path (codes "user")) user.0 user.1 in
      subst (IsTypedMove s given) name.2 (record { condition = of_condition; act = both (nat_lt number_of.0 (length s.functions)) _ below user_is })

  free_is_typed : (c : Option Typed) (d : Data) (path : JsonPath) (m : ScriptMove) → is_condition (kinds_of here) c ≡ true → read_act s given here free_kind d path c ≡ read m → IsTypedMove s given m
  free_is_typed c d path m of_condition h =
      let to = part_was_read _ (read_value here (scalar pointer) (value_under (codes "free") d) (under path (codes "free"))) m h in
      subst (IsTypedMove s given) to.2 (record { condition = of_condition; act = value_is_typed here right (scalar pointer) (value_under (codes "free") d) (under path (codes "free")) to.0 to.1 })

  print_is_typed : (c : Option Typed) (d : Data) (path : JsonPath) (m : ScriptMove) → is_condition (kinds_of here) c ≡ true → read_act s given here print_kind d path c ≡ read m → IsTypedMove s given m
  print_is_typed c d path m of_condition h =
      let what = part_was_read _ (read_typed here (value_under (codes "print") d) (under path (codes "print"))) m h in
      let good = typed_is_typed here right (value_under (codes "print") d) (under path (codes "print")) what.0 what.1 in
      subst (IsTypedMove s given) what.2 (record { condition = of_condition; act = both (is_laid_out what.0.type) _ good.is_fit good.has_it })

  act_is : (kind : Kind) (d : Data) (path : JsonPath) (c : Option Typed) (m : ScriptMove) → is_condition (kinds_of here) c ≡ true → read_act s given here kind d path c ≡ read m → IsTypedMove s given m
  act_is call_kind d path c m of_condition h = call_is_typed c d path m of_condition h
  act_is make_kind d path c m of_condition h = make_is_typed c d path m of_condition h
  act_is free_kind d path c m of_condition h = free_is_typed c d path m of_condition h
  act_is print_kind d path c m of_condition h = print_is_typed c d path m of_condition h
  act_is return_kind d path c m of_condition h =
      let place = under path (codes "return") in
      let what = part_was_read (unnamed c) (read_result here s.own.result_type (value_under (codes "return") d) place) m h in
      subst (IsTypedMove s given) what.2 (record { condition = of_condition; act = result_is_typed here right (setting_of s) s.own.result_type (value_under (codes "return") d) place what.0 refl what.1 })

  kind_is_typed : (d : Data) (path : JsonPath) (kind : Option Kind) (m : ScriptMove) → read_kind s given d path kind ≡ read m → IsTypedMove s given m
  kind_is_typed d path None m h = absurd (cc)
  kind_is_typed d path (Some kind) m h =
      let checked = first_was_read _ (check_object d (keys_of kind) path) m h in
      let place = under path (codes "when") in
      let c = first_was_read (read_act s given here kind d path) (read_condition here (get (codes "when") d) place) m checked.2 in
      act_is kind d path c.0 m (condition_is_typed here right (get (codes "when") d) place c.0 c.1) c.2

  -- A MOVE THAT IS READ HAS ITS TYPES
  pub move_is_typed : (d : Data) (path : JsonPath) (m : ScriptMove) → read_move s given d path ≡ read m → IsTypedMove s given m
  move_is_typed d path m h = kind_is_typed d path (kind_of d) m h

-- ---- bodies

-- the scope after one more move
type_is_right : (signatures : List Signature) (a : Act) → list_all signature_is_right signatures ≡ true → is_right (type_of_act signatures a) ≡ true
type_is_right signatures (call to sig arguments) right = any_result_type_is_right signatures sig right
type_is_right signatures _ right = refl

types_given : (given : List Given) (g : Given) → types_of (given ++ g ∷ []) ≡ types_of given ++ g.type ∷ []
types_given given g = map-append (λ f. f.type) given (g ∷ [])

passes_one_more : (p : Tree → Bool) (ts : List Tree) (t : Tree) → list_all p ts ≡ true → p t ≡ true → list_all p (ts ++ t ∷ []) ≡ true
passes_one_more p [] t each last = both (p t) true last refl
passes_one_more p (u ∷ ts) t each last =
    both (p u) _ (and_left (p u) _ each) (passes_one_more p ts t (and_right (p u) _ each) last)

module _ (s : Surroundings) (right : list_all signature_is_right s.signatures ≡ true) (right_arguments : list_all is_right_argument s.own.arguments ≡ true) where
  -- MOVES THAT ARE READ HAVE THEIR TYPES
  pub moves_are_well_typed : (given : List Given) (ds : Items) (path : JsonPath) (i : ℕ) (ms : List ScriptMove) → list_all is_right (types_of given) ≡ true → read_moves s given ds path i ≡ read ms → moves_are_typed (setting_of s) (kinds_of (scope_of s given)) ms ≡ true
  moves_are_well_typed given no_items path i ms right_given h =
      subst (λ ns. moves_are_typed (setting_of s) (kinds_of (scope_of s given)) ns ≡ true) (same_read [] ms h) refl
  moves_are_well_typed given (item d ds) path i ms right_given h =
      let m = first_was_read _ (read_move s given d (at_item path i)) ms h in
      let g = given_by s.signatures m.0 in
      let rest = part_was_read _ (read_moves s (given ++ g ∷ []) ds path (i + 1)) ms m.2 in
      let scope_right = both (list_all is_right_argument s.own.arguments) _ right_arguments right_given in
      let good = move_is_typed s given scope_right d (at_item path i) m.0 m.1 in
      let later : list_all is_right (types_of (given ++ g ∷ [])) ≡ true = ap (list_all is_right) (types_given given g) ∙ passes_one_more is_right (types_of given) g.type right_given (type_is_right s.signatures m.0.act right) in
      let others = moves_are_well_typed (given ++ g ∷ []) ds path (i + 1) rest.0 later rest.1 in
      let others_here : moves_are_typed (setting_of s) (gives_too (kinds_of (scope_of s given)) g.type) rest.0 ≡ true = subst (λ ts. moves_are_typed (setting_of s) (record { arguments = s.own.arguments; outcomes = ts }) rest.0 ≡ true) (types_given given g) others in
      subst (λ ns. moves_are_typed (setting_of s) (kinds_of (scope_of s given)) ns ≡ true) rest.2 (both (is_condition (kinds_of (scope_of s given)) m.0.condition) _ good.condition (both (act_is_typed (setting_of s) (kinds_of (scope_of s given)) m.0.act) _ good.act others_here))

  -- A BODY THAT IS READ IS WELL TYPED
  pub body_is_well_typed : (d : Data) (path : JsonPath) (ms : List ScriptMove) → read_body s d path ≡ read ms → body_is_typed s.signatures (length s.functions) s.own ms ≡ true
  body_is_well_typed (array ds) path ms h =
      let was = first_was_read (if_ended path) (read_moves s [] ds path 0) ms h in
      let held = test_held (ends was.0) (read was.0) path no_return_at_the_end ms was.2 in
      subst (λ ns. body_is_typed s.signatures (length s.functions) s.own ns ≡ true) (same_read was.0 ms held.1) (both (ends was.0) _ held.0 (moves_are_well_typed [] ds path 0 was.0 refl was.1))
  body_is_well_typed _ path ms h = cc

-- ---- the whole

-- A SIGNATURE THAT IS READ IS RIGHT
pub signature_is_well_typed : (version : ℕ) (d : Data) (path : JsonPath) (s : Signature) → read_signature version d path ≡ read s → signature_is_right s ≡ true
signature_is_well_typed version d path s h =
    none-is_none (first_signature_fault s) (signature_none_found s (read_is_right version d path s h))

pub signatures_are_well_typed : (version : ℕ) (ds : Items) (path : JsonPath) (i : ℕ) (ss : List Signature) → read_signatures version ds path i ≡ read ss → list_all signature_is_right ss ≡ true
signatures_are_well_typed version no_items path i ss h =
    subst (λ rs. list_all signature_is_right rs ≡ true) (same_read [] ss h) refl
signatures_are_well_typed version (item d ds) path i ss h =
    let s = first_was_read _ (read_signature version d (at_item path i)) ss h in
    let rest = part_was_read _ (read_signatures version ds path (i + 1)) ss s.2 in
    subst (λ rs. list_all signature_is_right rs ≡ true) rest.2 (both (signature_is_right s.0) _ (signature_is_well_typed version d (at_item path i) s.0 s.1) (signatures_are_well_typed version ds path (i + 1) rest.0 rest.1))

-- the numbers of the functions' signatures lie in their list
abbrev pub AreNumbered : ℕ → List Heading → Type 0
AreNumbered count hs = list_all (λ h. nat_lt h.signature count) hs ≡ true

heading_is_numbered : (count : ℕ) (earlier : List (List ℕ)) (d : Data) (path : JsonPath) (h : Heading) → read_heading count earlier d path ≡ read h → nat_lt h.signature count ≡ true
heading_is_numbered count earlier d path h e =
    let checked = first_was_read _ (check_object d function_keys path) h e in
    let name = first_was_read _ (new_name (is_one_of earlier) (as_str (value_under (codes "name") d)) (under path (codes "name"))) h checked.2 in
    let sig = part_was_read _ (read_signature_number count (value_under (codes "sig") d) (under path (codes "sig"))) h name.2 in
    let below = signature_number count (option_and_then as_u64 (as_number (value_under (codes "sig") d))) (under path (codes "sig")) sig.0 sig.1 in
    subst (λ g. nat_lt g.signature count ≡ true) sig.2 below

pub headings_are_numbered : (count : ℕ) (earlier : List (List ℕ)) (ds : Items) (path : JsonPath) (i : ℕ) (hs : List Heading) → read_headings count earlier ds path i ≡ read hs → AreNumbered count hs × (length hs ≡ items_len ds)
headings_are_numbered count earlier no_items path i hs e =
    subst (λ gs. AreNumbered count gs × (length gs ≡ 0)) (same_read [] hs e) (refl, refl)
headings_are_numbered count earlier (item d ds) path i hs e =
    let h = first_was_read _ (read_heading count earlier d (at_item path i)) hs e in
    let rest = part_was_read _ (read_headings count (earlier ++ h.0.name ∷ []) ds path (i + 1)) hs h.2 in
    let others = headings_are_numbered count (earlier ++ h.0.name ∷ []) ds path (i + 1) rest.0 rest.1 in
    subst (λ gs. AreNumbered count gs × (length gs ≡ items_len (item d ds))) rest.2 (both (nat_lt h.0.signature count) _ (heading_is_numbered count earlier d (at_item path i) h.0 h.1) others.0, ap suc others.1)

module _ (version : ℕ) (signatures : List Signature) (names : List (List ℕ)) (right : list_all signature_is_right signatures ≡ true) where
  abbrev pub AreTyped : List ScriptFunction → Type 0
  AreTyped fs = list_all (function_is_typed signatures (length names)) fs ≡ true

  -- one function for each name and signature
  pub bodies_are_well_typed : (hs : List Heading) (ds : Items) (path : JsonPath) (i : ℕ) (fs : List ScriptFunction) → AreNumbered (length signatures) hs → length hs ≡ items_len ds → read_bodies version signatures names hs ds path i ≡ read fs → AreTyped fs × (length fs ≡ length hs)
  bodies_are_well_typed [] no_items path i fs numbered count e =
      subst (λ gs. AreTyped gs × (length gs ≡ 0)) (same_read [] fs e) (refl, refl)
  bodies_are_well_typed (h ∷ hs) (item d ds) path i fs numbered count e =
      let own = signature_at signatures h.signature in
      let surroundings : Surroundings = record { version = version; signatures = signatures; functions = names; own = own } in
      let place = under (at_item path i) (codes "body") in
      let moves = first_was_read _ (read_body surroundings (value_under (codes "body") d) place) fs e in
      let rest = part_was_read _ (read_bodies version signatures names hs ds path (i + 1)) fs moves.2 in
      let below = and_left (nat_lt h.signature (length signatures)) _ numbered in
      let right_own = argument_types_are_right own (signature_at-right signatures h.signature right (ltb-true h.signature (length signatures) below)) in
      let body = body_is_well_typed surroundings right right_own (value_under (codes "body") d) place moves.0 moves.1 in
      let others = bodies_are_well_typed hs ds path (i + 1) rest.0 (and_right (nat_lt h.signature (length signatures)) _ numbered) (omega arith) rest.1 in
      subst (λ gs. AreTyped gs × (length gs ≡ length (h ∷ hs))) rest.2 (both (function_is_typed signatures (length names) (function_of h moves.0)) _ (both (nat_lt h.signature (length signatures)) _ below body) others.0, ap suc others.1)
  bodies_are_well_typed _ _ path i fs numbered count e = absurd (omega arith)

-- as many names as functions and natives
names_count : (hs : List Heading) (natives : List (List ℕ)) → length (names_of hs ++ natives) ≡ length hs + length natives
names_count hs natives =
    length-append (names_of hs) natives ∙ ap (λ n. n + length natives) (length-map hs (λ h. h.name))

-- the bodies, and then main
rest_is_well_typed : (natives : List (List ℕ)) (d : Data) (version : ℕ) (signatures : List Signature) (fs : Items) (hs : List Heading) (s : Script) → list_all signature_is_right signatures ≡ true → AreNumbered (length signatures) hs → length hs ≡ items_len fs → read_rest natives d version signatures fs hs ≡ read s → script_is_typed (length natives) s ≡ true
rest_is_well_typed natives d version signatures fs hs s right numbered count e =
    let names = names_of hs ++ natives in
    let surroundings : Surroundings = record { version = version; signatures = signatures; functions = names; own = no_signature } in
    let place = under [] (codes "main") in
    let functions = first_was_read _ (read_bodies version signatures names hs fs (under [] (codes "functions")) 0) s e in
    let main = part_was_read _ (read_body surroundings (value_under (codes "main") d) place) s functions.2 in
    let each = bodies_are_well_typed version signatures names right hs fs (under [] (codes "functions")) 0 functions.0 numbered count functions.1 in
    let body = body_is_well_typed surroundings right refl (value_under (codes "main") d) place main.0 main.1 in
    let as_many : length names ≡ length functions.0 + length natives = names_count hs natives ∙ ap (λ n. n + length natives) (sym each.1) in
    let each_is : list_all (function_is_typed signatures (length functions.0 + length natives)) functions.0 ≡ true = subst (λ n. list_all (function_is_typed signatures n) functions.0 ≡ true) as_many each.0 in
    let main_is : body_is_typed signatures (length functions.0 + length natives) no_signature main.0 ≡ true = subst (λ n. body_is_typed signatures n no_signature main.0 ≡ true) as_many body in
    subst (λ r. script_is_typed (length natives) r ≡ true) main.2 (both (list_all signature_is_right signatures) _ right (both (list_all (function_is_typed signatures (length functions.0 + length natives)) functions.0) _ each_is main_is))

-- A SCRIPT THAT IS READ IS WELL TYPED
pub script_is_well_typed : (natives : List (List ℕ)) (d : Data) (s : Script) → read_script natives d ≡ read s → script_is_typed (length natives) s ≡ true
script_is_well_typed natives d s e =
    let checked = first_was_read _ (check_object d script_keys []) s e in
    let version = first_was_read _ (version_of (option_and_then as_u64 (as_number (value_under (codes "version") d))) (under [] (codes "version"))) s checked.2 in
    let ss = first_was_read _ (items_at (value_under (codes "signatures") d) (under [] (codes "signatures"))) s version.2 in
    let signatures = first_was_read _ (read_signatures version.0 ss.0 (under [] (codes "signatures")) 0) s ss.2 in
    let fs = first_was_read _ (items_at (value_under (codes "functions") d) (under [] (codes "functions"))) s signatures.2 in
    let hs = first_was_read (read_rest natives d version.0 signatures.0 fs.0) (read_headings (length signatures.0) [] fs.0 (under [] (codes "functions")) 0) s fs.2 in
    let right = signatures_are_well_typed version.0 ss.0 (under [] (codes "signatures")) 0 signatures.0 signatures.1 in
    let numbered = headings_are_numbered (length signatures.0) [] fs.0 (under [] (codes "functions")) 0 hs.0 hs.1 in
    rest_is_well_typed natives d version.0 signatures.0 fs.0 hs.0 s right numbered.0 numbered.1 hs.2
