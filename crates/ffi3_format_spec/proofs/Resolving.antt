-- Where there is nothing to resolve a type is its own resolution, and what is resolved has nothing to resolve.
use Rattle.std.proofs.Common.{◌≡◌, arith, ℕ, zero, suc, ◌<◌, Bool, true, false, ◌||◌, List, [], ◌∷◌, map, length, Some, refl, ap, ◌∙◌, subst}
use Rattle.std.specs.Prelude.{slice_get, option_and_then}
use Rattle.std.specs.List.{list_any}
use Rattle.ffi3_type_spec.specs.declared.Role.{Role}
use Rattle.ffi3_type_spec.specs.Tree.{Tree, void, scalar, left_out, structure, array, Trees, no_trees, tree, list_of, tree_at, LeftOutKind, long_double, complex, vector}
use Rattle.ffi3_type_spec.specs.Layout.{has_long_double, have_long_double}
use Rattle.ffi3_type_spec.specs.Fault.{HasNoFault, node_at, left_out_type, left_out_kind}
use Rattle.ffi3_type_spec.specs.Signature.{Signature, SignatureHasNoFault, SignatureIsPlaced, HasNoLongDouble}
use Rattle.ffi3_type_spec.proofs.LongDoubles.{neither}
use Rattle.ffi3_type_spec.proofs.Placed.{placed_is_faultless}
use Rattle.ffi3_type_spec.proofs.Right.{result_is_right, argument_is_right}
use Rattle.ffi3_format_spec.specs.declared.Format.{Format}
use Rattle.ffi3_format_spec.specs.declared.Format.TheVariants.{Double}
use Rattle.ffi3_format_spec.specs.Format.{resolved, all_resolved, resolved_signature, kind_wants_format, wants_format, want_format, signature_wants_format, left_out_by}
use Rattle.ffi3_format_spec.specs.Laws.{FormatLaws}
use Rattle.ffi3_format_spec.proofs.SameFaults.{same_first}

-- ---- nothing to resolve

own_kind : (f : Format) (k : LeftOutKind) → kind_wants_format k ≡ false → left_out_by f k ≡ left_out k
own_kind f long_double e = cc
own_kind f complex e = cc
own_kind f vector e = refl

mutual
  pub own_type : (f : Format) (t : Tree) → wants_format t ≡ false → resolved f t ≡ t
  own_type f void e = refl
  own_type f (scalar s) e = refl
  own_type f (left_out k) e = own_kind f k e
  own_type f (structure ts) e = ap structure (own_types f ts e)
  own_type f (array ts n) e = ap (λ us. array us n) (own_types f ts e)

  pub own_types : (f : Format) (ts : Trees) → want_format ts ≡ false → all_resolved f ts ≡ ts
  own_types f no_trees e = refl
  own_types f (tree t ts) e =
      let parts = neither (wants_format t) (want_format ts) e in
      ap (λ u. tree u (all_resolved f ts)) (own_type f t parts.0) ∙ ap (λ us. tree t us) (own_types f ts parts.1)

own_list : (f : Format) (ts : List Tree) → list_any wants_format ts ≡ false → map (resolved f) ts ≡ ts
own_list f [] e = refl
own_list f (t ∷ ts) e =
    let parts = neither (wants_format t) (list_any wants_format ts) e in
    ap (λ u. u ∷ map (resolved f) ts) (own_type f t parts.0) ∙ ap (λ us. t ∷ us) (own_list f ts parts.1)

-- A SIGNATURE WITHOUT LONG DOUBLES AND COMPLEX ONES IS ITS OWN RESOLUTION
pub own_signature : (f : Format) (s : Signature) → signature_wants_format s ≡ false → resolved_signature f s ≡ s
own_signature f s e =
    let parts = neither (wants_format s.result_type) (list_any wants_format s.arguments) e in
    let result : resolved f s.result_type ≡ s.result_type = own_type f s.result_type parts.0 in
    let arguments : map (resolved f) s.arguments ≡ s.arguments = own_list f s.arguments parts.1 in
    λ i. record { result_type = result i; arguments = arguments i; fixed = s.fixed }

-- ---- what is resolved

both_false : (a b : Bool) → a ≡ false → b ≡ false → (a || b) ≡ false
both_false true b first second = cc
both_false false b first second = second

settled_kind : (f : Format) (k : LeftOutKind) → wants_format (left_out_by f k) ≡ false
settled_kind Double long_double = refl
settled_kind _ long_double = refl
settled_kind _ _ = refl

mutual
  pub settled_type : (f : Format) (t : Tree) → wants_format (resolved f t) ≡ false
  settled_type f void = refl
  settled_type f (scalar s) = refl
  settled_type f (left_out k) = settled_kind f k
  settled_type f (structure ts) = settled_types f ts
  settled_type f (array ts n) = settled_types f ts

  settled_types : (f : Format) (ts : Trees) → want_format (all_resolved f ts) ≡ false
  settled_types f no_trees = refl
  settled_types f (tree t ts) =
      both_false (wants_format (resolved f t)) (want_format (all_resolved f ts)) (settled_type f t) (settled_types f ts)

settled_list : (f : Format) (ts : List Tree) → list_any wants_format (map (resolved f) ts) ≡ false
settled_list f [] = refl
settled_list f (t ∷ ts) =
    both_false (wants_format (resolved f t)) (list_any wants_format (map (resolved f) ts)) (settled_type f t) (settled_list f ts)

pub settled_signature : (f : Format) (s : Signature) → signature_wants_format (resolved_signature f s) ≡ false
settled_signature f s =
    both_false (wants_format (resolved f s.result_type)) (list_any wants_format (map (resolved f) s.arguments)) (settled_type f s.result_type) (settled_list f s.arguments)

-- RESOLVING TWICE CHANGES NOTHING
pub resolved_twice : (f g : Format) (s : Signature) → resolved_signature g (resolved_signature f s) ≡ resolved_signature f s
resolved_twice f g s = own_signature g (resolved_signature f s) (settled_signature f s)

-- ---- what can be called

-- nowhere in the type stands what is left out
abbrev NoneLeftOut : Tree → Type 0
NoneLeftOut t = (path : List ℕ) (k : LeftOutKind) → node_at path t ≡ Some (left_out k) → ⊥

abbrev NoneLeftOutIn : Trees → Type 0
NoneLeftOutIn ts =
    (i : ℕ) (path : List ℕ) (k : LeftOutKind) → option_and_then (node_at path) (slice_get (list_of ts) i) ≡ Some (left_out k) → ⊥

mutual
  wants_none : (t : Tree) → NoneLeftOut t → wants_format t ≡ false
  wants_none void none = refl
  wants_none (scalar s) none = refl
  wants_none (left_out k) none = absurd (none [] k refl)
  wants_none (structure ts) none = want_none ts (λ i path. none (i ∷ path))
  wants_none (array ts n) none = want_none ts (λ i path. none (i ∷ path))

  want_none : (ts : Trees) → NoneLeftOutIn ts → want_format ts ≡ false
  want_none no_trees none = refl
  want_none (tree t ts) none =
      both_false (wants_format t) (want_format ts) (wants_none t (λ path. none 0 path)) (want_none ts (λ i. none (suc i)))

pub right_wants_none : (outer : ℕ) (role : Role) (t : Tree) → HasNoFault outer role t → wants_format t ≡ false
right_wants_none outer role t right =
    wants_none t (λ path k is. right path (left_out_type (left_out k)) (left_out_kind is))

list_wants_none : (ts : List Tree) → ((i : ℕ) → i < length ts → wants_format (tree_at ts i) ≡ false) → list_any wants_format ts ≡ false
list_wants_none [] each = refl
list_wants_none (t ∷ ts) each =
    both_false (wants_format t) (list_any wants_format ts) (each 0 (omega arith)) (list_wants_none ts (λ i below. each (suc i) (omega (arith, below))))

pub callable_wants_none : (s : Signature) → SignatureHasNoFault s → signature_wants_format s ≡ false
callable_wants_none s right =
    both_false (wants_format s.result_type) (list_any wants_format s.arguments) (right_wants_none 0 _ s.result_type (result_is_right s right)) (list_wants_none s.arguments (λ i below. right_wants_none 0 _ (tree_at s.arguments i) (argument_is_right s right i below)))

-- WHAT CAN BE CALLED IS ITS OWN RESOLUTION
pub callable_is_own : (f : Format) (s : Signature) → SignatureHasNoFault s → resolved_signature f s ≡ s
callable_is_own f s right = own_signature f s (callable_wants_none s right)

-- ---- where a long double is a double

plain_kind : (k : LeftOutKind) → has_long_double (left_out_by Double k) ≡ false
plain_kind long_double = refl
plain_kind complex = refl
plain_kind vector = refl

mutual
  plain_type : (t : Tree) → has_long_double (resolved Double t) ≡ has_long_double t
  plain_type void = refl
  plain_type (scalar s) = refl
  plain_type (left_out k) = plain_kind k
  plain_type (structure ts) = plain_types ts
  plain_type (array ts n) = plain_types ts

  plain_types : (ts : Trees) → have_long_double (all_resolved Double ts) ≡ have_long_double ts
  plain_types no_trees = refl
  plain_types (tree t ts) =
      ap (λ b. b || have_long_double (all_resolved Double ts)) (plain_type t) ∙ ap (λ b. has_long_double t || b) (plain_types ts)

pub resolved_at : (f : Format) (ts : List Tree) (i : ℕ) → tree_at (map (resolved f) ts) i ≡ resolved f (tree_at ts i)
resolved_at f [] i = refl
resolved_at f (t ∷ ts) zero = refl
resolved_at f (t ∷ ts) (suc i) = resolved_at f ts i

pub resolved_count : (f : Format) (ts : List Tree) → length (map (resolved f) ts) ≡ length ts
resolved_count f [] = refl
resolved_count f (t ∷ ts) = ap suc (resolved_count f ts)

-- NO LONG DOUBLE OF 16 BYTES COMES IN
pub plain_signature : (s : Signature) → HasNoLongDouble s → HasNoLongDouble (resolved_signature Double s)
plain_signature s plain = record {
  result_type = plain_type s.result_type ∙ plain.result_type;
  arguments = λ i below.
      let inside : i < length s.arguments = subst (λ n. i < n) (resolved_count Double s.arguments) below in
      ap has_long_double (resolved_at Double s.arguments i) ∙ plain_type (tree_at s.arguments i) ∙ plain.arguments i inside;
}

-- so on Windows and with Apple a signature that can be placed can be called
pub placed_is_callable : (s : Signature) → HasNoLongDouble s → SignatureIsPlaced (resolved_signature Double s) → SignatureHasNoFault (resolved_signature Double s)
placed_is_callable s plain placed =
    placed_is_faultless (resolved_signature Double s) placed (plain_signature s plain)

pub format_laws : FormatLaws
format_laws = record {
  own = own_signature;
  settled = settled_signature;
  twice = resolved_twice;
  callable = callable_is_own;
  plain = plain_signature;
  narrow = placed_is_callable;
  same_first = same_first;
}
