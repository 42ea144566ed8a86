-- Nodes are those of one list of types at most.
use Rattle.std.proofs.Common.{◌≡◌, ℕ, List, [], ◌∷◌, ◌++◌, length, ap, sym, ◌∙◌, refl, arith, append_assoc}
use Rattle.std.specs.Prelude.{Option, Some, slice_get}
use Rattle.ffi3_type_spec.specs.Tree.{Tree, struct_of, array_of}
use Rattle.ffi3_nodes.specs.declared.Node.{Node}
use Rattle.ffi3_nodes.specs.declared.TheConstants.{STRUCT, ARRAY}
use Rattle.ffi3_nodes.specs.Nodes.{node, leaves, IsWritten, leaf, structure, array, AreWritten, none, one_more}
use Rattle.ffi3_nodes.proofs.Passing.{leaf_below}

heads : (m n : Node) (ms ns : List Node) → m ∷ ms ≡ n ∷ ns → (m ≡ n) × (ms ≡ ns)
heads m n ms ns e =
    let first : m ≡ n = cc e in
    let rest : ms ≡ ns = cc e in
    (first, rest)

same_kind : (k l m n : ℕ) (ms ns : List Node) → node k m ∷ ms ≡ node l n ∷ ns → (k ≡ l) × (m ≡ n) × (ms ≡ ns)
same_kind k l m n ms ns e =
    let heads_are = heads (node k m) (node l n) ms ns e in
    (ap (λ x. x.kind) heads_are.0, ap (λ x. x.count) heads_are.0, heads_are.1)

some_same : (x y : Option Tree) (t u : Tree) → x ≡ y → x ≡ Some t → y ≡ Some u → t ≡ u
some_same x y t u e f g = cc

-- the same type stands at the front, and the same nodes behind it
abbrev Agree : Tree → Tree → List Node → List Node → Type 0
Agree t u a b = (t ≡ u) × (a ≡ b)

leaf_is_no_struct : (k m n : ℕ) (t : Tree) (a b : List Node) → slice_get leaves k ≡ Some t → node k m ∷ a ≡ node STRUCT n ∷ b → ⊥
leaf_is_no_struct k m n t a b h e =
    let below = leaf_below k t h in
    let is = (same_kind k STRUCT m n a b e).0 in
    omega (arith, below, is)

leaf_is_no_array : (k m n : ℕ) (t : Tree) (a b : List Node) → slice_get leaves k ≡ Some t → node k m ∷ a ≡ node ARRAY n ∷ b → ⊥
leaf_is_no_array k m n t a b h e =
    let below = leaf_below k t h in
    let is = (same_kind k ARRAY m n a b e).0 in
    omega (arith, below, is)

struct_is_no_array : (m n : ℕ) (a b : List Node) → node STRUCT m ∷ a ≡ node ARRAY n ∷ b → ⊥
struct_is_no_array m n a b e =
    let is : STRUCT ≡ ARRAY = (same_kind STRUCT ARRAY m n a b e).0 in
    omega (arith, is)

mutual
  pub one_type : (t u : Tree) (ns ms a b : List Node) → IsWritten t ns → IsWritten u ms → ns ++ a ≡ ms ++ b → Agree t u a b
  one_type t u ns ms a b (leaf k t' h) (leaf l u' g) e =
      let same = same_kind k l 0 0 a b e in
      (some_same (slice_get leaves k) (slice_get leaves l) t u (ap (slice_get leaves) same.0) h g, same.2)
  one_type t u ns ms a b (leaf k t' h) (structure us ls w) e = absurd (leaf_is_no_struct k 0 (length us) t a (ls ++ b) h e)
  one_type t u ns ms a b (leaf k t' h) (array v n ls w) e = absurd (leaf_is_no_array k 0 n t a (ls ++ b) h e)
  one_type t u ns ms a b (structure ts ls w) (leaf k u' h) e = absurd (leaf_is_no_struct k 0 (length ts) u b (ls ++ a) h (sym e))
  one_type t u ns ms a b (structure ts ls w) (structure us ks v) e =
      let same = same_kind STRUCT STRUCT (length ts) (length us) (ls ++ a) (ks ++ b) e in
      let inside = as_many ts us ls ks a b w v same.1 same.2 in
      (ap struct_of inside.0, inside.1)
  one_type t u ns ms a b (structure ts ls w) (array v n ks x) e = absurd (struct_is_no_array (length ts) n (ls ++ a) (ks ++ b) e)
  one_type t u ns ms a b (array v n ls w) (leaf k u' h) e = absurd (leaf_is_no_array k 0 n u b (ls ++ a) h (sym e))
  one_type t u ns ms a b (array v n ls w) (structure us ks x) e = absurd (struct_is_no_array (length us) n (ks ++ b) (ls ++ a) (sym e))
  one_type t u ns ms a b (array v n ls w) (array v' n' ks x) e =
      let same = same_kind ARRAY ARRAY n n' (ls ++ a) (ks ++ b) e in
      let inside = one_type v v' ls ks a b w x same.2 in
      (ap (λ y. array_of y n) inside.0 ∙ ap (array_of v') same.1, inside.1)

  pub as_many : (ts us : List Tree) (ns ms a b : List Node) → AreWritten ts ns → AreWritten us ms → length ts ≡ length us → ns ++ a ≡ ms ++ b → (ts ≡ us) × (a ≡ b)
  as_many ts us ns ms a b none none count e = (refl, e)
  as_many ts us ns ms a b (one_more t ts' ls ks all w v f) (one_more u us' ls' ks' all' w' v' f') count e =
      let fronts : ls ++ (ks ++ a) ≡ ls' ++ (ks' ++ b) = sym (append_assoc ls ks a) ∙ ap (λ l. l ++ a) (sym f) ∙ e ∙ ap (λ l. l ++ b) f' ∙ append_assoc ls' ks' b in
      let first = one_type t u ls ls' (ks ++ a) (ks' ++ b) w w' fronts in
      let rest = as_many ts' us' ks ks' a b v v' (omega (arith, count)) first.1 in
      (ap (λ x. x ∷ ts') first.0 ∙ ap (λ xs. u ∷ xs) rest.0, rest.1)
  as_many ts us ns ms a b _ _ count e = absurd (omega (arith, count))

-- ---- all of them

no_more : (t : Tree) (ns ms : List Node) → IsWritten t ns → [] ≡ ns ++ ms → ⊥
no_more t ns ms (leaf k t' h) e = cc
no_more t ns ms _ e = cc

pub only_types : (ts us : List Tree) (ns ms : List Node) → AreWritten ts ns → AreWritten us ms → ns ≡ ms → ts ≡ us
only_types ts us ns ms none none e = refl
only_types ts us ns ms none (one_more u us' ls ks all w v f) e = absurd (no_more u ls ks w (e ∙ f))
only_types ts us ns ms (one_more t ts' ls ks all w v f) none e = absurd (no_more t ls ks w (sym e ∙ f))
only_types ts us ns ms (one_more t ts' ls ks all w v f) (one_more u us' ls' ks' all' w' v' f') e =
    let fronts : ls ++ ks ≡ ls' ++ ks' = sym f ∙ e ∙ f' in
    let first = one_type t u ls ls' ks ks' w w' fronts in
    let rest = only_types ts' us' ks ks' v v' first.1 in
    ap (λ x. x ∷ ts') first.0 ∙ ap (λ xs. u ∷ xs) rest
