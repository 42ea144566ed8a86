-- The fold over the nodes of a type leaves open what was open, with one fewer wanted.
use Rattle.std.proofs.Common.{◌≡◌, ◌⊎◌, inl, inr, ℕ, zero, suc, ◌+◌, ◌-◌, ◌<◌, ◌≤◌, ◌&&◌, Bool, true, false, not, cond, List, [], ◌∷◌, ◌++◌, length, ap, ◌∙◌, refl, arith, subst, append_assoc}
use Rattle.std.proofs.lemmas.Bool.{ne_eqb, le-leb, lt-leb}
use Rattle.std.specs.Prelude.{Option, Some, None, slice_get, nat_le, ◌==◌}
use Rattle.ffi3_type_spec.specs.Tree.{Tree}
use Rattle.ffi3_nodes.specs.declared.Node.{Node}
use Rattle.ffi3_nodes.specs.declared.TheConstants.{STRUCT, ARRAY, DEEPEST}
use Rattle.ffi3_nodes.specs.Nodes.{node, leaves, IsWritten, leaf, structure, array, AreWritten, none, one_more}
use Rattle.ffi3_nodes.specs.Faults.{NodeFault, unknown_kind, bad_count, too_deep, begun, closed, opened, open_after, has_count, fault_at, fault_from, or_else}

-- Nodes at the front of others are passed: the first fault is that of the others, behind them, or the nesting is too deep.
pub data Passes (ks : List ℕ) (at : ℕ) (all : List Node) (left : List ℕ) (rest : List Node) : Type 0 where
  goes_on : (next : ℕ) → fault_from ks at all ≡ fault_from left next rest → Passes ks at all left rest
  is_deep : (i : ℕ) → fault_from ks at all ≡ Some (too_deep i) → Passes ks at all left rest

same_passes : (ks : List ℕ) (at : ℕ) (all all' : List Node) (left : List ℕ) (rest : List Node) → fault_from ks at all ≡ fault_from ks at all' → Passes ks at all' left rest → Passes ks at all left rest
same_passes ks at all all' left rest e (goes_on next h) = goes_on next (e ∙ h)
same_passes ks at all all' left rest e (is_deep i h) = is_deep i (e ∙ h)

then_passes : (ks : List ℕ) (at : ℕ) (all : List Node) (mid : List ℕ) (more : List Node) (left : List ℕ) (rest : List Node) → Passes ks at all mid more → ((next : ℕ) → Passes mid next more left rest) → Passes ks at all left rest
then_passes ks at all mid more left rest (is_deep i h) f = is_deep i h
then_passes ks at all mid more left rest (goes_on next h) f = go (f next)
  where
    go : Passes mid next more left rest → Passes ks at all left rest
    go (goes_on later g) = goes_on later (h ∙ g)
    go (is_deep i g) = is_deep i (h ∙ g)

-- ---- one node

below_length : {A : Type 0} (xs : List A) (i : ℕ) (x : A) → slice_get xs i ≡ Some x → i < length xs
below_length [] i x h = cc
below_length (y ∷ ys) zero x h = omega arith
below_length (y ∷ ys) (suc i) x h = omega (arith, below_length ys i x h)

pub leaf_below : (k : ℕ) (t : Tree) → slice_get leaves k ≡ Some t → k < STRUCT
leaf_below k t h = below_length leaves k t h

leaf_opens : (k : ℕ) (ks : List ℕ) → k < STRUCT → opened (node k 0) ks ≡ ks
leaf_opens k ks h =
    let no_struct : (k ≡ STRUCT → ⊥) = λ e. omega (arith, e) in
    let no_array : (k ≡ ARRAY → ⊥) = λ e. omega (arith, e) in
    ap (λ b. cond b (0 ∷ ks) (cond (k == ARRAY) (1 ∷ ks) ks)) (ne_eqb k STRUCT no_struct)
    ∙ ap (λ b. cond b (1 ∷ ks) ks) (ne_eqb k ARRAY no_array)

leaf_fine : (k depth at : ℕ) → k < STRUCT → fault_at depth at (node k 0) ≡ None
leaf_fine k depth at h =
    let within : k ≤ ARRAY = omega arith in
    ap (λ b. cond (not b) (Some (unknown_kind at)) (cond (not (has_count k) && not (0 == 0)) (Some (bad_count at)) (cond (has_count k && nat_le DEEPEST depth) (Some (too_deep at)) None))) (le-leb k ARRAY within)
    ∙ ap (λ b. cond (not b && not (0 == 0)) (Some (bad_count at)) (cond (b && nat_le DEEPEST depth) (Some (too_deep at)) None)) (lt-leb STRUCT k h)

pub leaf_goes : (ks : List ℕ) (at k : ℕ) (rest : List Node) → k < STRUCT → fault_from ks at (node k 0 ∷ rest) ≡ fault_from (closed (begun ks)) (at + 1) rest
leaf_goes ks at k rest h =
    ap (λ f. or_else f (fault_from (open_after ks (node k 0)) (at + 1) rest)) (leaf_fine k (length ks) at h)
    ∙ ap (λ l. fault_from (closed l) (at + 1) rest) (leaf_opens k (begun ks) h)

leaf_passes : (ks : List ℕ) (at k : ℕ) (rest : List Node) → k < STRUCT → Passes ks at (node k 0 ∷ rest) (closed (begun ks)) rest
leaf_passes ks at k rest h = goes_on (at + 1) (leaf_goes ks at k rest h)

-- a struct or an array begins, unless it is too deep
deep_or : (b : Bool) (at : ℕ) (later : Option NodeFault) → (or_else (cond b (Some (too_deep at)) None) later ≡ later) ⊎ (or_else (cond b (Some (too_deep at)) None) later ≡ Some (too_deep at))
deep_or true at later = inr refl
deep_or false at later = inl refl

as_passes : (ks : List ℕ) (at : ℕ) (all : List Node) (left : List ℕ) (rest : List Node) → (fault_from ks at all ≡ fault_from left (at + 1) rest) ⊎ (fault_from ks at all ≡ Some (too_deep at)) → Passes ks at all left rest
as_passes ks at all left rest (inl e) = goes_on (at + 1) e
as_passes ks at all left rest (inr e) = is_deep at e

struct_begins : (ks : List ℕ) (at n : ℕ) (rest : List Node) → Passes ks at (node STRUCT n ∷ rest) (closed (n ∷ begun ks)) rest
struct_begins ks at n rest =
    as_passes ks at (node STRUCT n ∷ rest) (closed (n ∷ begun ks)) rest
    (deep_or (nat_le DEEPEST (length ks)) at (fault_from (closed (n ∷ begun ks)) (at + 1) rest))

array_begins : (ks : List ℕ) (at n : ℕ) (rest : List Node) → Passes ks at (node ARRAY n ∷ rest) (closed (1 ∷ begun ks)) rest
array_begins ks at n rest =
    as_passes ks at (node ARRAY n ∷ rest) (closed (1 ∷ begun ks)) rest
    (deep_or (nat_le DEEPEST (length ks)) at (fault_from (closed (1 ∷ begun ks)) (at + 1) rest))

-- ---- the nodes of a type, and of types one after another

-- what is open when so many types have passed
abbrev pub after_types : ℕ → List ℕ → List ℕ
after_types zero ks = ks
after_types (suc n) ks = after_types n (closed (begun ks))

pub one_fewer : (n : ℕ) (ks : List ℕ) → closed (begun (suc n ∷ ks)) ≡ closed (n ∷ ks)
one_fewer n ks =
    let less : suc n - 1 ≡ n = omega arith in
    ap (λ m. closed (m ∷ ks)) less

mutual
  pub type_passes : (ks : List ℕ) (at : ℕ) (t : Tree) (ns rest : List Node) → IsWritten t ns → Passes ks at (ns ++ rest) (closed (begun ks)) rest
  type_passes ks at t ns rest (leaf k t' e) = leaf_passes ks at k rest (leaf_below k t' e)
  type_passes ks at t ns rest (structure ts ms w) =
      then_passes ks at (node STRUCT (length ts) ∷ (ms ++ rest)) (closed (length ts ∷ begun ks)) (ms ++ rest) (closed (begun ks)) rest
      (struct_begins ks at (length ts) (ms ++ rest))
      (λ next. types_inside (begun ks) next ts ms rest w)
  type_passes ks at t ns rest (array u n ms w) =
      then_passes ks at (node ARRAY n ∷ (ms ++ rest)) (1 ∷ begun ks) (ms ++ rest) (closed (begun ks)) rest
      (array_begins ks at n (ms ++ rest))
      (λ next. type_passes (1 ∷ begun ks) next u ms rest w)

  -- inside a struct that wants just these
  pub types_inside : (ks : List ℕ) (at : ℕ) (ts : List Tree) (ns rest : List Node) → AreWritten ts ns → Passes (closed (length ts ∷ ks)) at (ns ++ rest) (closed ks) rest
  types_inside ks at ts ns rest none = goes_on at refl
  types_inside ks at ts ns rest (one_more u us ms ls all w ws e) =
      same_passes (suc (length us) ∷ ks) at (all ++ rest) (ms ++ (ls ++ rest)) (closed ks) rest
      (ap (λ l. fault_from (suc (length us) ∷ ks) at l) (ap (λ l. l ++ rest) e ∙ append_assoc ms ls rest))
      (then_passes (suc (length us) ∷ ks) at (ms ++ (ls ++ rest)) (closed (length us ∷ ks)) (ls ++ rest) (closed ks) rest
      (subst (λ left. Passes (suc (length us) ∷ ks) at (ms ++ (ls ++ rest)) left (ls ++ rest)) (one_fewer (length us) ks) (type_passes (suc (length us) ∷ ks) at u ms (ls ++ rest) w))
      (λ next. types_inside ks next us ls rest ws))

pub types_pass : (ks : List ℕ) (at : ℕ) (ts : List Tree) (ns rest : List Node) → AreWritten ts ns → Passes ks at (ns ++ rest) (after_types (length ts) ks) rest
types_pass ks at ts ns rest none = goes_on at refl
types_pass ks at ts ns rest (one_more u us ms ls all w ws e) =
    same_passes ks at (all ++ rest) (ms ++ (ls ++ rest)) (after_types (length us) (closed (begun ks))) rest
    (ap (λ l. fault_from ks at l) (ap (λ l. l ++ rest) e ∙ append_assoc ms ls rest))
    (then_passes ks at (ms ++ (ls ++ rest)) (closed (begun ks)) (ls ++ rest) (after_types (length us) (closed (begun ks))) rest
    (type_passes ks at u ms (ls ++ rest) w)
    (λ next. types_pass (closed (begun ks)) next us ls rest ws))
