-- Nodes without a fault are types: each node has enough of them behind it.
use Rattle.std.proofs.Common.{◌≡◌, ℕ, zero, suc, ◌+◌, ◌-◌, ◌<◌, ◌≤◌, Bool, cond, not, ◌&&◌, List, [], ◌∷◌, ◌++◌, take, drop, length, get_or, ap, sym, ◌∙◌, refl, arith, subst, append_assoc, append-nil, length-append}
use Rattle.std.proofs.lemmas.List.{drop_more, drop_all}
use Rattle.std.proofs.lemmas.Bool.{leb-true}
use Rattle.std.specs.Prelude.{IfOk, Result, Ok, Err, Option, Some, None, slice_get, nat_le, ◌==◌, true, false}
use Rattle.ffi3_type_spec.specs.Tree.{Tree, struct_of, array_of, array as array_tree, trees_of}
use Rattle.ffi3_type_spec.specs.Signature.{Signature}
use Rattle.ffi3_nodes.specs.declared.Node.{Node}
use Rattle.ffi3_nodes.specs.declared.TheConstants.{STRUCT, ARRAY, DEEPEST}
use Rattle.ffi3_nodes.specs.Nodes.{node, leaves, IsWritten, leaf, structure, array, AreWritten, none, one_more, IsSignatureOf}
use Rattle.ffi3_nodes.specs.Faults.{NodeFault, ended, unknown_kind, bad_count, too_deep, begun, closed, opened, open_after, is_kind, has_count, fault_at, fault_at_end, fault_from, or_else, first_node_fault}
use Rattle.ffi3_nodes.specs.Read.{Fits, IsOfNone, node_fault_of}
use Rattle.ffi3_nodes.specs.declared.scan.NodeFault as code
use Rattle.ffi3_nodes.specs.declared.scan.NodeFault.TheVariants.{Ended, UnknownKind, BadCount, TooDeep}
use Rattle.ffi3_nodes.specs.declared.signature.Refused.TheVariants.{Nodes}
use Rattle.ffi3_types.specs.TreeOf.{tree_of}
use Rattle.ffi3_types.specs.declared.FfiType.{FfiType}
use Rattle.ffi3_nodes.proofs.Passing.{Passes, goes_on, is_deep, after_types, types_pass}
use Rattle.ffi3_nodes.proofs.Unique.{only_types}

-- ---- how many types are wanted

abbrev total : List ℕ → ℕ
total [] = 0
total (k ∷ ks) = k + total ks

closed_total : (ks : List ℕ) → total (closed ks) ≡ total ks
closed_total (zero ∷ ks) =
    let same : total ks ≡ 0 + total ks = omega arith in
    closed_total ks ∙ same
closed_total _ = refl

begun_total : (ks : List ℕ) → total ks ≤ total (begun ks) + 1
begun_total [] = omega arith
begun_total (k ∷ ks) = omega arith

after_total : (n : ℕ) (ks : List ℕ) → total ks ≤ total (after_types n ks) + n
after_total zero ks = omega arith
after_total (suc n) ks =
    let one = begun_total ks in
    let same = closed_total (begun ks) in
    let others = after_total n (closed (begun ks)) in
    omega (arith, one, same, others)

none_at_end : (ks : List ℕ) → fault_at_end ks ≡ None → total ks ≡ 0
none_at_end [] h = refl
none_at_end (k ∷ ks) h = cc

enough_if : (ks : List ℕ) (at : ℕ) (ts : List Tree) (ns : List Node) → fault_from ks at ns ≡ None → Passes ks at (ns ++ []) (after_types (length ts) ks) [] → total ks ≤ length ts
enough_if ks at ts ns h (goes_on next e) =
    let at_end : fault_at_end (after_types (length ts) ks) ≡ None = sym e ∙ ap (fault_from ks at) (append-nil ns) ∙ h in
    let zero_left = none_at_end (after_types (length ts) ks) at_end in
    let all = after_total (length ts) ks in
    omega (arith, zero_left, all)
enough_if ks at ts ns h (is_deep i e) =
    let found : None ≡ Some (too_deep i) = sym h ∙ sym (ap (fault_from ks at) (append-nil ns)) ∙ e in
    cc found

enough : (ks : List ℕ) (at : ℕ) (ts : List Tree) (ns : List Node) → AreWritten ts ns → fault_from ks at ns ≡ None → total ks ≤ length ts
enough ks at ts ns w h = enough_if ks at ts ns h (types_pass ks at ts ns [] w)

-- ---- one node of many

neither : (f later : Option NodeFault) → or_else f later ≡ None → (f ≡ None) × (later ≡ None)
neither None later h = (refl, h)
neither (Some f) later h = cc

reaches : (ks : List ℕ) (at : ℕ) (ns : List Node) (j : ℕ) → fault_from ks at ns ≡ None → j ≤ length ns → (ks' : List ℕ) × (at' : ℕ) × (fault_from ks' at' (drop j ns) ≡ None)
reaches ks at ns zero h below = (ks, at, h)
reaches ks at [] (suc j) h below = absurd (omega arith)
reaches ks at (n ∷ ns) (suc j) h below =
    reaches (open_after ks n) (at + 1) ns j (neither (fault_at (length ks) at n) (fault_from (open_after ks n) (at + 1) ns) h).1 (omega arith)

known_kind : (depth at : ℕ) (n : Node) (b : Bool) → is_kind n.kind ≡ b → fault_at depth at n ≡ None → n.kind ≤ ARRAY
known_kind depth at n true e h = leb-true n.kind ARRAY e
known_kind depth at n false e h =
    let found : Some (unknown_kind at) ≡ fault_at depth at n = sym (ap (λ b. cond (not b) (Some (unknown_kind at)) (cond (not (has_count n.kind) && not (n.count == 0)) (Some (bad_count at)) (cond (has_count n.kind && nat_le DEEPEST depth) (Some (too_deep at)) None))) e) in
    cc (found ∙ h)

no_count : (depth at : ℕ) (n : Node) → n.kind ≤ ARRAY → n.kind < STRUCT → fault_at depth at n ≡ None → n.count ≡ 0
no_count depth at n known plain h = grind arith

struct_total : (n : Node) (ks : List ℕ) → n.kind ≡ STRUCT → n.count ≤ total (open_after ks n)
struct_total n ks e =
    let same = closed_total (opened n (begun ks)) in
    let is : total (opened n (begun ks)) ≡ n.count + total (begun ks) = ap (λ k. total (cond (k == STRUCT) (n.count ∷ begun ks) (cond (k == ARRAY) (1 ∷ begun ks) (begun ks)))) e in
    omega (arith, same, is)

array_total : (n : Node) (ks : List ℕ) → n.kind ≡ ARRAY → 1 ≤ total (open_after ks n)
array_total n ks e =
    let same = closed_total (opened n (begun ks)) in
    let is : total (opened n (begun ks)) ≡ 1 + total (begun ks) = ap (λ k. total (cond (k == STRUCT) (n.count ∷ begun ks) (cond (k == ARRAY) (1 ∷ begun ks) (begun ks)))) e in
    omega (arith, same, is)

fits_at : (ks : List ℕ) (at : ℕ) (n : Node) (ns : List Node) (ts : List Tree) → fault_from ks at (n ∷ ns) ≡ None → AreWritten ts ns → Fits n ts
fits_at ks at n ns ts h w =
    let both = neither (fault_at (length ks) at n) (fault_from (open_after ks n) (at + 1) ns) h in
    let known = known_kind (length ks) at n (is_kind n.kind) refl both.0 in
    let some = enough (open_after ks n) (at + 1) ts ns w both.1 in
    record {
      known = known;
      plain = λ below. no_count (length ks) at n known below both.0;
      elements = λ e. let more = struct_total n ks e in omega (arith, some, more);
      element = λ e. let more = array_total n ks e in omega (arith, some, more);
    }

from_start : (ns : List Node) → first_node_fault ns ≡ None → fault_from [] 0 ns ≡ None
from_start [] h = cc
from_start (n ∷ ns) h = h

pub node_fits : (ns : List Node) (j : ℕ) (d : Node) (ts : List Tree) → first_node_fault ns ≡ None → j < length ns → AreWritten ts (drop (j + 1) ns) → Fits (get_or ns j d) ts
node_fits ns j d ts h below w =
    let there = reaches [] 0 ns j (from_start ns h) (omega arith) in
    fits_at there.0 there.1 (get_or ns j d) (drop (j + 1) ns) ts (subst (λ l. fault_from there.0 there.1 l ≡ None) (drop_more ns j d below) there.2) w

-- ---- one type more

pub same_node : (n : Node) (k c : ℕ) → n.kind ≡ k → n.count ≡ c → n ≡ node k c
same_node n k c e f = λ i. record { kind = e i; count = f i }

pub first_leaf : (n : Node) (t : Tree) (ts : List Tree) (ns : List Node) → n.count ≡ 0 → slice_get leaves n.kind ≡ Some t → AreWritten ts ns → AreWritten (t ∷ ts) (n ∷ ns)
first_leaf n t ts ns e h w =
    one_more t ts (node n.kind 0 ∷ []) ns (n ∷ ns) (leaf n.kind t h) w (ap (λ m. m ∷ ns) (same_node n n.kind 0 refl e))

-- types are cut, and so are their nodes
record Cut (ts us : List Tree) (ns : List Node) : Type 0 where
  front : List Node
  back : List Node
  first : AreWritten ts front
  second : AreWritten us back
  whole : ns ≡ front ++ back

cut : (ts : List Tree) (ns : List Node) → AreWritten ts ns → (n : ℕ) → n ≤ length ts → Cut (take n ts) (drop n ts) ns
cut ts ns w zero h = record { front = []; back = ns; first = none; second = w; whole = refl }
cut ts ns none (suc n) h = absurd (omega arith)
cut ts ns (one_more t us ls ks all w ws e) (suc n) h =
    let c = cut us ks ws n (omega arith) in
    record {
      front = ls ++ c.front;
      back = c.back;
      first = one_more t (take n us) ls c.front (ls ++ c.front) w c.first refl;
      second = c.second;
      whole = e ∙ ap (λ l. ls ++ l) c.whole ∙ sym (append_assoc ls c.front c.back);
    }

length_take : (n : ℕ) (ts : List Tree) → n ≤ length ts → length (take n ts) ≡ n
length_take zero ts h = refl
length_take (suc n) [] h = absurd (omega arith)
length_take (suc n) (t ∷ ts) h = ap suc (length_take n ts (omega arith))

pub first_struct : (n : Node) (ts : List Tree) (ns : List Node) → n.kind ≡ STRUCT → n.count ≤ length ts → AreWritten ts ns → AreWritten (struct_of (take n.count ts) ∷ drop n.count ts) (n ∷ ns)
first_struct n ts ns e h w =
    let c = cut ts ns w n.count h in
    let us = take n.count ts in
    let head : n ≡ node STRUCT (length us) = same_node n STRUCT (length us) e (sym (length_take n.count ts h)) in
    one_more (struct_of us) (drop n.count ts) (node STRUCT (length us) ∷ c.front) c.back (n ∷ ns) (structure us c.front c.first) c.second
    (ap (λ m. m ∷ ns) head ∙ ap (λ l. node STRUCT (length us) ∷ l) c.whole)

pub below_struct : (n : Node) → n.kind ≤ ARRAY → (n.kind ≡ STRUCT → ⊥) → (n.kind ≡ ARRAY → ⊥) → n.kind < STRUCT
below_struct n known no_struct no_array = omega (arith, no_struct, no_array)

pub leaf_first : {E : Type 0} (n : Node) (ts : List Tree) → n.count ≡ 0 → (r : Result FfiType E) → IfOk r (λ t. slice_get leaves n.kind ≡ Some (tree_of t)) → IfOk r (λ t. (ns : List Node) → AreWritten ts ns → AreWritten (tree_of t ∷ ts) (n ∷ ns))
leaf_first n ts e (Ok t) h = λ ns w. first_leaf n (tree_of t) ts ns e h w
leaf_first n ts e (Err f) h = tt

pub written_at_end : (ns : List Node) (ts : List Tree) → ts ≡ [] → AreWritten ts (drop (length ns - 0) ns)
written_at_end ns ts e =
    let all : length ns ≡ length ns - 0 = omega arith in
    subst (λ us. AreWritten us (drop (length ns - 0) ns)) (sym e) (subst (λ k. AreWritten [] (drop k ns)) all (subst (AreWritten []) (sym (drop_all (length ns) ns (omega arith))) none))

pub first_array : (n : Node) (ts : List Tree) (ns : List Node) → n.kind ≡ ARRAY → 1 ≤ length ts → AreWritten ts ns → AreWritten (array_tree (trees_of (take 1 ts)) n.count ∷ drop 1 ts) (n ∷ ns)
first_array n ts ns e h none = absurd (omega arith)
first_array n ts ns e h (one_more t us ls ks all w ws f) =
    one_more (array_of t n.count) us (node ARRAY n.count ∷ ls) ks (n ∷ ns) (array t n.count ls w) ws
    (ap (λ m. m ∷ ns) (same_node n ARRAY n.count e refl) ∙ ap (λ l. node ARRAY n.count ∷ l) f)

-- ---- the whole

some_nodes : (t : Tree) (ns : List Node) → IsWritten t ns → 1 ≤ length ns
some_nodes t ns (leaf k t' h) = omega arith
some_nodes t ns _ = omega arith

pub few_types : (ts : List Tree) (ns : List Node) → AreWritten ts ns → length ts ≤ length ns
few_types ts ns none = omega arith
few_types ts ns (one_more t us ls ks all w ws e) =
    let first = some_nodes t ls w in
    let others = few_types us ks ws in
    let both = ap length e in
    let sum = length-append ls ks in
    omega (arith, first, others, both, sum)

after_none : (n : ℕ) → after_types n [] ≡ []
after_none zero = refl
after_none (suc n) = after_none n

-- types have no fault but that they are too deep
pub data IsDeep : Option NodeFault → Type 0 where
  no_fault : IsDeep None
  deep : (i : ℕ) → IsDeep (Some (too_deep i))

deep_if : (n : ℕ) (ns : List Node) → Passes [] 0 (ns ++ []) (after_types n []) [] → IsDeep (fault_from [] 0 ns)
deep_if n ns (goes_on next e) =
    subst IsDeep (sym (sym (ap (fault_from [] 0) (append-nil ns)) ∙ e ∙ ap (λ l. fault_at_end l) (after_none n))) no_fault
deep_if n ns (is_deep i e) =
    subst IsDeep (sym (sym (ap (fault_from [] 0) (append-nil ns)) ∙ e)) (deep i)

pub no_types : (t : Tree) (ts : List Tree) → AreWritten (t ∷ ts) [] → ⊥
no_types t ts (one_more t' ts' ls ks all (leaf k u h) ws e) = cc
no_types t ts (one_more t' ts' ls ks all _ ws e) = cc

pub deep_alone : (t : Tree) (ts : List Tree) (ns : List Node) → AreWritten (t ∷ ts) ns → IsDeep (first_node_fault ns)
deep_alone t ts [] w = absurd (no_types t ts w)
deep_alone t ts (n ∷ ns) w = deep_if (length (t ∷ ts)) (n ∷ ns) (types_pass [] 0 (t ∷ ts) (n ∷ ns) [] w)

same_signature : (s u : Signature) → s.result_type ∷ s.arguments ≡ u.result_type ∷ u.arguments → s.fixed ≡ u.fixed → s ≡ u
same_signature s u e f =
    let r : s.result_type ≡ u.result_type = cc e in
    let a : s.arguments ≡ u.arguments = cc e in
    λ i. record { result_type = r i; arguments = a i; fixed = f i }

deep_of : (ns : List Node) (f : NodeFault) → first_node_fault ns ≡ Some f → (fixed : Option ℕ) (s : Signature) → IsSignatureOf ns fixed s → IsDeep (Some f)
deep_of ns f e fixed s is = subst IsDeep e (deep_alone s.result_type s.arguments ns is.written)

-- no other fault is one of depth
not_other : (f : NodeFault) → ((i : ℕ) → f ≡ too_deep i → ⊥) → IsDeep (Some f) → ⊥
not_other f other h = shape (Some f) h refl
  where
    shape : (o : Option NodeFault) → IsDeep o → o ≡ Some f → ⊥
    shape o no_fault e = cc
    shape o (deep i) e = let same : f ≡ too_deep i = cc in other i same

pub of_none : (ns : List Node) (f : code.NodeFault) → first_node_fault ns ≡ Some (node_fault_of f) → IsOfNone ns (Nodes f)
of_none ns Ended e = λ fixed s is. not_other ended (λ i e. cc) (deep_of ns ended e fixed s is)
of_none ns (UnknownKind at) e = λ fixed s is. not_other (unknown_kind at) (λ i e. cc) (deep_of ns (unknown_kind at) e fixed s is)
of_none ns (BadCount at) e = λ fixed s is. not_other (bad_count at) (λ i e. cc) (deep_of ns (bad_count at) e fixed s is)
of_none ns (TooDeep at) e = tt

pub one_signature : (ns : List Node) (fixed : Option ℕ) (s u : Signature) → IsSignatureOf ns fixed s → IsSignatureOf ns fixed u → u ≡ s
one_signature ns fixed s u is other =
    same_signature u s (only_types (u.result_type ∷ u.arguments) (s.result_type ∷ s.arguments) ns ns other.written is.written refl) (other.fixed_is ∙ sym is.fixed_is)
