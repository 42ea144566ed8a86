-- A signature without fault has nodes without fault: where its types are not too deep, neither are their nodes.
use Rattle.std.specs.List.{AllByRecursion}
use Rattle.std.specs.Prelude.{Option, Some, None, cond}
use Rattle.std.proofs.Common.{◌≡◌, ℕ, suc, ◌+◌, ◌<◌, inl, inr, true, List, [], ◌∷◌, ◌++◌, length, ap, sym, ◌∙◌, refl, arith, subst, append_assoc, append-nil}
use Rattle.std.proofs.lemmas.Bool.{cases_lt, lt-leb}
use Rattle.ffi3_type_spec.specs.declared.limits.TheConstants.{DEEPEST_NESTING}
use Rattle.ffi3_type_spec.specs.declared.Role.TheVariants.{AsResult}
use Rattle.ffi3_type_spec.specs.Tree.{Tree, struct_of, array_of, list_of, trees_of, list_of-trees_of, tree_at, parts_of}
use Rattle.ffi3_type_spec.specs.Fault.{IsLaidOut, IsResultType, has_parts, nested_deep, node_at, too_deep}
use Rattle.ffi3_type_spec.specs.Signature.{Signature, SignatureHasNoFault, SignatureIsPlaced, IsFirstSignatureFault}
use Rattle.ffi3_type_spec.proofs.Placed.{placed_result_is_laid_out, placed_argument_is_laid_out}
use Rattle.ffi3_format_spec.specs.declared.Format.{Format}
use Rattle.ffi3_format_spec.specs.Format.{resolved, resolved_signature}
use Rattle.ffi3_format_spec.proofs.Resolving.{resolved_at, resolved_count}
use Rattle.ffi3_format_spec.proofs.Nodes.{node_resolved, parts_resolved}
use Rattle.ffi3_type_spec.proofs.Faults.{node_outside, right_anywhere}
use Rattle.ffi3_type_spec.proofs.Right.{argument_is_laid_out, result_is_laid_out}
use Rattle.ffi3_nodes.specs.declared.Node.{Node}
use Rattle.ffi3_nodes.specs.declared.TheConstants.{STRUCT, ARRAY, DEEPEST}
use Rattle.ffi3_nodes.specs.Nodes.{node, IsWritten, leaf, structure, array, AreWritten, none, one_more, IsSignatureOf}
use Rattle.ffi3_nodes.specs.Faults.{NodeFault, begun, closed, fault_from, first_node_fault, or_else}
use Rattle.ffi3_nodes.specs.Faults as faults
use Rattle.ffi3_nodes.specs.Read.{HasNoPlaced, HasNoResultType, IsUncallable, node_fault_of}
use Rattle.ffi3_nodes.specs.declared.scan.NodeFault as code
use Rattle.ffi3_nodes.specs.declared.signature.Refused.TheVariants.{Nodes, Sig}
use Rattle.ffi3_types.specs.declared.sig.SigFault.{SigFault}
use Rattle.ffi3_types.specs.SignatureFaultOf.{signature_fault_of}
use Rattle.ffi3_nodes.proofs.Passing.{leaf_below, leaf_goes, one_fewer}
use Rattle.ffi3_nodes.proofs.Building.{no_types, one_signature}

-- ---- types that are not too deep

-- inside so many structs and arrays, none of its own stands inside 16
abbrev NotDeep : ℕ → Tree → Type 0
NotDeep outer t =
    (path : List ℕ) (inner : Tree) → node_at path t ≡ Some inner → has_parts inner ≡ true → outer + length path < DEEPEST

laid_out_not_deep : (t : Tree) → IsLaidOut t → NotDeep 0 t
laid_out_not_deep t right path inner is parts =
    elim (cases_lt DEEPEST_NESTING (0 + length path + 1)) [
      | inl deep ↦ absurd (right path too_deep (nested_deep is parts deep))
      | inr within ↦ omega (arith, within)
    ]

part_not_deep : (outer : ℕ) (root : Tree) (i : ℕ) → i < length (parts_of root) → NotDeep outer root → NotDeep (suc outer) (tree_at (parts_of root) i)
part_not_deep outer root i below shallow path inner is parts =
    let within : outer + length (i ∷ path) < DEEPEST = shallow (i ∷ path) inner (node_outside root i path inner below is) parts in
    omega (arith, within)

all_at : (P : Tree → Type 0) (ts : List Tree) → ((i : ℕ) → i < length ts → P (tree_at ts i)) → AllByRecursion P ts
all_at P [] f = tt
all_at P (t ∷ ts) f = (f 0 (omega arith), all_at P ts (λ i h. f (suc i) (omega (arith, h))))

elements_not_deep : (outer : ℕ) (ts : List Tree) → NotDeep outer (struct_of ts) → AllByRecursion (NotDeep (suc outer)) ts
elements_not_deep outer ts shallow =
    subst (AllByRecursion (NotDeep (suc outer))) (list_of-trees_of ts)
    (all_at (NotDeep (suc outer)) (list_of (trees_of ts)) (λ i h. part_not_deep outer (struct_of ts) i h shallow))

element_not_deep : (outer : ℕ) (t : Tree) (n : ℕ) → NotDeep outer (array_of t n) → NotDeep (suc outer) t
element_not_deep outer t n shallow = part_not_deep outer (array_of t n) 0 (omega arith) shallow

-- ---- their nodes are passed

-- nodes at the front of others are passed: the first fault is that of the others, behind them
abbrev Goes : List ℕ → ℕ → List Node → List ℕ → List Node → Type 0
Goes ks at all left rest = (next : ℕ) × (fault_from ks at all ≡ fault_from left next rest)

as_many_open : (ks : List ℕ) → length (begun ks) ≡ length ks
as_many_open [] = refl
as_many_open (k ∷ ks) = refl

struct_goes : (ks : List ℕ) (at n : ℕ) (rest : List Node) → length ks < DEEPEST → fault_from ks at (node STRUCT n ∷ rest) ≡ fault_from (closed (n ∷ begun ks)) (at + 1) rest
struct_goes ks at n rest shallow =
    ap (λ b. or_else (cond b (Some (faults.too_deep at)) None) (fault_from (closed (n ∷ begun ks)) (at + 1) rest)) (lt-leb DEEPEST (length ks) shallow)

array_goes : (ks : List ℕ) (at n : ℕ) (rest : List Node) → length ks < DEEPEST → fault_from ks at (node ARRAY n ∷ rest) ≡ fault_from (1 ∷ begun ks) (at + 1) rest
array_goes ks at n rest shallow =
    ap (λ b. or_else (cond b (Some (faults.too_deep at)) None) (fault_from (1 ∷ begun ks) (at + 1) rest)) (lt-leb DEEPEST (length ks) shallow)

mutual
  type_goes : (ks : List ℕ) (at : ℕ) (t : Tree) (ns rest : List Node) → IsWritten t ns → NotDeep (length ks) t → Goes ks at (ns ++ rest) (closed (begun ks)) rest
  type_goes ks at t ns rest (leaf k t' e) shallow = (at + 1, leaf_goes ks at k rest (leaf_below k t' e))
  type_goes ks at t ns rest (structure ts ms w) shallow =
      let here : length ks + length {A = ℕ} [] < DEEPEST = shallow [] (struct_of ts) refl refl in
      let inside = elements_go (begun ks) (at + 1) ts ms rest w (subst (λ d. AllByRecursion (NotDeep (suc d)) ts) (sym (as_many_open ks)) (elements_not_deep (length ks) ts shallow)) in
      (inside.0, struct_goes ks at (length ts) (ms ++ rest) (omega (arith, here)) ∙ inside.1)
  type_goes ks at t ns rest (array u n ms w) shallow =
      let here : length ks + length {A = ℕ} [] < DEEPEST = shallow [] (array_of u n) refl refl in
      let inside = type_goes (1 ∷ begun ks) (at + 1) u ms rest w (subst (λ d. NotDeep (suc d) u) (sym (as_many_open ks)) (element_not_deep (length ks) u n shallow)) in
      (inside.0, array_goes ks at n (ms ++ rest) (omega (arith, here)) ∙ inside.1)

  -- inside a struct that wants just these
  elements_go : (ks : List ℕ) (at : ℕ) (ts : List Tree) (ns rest : List Node) → AreWritten ts ns → AllByRecursion (NotDeep (suc (length ks))) ts → Goes (closed (length ts ∷ ks)) at (ns ++ rest) (closed ks) rest
  elements_go ks at ts ns rest none shallow = (at, refl)
  elements_go ks at ts ns rest (one_more u us ms ls all w ws e) shallow =
      let first = type_goes (suc (length us) ∷ ks) at u ms (ls ++ rest) w shallow.0 in
      let later = elements_go ks first.0 us ls rest ws shallow.1 in (
        later.0,
        ap (λ l. fault_from (suc (length us) ∷ ks) at l) (ap (λ l. l ++ rest) e ∙ append_assoc ms ls rest)
            ∙ first.1 ∙ ap (λ left. fault_from left first.0 (ls ++ rest)) (one_fewer (length us) ks) ∙ later.1,
      )

types_go : (at : ℕ) (ts : List Tree) (ns rest : List Node) → AreWritten ts ns → AllByRecursion (NotDeep 0) ts → Goes [] at (ns ++ rest) [] rest
types_go at ts ns rest none shallow = (at, refl)
types_go at ts ns rest (one_more u us ms ls all w ws e) shallow =
    let first = type_goes [] at u ms (ls ++ rest) w shallow.0 in
    let later = types_go first.0 us ls rest ws shallow.1 in
    (later.0, ap (λ l. fault_from [] at l) (ap (λ l. l ++ rest) e ∙ append_assoc ms ls rest) ∙ first.1 ∙ later.1)

-- ---- a signature's

from_first : (ns : List Node) → fault_from [] 0 ns ≡ None → (ns ≡ [] → ⊥) → first_node_fault ns ≡ None
from_first [] h some = absurd (some refl)
from_first (n ∷ ns) h some = h

shallow_nodes : (t : Tree) (ts : List Tree) (ns : List Node) → AreWritten (t ∷ ts) ns → NotDeep 0 t → ((i : ℕ) → i < length ts → NotDeep 0 (tree_at ts i)) → first_node_fault ns ≡ None
shallow_nodes t ts ns w first others =
    let shallow : AllByRecursion (NotDeep 0) (t ∷ ts) = (first, all_at (NotDeep 0) ts others) in
    let all = types_go 0 (t ∷ ts) ns [] w shallow in
    from_first ns (ap (fault_from [] 0) (sym (append-nil ns)) ∙ all.1) (λ e. no_types t ts (subst (AreWritten (t ∷ ts)) e w))

pub faultless_nodes : (ns : List Node) (fixed : Option ℕ) (s : Signature) → IsSignatureOf ns fixed s → SignatureHasNoFault s → first_node_fault ns ≡ None
faultless_nodes ns fixed s is right =
    shallow_nodes s.result_type s.arguments ns is.written (laid_out_not_deep s.result_type (result_is_laid_out s right)) (λ i h. laid_out_not_deep (tree_at s.arguments i) (argument_is_laid_out s right i h))

-- so nodes that have a fault are those of no signature that can be called
pub uncallable_nodes : (ns : List Node) (fixed : Option ℕ) (f : code.NodeFault) → first_node_fault ns ≡ Some (node_fault_of f) → IsUncallable ns fixed (Nodes f)
uncallable_nodes ns fixed f e =
    λ s is right. let both : None ≡ Some (node_fault_of f) = sym (faultless_nodes ns fixed s is right) ∙ e in cc

-- ---- a resolved signature's

-- a resolved type is no less deep
resolved_not_deep : (f : Format) (t : Tree) → NotDeep 0 (resolved f t) → NotDeep 0 t
resolved_not_deep f t shallow path inner is parts =
    shallow path (resolved f inner) (node_resolved f path t inner is) (parts_resolved f inner parts)

placed_nodes : (format : Format) (ns : List Node) (fixed : Option ℕ) (s : Signature) → IsSignatureOf ns fixed s → SignatureIsPlaced (resolved_signature format s) → first_node_fault ns ≡ None
placed_nodes format ns fixed s is placed =
    let r = resolved_signature format s in
    let each : (i : ℕ) → i < length s.arguments → NotDeep 0 (tree_at s.arguments i) = λ i h. resolved_not_deep format (tree_at s.arguments i) (subst (NotDeep 0) (resolved_at format s.arguments i) (laid_out_not_deep (tree_at r.arguments i) (placed_argument_is_laid_out r placed i (subst (λ n. i < n) (sym (resolved_count format s.arguments)) h)))) in
    shallow_nodes s.result_type s.arguments ns is.written (resolved_not_deep format s.result_type (laid_out_not_deep r.result_type (placed_result_is_laid_out r placed))) each

-- so nodes that have a fault are those of no signature that can be placed
pub unplaceable_nodes : (format : Format) (ns : List Node) (fixed : Option ℕ) (f : code.NodeFault) → first_node_fault ns ≡ Some (node_fault_of f) → HasNoPlaced format ns fixed
unplaceable_nodes format ns fixed f e =
    λ s is placed. let none = placed_nodes format ns fixed is.told is.written (subst SignatureIsPlaced is.by_format placed) in
    let both : None ≡ Some (node_fault_of f) = sym none ∙ e in cc

-- ---- the first fault

-- each signature that has the nodes is the one that has the fault
pub uncallable_signature : (ns : List Node) (fixed : Option ℕ) (t : Signature) (f : SigFault) → IsSignatureOf ns fixed t → IsFirstSignatureFault t (signature_fault_of f) → IsUncallable ns fixed (Sig f)
uncallable_signature ns fixed t f is first =
    λ s other. subst (λ x. IsFirstSignatureFault x (signature_fault_of f)) (sym (one_signature ns fixed t s is other)) first

-- ---- one type's

pub typeless_nodes : (ns : List Node) (f : code.NodeFault) → first_node_fault ns ≡ Some (node_fault_of f) → HasNoResultType ns
typeless_nodes ns f e =
    λ t w right. let both : None ≡ Some (node_fault_of f) = sym (faultless_type t ns w right) ∙ e in cc
  where
    faultless_type : (t : Tree) (ns : List Node) → IsWritten t ns → IsResultType t → first_node_fault ns ≡ None
    faultless_type t ns w right =
        let shallow = laid_out_not_deep t (right_anywhere 0 AsResult t right) in
        let all = type_goes [] 0 t ns [] w shallow in
        from_first ns (ap (fault_from [] 0) (sym (append-nil ns)) ∙ all.1) (λ e. no_types t [] (one_more t [] [] [] [] (subst (IsWritten t) e w) none refl))
