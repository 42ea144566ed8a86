-- Nodes that are scalars and structs of scalars are those of a signature without fault.
use Rattle.std.specs.List.{AllByRecursion}
use Rattle.std.specs.Prelude.{IfSome, false, Option, Some, None, slice_get}
use Rattle.std.proofs.Common.{◌≡◌, ℕ, zero, suc, ◌+◌, ◌*◌, ◌<◌, ◌≤◌, ◌-◌, List, [], ◌∷◌, ◌++◌, take, drop, get_or, length, length-append, ap, sym, ◌∙◌, refl, subst, arith, append_assoc, append-nil}
use Rattle.std.proofs.lemmas.List.{take_more, take_all, length-drop}
use Rattle.ffi3_type_spec.specs.declared.limits.TheConstants.{LARGEST_TYPE, MOST_ARGUMENTS}
use Rattle.ffi3_type_spec.specs.declared.Role.{Role}
use Rattle.ffi3_type_spec.specs.declared.Role.TheVariants.{AsResult, AsArgument, AsElement}
use Rattle.ffi3_type_spec.specs.Tree.{Tree, void, scalar, struct_of, trees_of, tree_at}
use Rattle.ffi3_type_spec.specs.Layout.{layouts, element, end_before, align_before, size_of, has_long_double, have_long_double}
use Rattle.ffi3_type_spec.specs.Fault.{HasNoFault, IsArgumentType, IsResultType}
use Rattle.ffi3_type_spec.specs.Signature.{Signature, SignatureFault, SignatureHasNoFault, IsSignatureFault, over_most, in_result, in_argument, fixed_outside, promoted}
use Rattle.ffi3_type_spec.proofs.Faults.{scalar_faults, void_faults, struct_is_right}
use Rattle.ffi3_type_spec.proofs.Layouts.{element-layouts, length-layouts, scalar_room-bounds, align_positive, align_bounded, align_before-positive, align_before-bounded, least_multiple-below}
use Rattle.ffi3_type_spec.proofs.Signatures.{suited_has_none}
use Rattle.ffi3_types.specs.ScalarSize.{scalar_size_of}
use Rattle.ffi3_types.specs.TreeOf.{tree_of}
use Rattle.ffi3_types.specs.declared.FfiType.{FfiType}
use Rattle.ffi3_nodes.specs.declared.Node.{Node}
use Rattle.ffi3_nodes.specs.declared.TheConstants.{VOID, STRUCT}
use Rattle.ffi3_nodes.specs.Nodes.{node, IsWritten, AreWritten, none, one_more, structure as struct_written, leaves}
use Rattle.ffi3_nodes.specs.Read.{AreReadSoFar, IsReadAs}
use Rattle.ffi3_nodes.proofs.Building.{first_leaf, same_node}

abbrev IsScalar : Tree → Type 0
IsScalar t = 0 < scalar_size_of t

abbrev IsPlain : Tree → Type 0
IsPlain t = has_long_double t ≡ false

-- a scalar has no fault, wherever it stands
scalar_right : {outer : ℕ} (role : Role) (t : Tree) → IsScalar t → HasNoFault outer role t
scalar_right role (scalar s) some = scalar_faults s
scalar_right role _ some = absurd (omega (arith, some))

pub void_right : IsResultType void
void_right = λ path f fault. let taken = (void_faults path f fault).2 in cc taken

pub scalar_of_right : (role : Role) (o : Option FfiType) → IfSome o (λ t. IsScalar (tree_of t)) → IfSome o (λ t. HasNoFault 0 role (tree_of t))
scalar_of_right role None h = tt
scalar_of_right role (Some t) h = scalar_right role (tree_of t) h

pub scalar_written : (n : Node) → n.count ≡ 0 → (o : Option FfiType) → IfSome o (λ t. slice_get leaves n.kind ≡ Some (tree_of t)) → IfSome o (λ t. AreWritten (tree_of t ∷ []) (n ∷ []))
scalar_written n e None h = tt
scalar_written n e (Some t) h = first_leaf n (tree_of t) [] [] e h none

pub void_written : (n : Node) → n.count ≡ 0 → n.kind ≡ VOID → AreWritten (void ∷ []) (n ∷ [])
void_written n e is = first_leaf n void [] [] e (ap (slice_get leaves) is) none

-- types behind others, and their nodes behind those
written_behind : (ts us : List Tree) (ns ms : List Node) → AreWritten ts ns → AreWritten us ms → AreWritten (ts ++ us) (ns ++ ms)
written_behind ts us ns ms none v = v
written_behind ts us ns ms (one_more t ts' ls ks all w ws e) v =
    one_more t (ts' ++ us) ls (ks ++ ms) (ns ++ ms) w (written_behind ts' us ks ms ws v) (ap (λ l. l ++ ms) e ∙ append_assoc ls ks ms)

all_behind : (P : Tree → Type 0) (ts : List Tree) (t : Tree) → AllByRecursion P ts → P t → AllByRecursion P (ts ++ t ∷ [])
all_behind P [] t all right = (right, tt)
all_behind P (u ∷ ts) t all right = (all.0, all_behind P ts t all.1 right)

all_at : (P : Tree → Type 0) (ts : List Tree) (i : ℕ) → AllByRecursion P ts → i < length ts → P (tree_at ts i)
all_at P [] i all below = absurd (omega (arith, below))
all_at P (t ∷ ts) zero all below = all.0
all_at P (t ∷ ts) (suc i) all below = all_at P ts i all.1 (omega (arith, below))

-- ---- a struct of scalars: the first nodes are so many members

pub record AreMembers (members : List Tree) (nodes : List Node) (i : ℕ) : Type 0 where
  pub written : AreWritten members (take i nodes)
  pub scalars : AllByRecursion IsScalar members
  pub plain : AllByRecursion IsPlain members
  pub count : length members ≡ i

pub no_members : (ts : List Tree) (nodes : List Node) → ts ≡ [] → AreMembers ts nodes 0
no_members ts nodes e =
    subst (λ us. AreMembers us nodes 0) (sym e) (record { written = none; scalars = tt; plain = tt; count = refl })

pub more_members : (t : Tree) (ts more : List Tree) (nodes : List Node) (i : ℕ) (d : Node) → i < length nodes → more ≡ ts ++ t ∷ [] → AreMembers ts nodes i → AreWritten (t ∷ []) (get_or nodes i d ∷ []) → IsScalar t → IsPlain t → AreMembers more nodes (i + 1)
more_members t ts more nodes i d below e so_far w is plain =
    subst (λ us. AreMembers us nodes (i + 1)) (sym e)
    (record {
      written = subst (AreWritten (ts ++ t ∷ [])) (sym (take_more nodes i d below)) (written_behind ts (t ∷ []) (take i nodes) (get_or nodes i d ∷ []) so_far.written w);
      scalars = all_behind IsScalar ts t so_far.scalars is;
      plain = all_behind IsPlain ts t so_far.plain plain;
      count =
          let was = so_far.count in
          let longer = length-append ts (t ∷ []) in
          omega (arith, was, longer);
    })

-- how large it is at most
scalar_small : (t : Tree) → IsScalar t → size_of t ≤ 16
scalar_small (scalar s) some = (scalar_room-bounds s).1
scalar_small _ some = absurd (omega (arith, some))

small_at : (ts : List Tree) (k : ℕ) → AllByRecursion IsScalar ts → size_of (tree_at ts k) ≤ 16
small_at [] k all = omega arith
small_at (t ∷ ts) zero all = scalar_small t all.0
small_at (t ∷ ts) (suc k) all = small_at ts k all.1

module _ (ts : List Tree) where
  align_at : (k : ℕ) → (1 ≤ (element (layouts (trees_of ts)) k).align) × ((element (layouts (trees_of ts)) k).align ≤ 16)
  align_at k =
      let same = ap (λ l. l.align) (element-layouts ts k) in
      let low = align_positive (tree_at ts k) in
      let high = align_bounded (tree_at ts k) in
      (omega (arith, same, low), omega (arith, same, high))

  small_ends : AllByRecursion IsScalar ts → (i : ℕ) → end_before (layouts (trees_of ts)) i ≤ 32 * i
  small_ends all zero = omega arith
  small_ends all (suc i) =
      let es = layouts (trees_of ts) in
      let before = small_ends all i in
      let same = ap (λ l. l.size) (element-layouts ts i) in
      let size = small_at ts i all in
      let align = align_at i in
      let start = least_multiple-below (element es i).align (end_before es i) align.0 in
      omega (arith, before, same, size, align.1, start)

  small_struct : AllByRecursion IsScalar ts → length ts ≤ 64 → size_of (struct_of ts) ≤ LARGEST_TYPE
  small_struct all few =
      let es = layouts (trees_of ts) in
      let n = length es in
      let many = length-layouts ts in
      let end = small_ends all n in
      let low = align_before-positive es n in
      let high = align_before-bounded es n (λ k. (align_at k).1) in
      let size = least_multiple-below (align_before es n) (end_before es n) low in
      omega (arith, few, many, end, high, size)

none_plain : (ts : List Tree) → AllByRecursion IsPlain ts → have_long_double (trees_of ts) ≡ false
none_plain [] all = refl
none_plain (t ∷ ts) all = rw all.0 (none_plain ts all.1)

pub members_read : (role : Role) (ts : List Tree) (nodes : List Node) (count : ℕ) → AreMembers ts nodes count → 0 < count → count ≤ 64 → IsReadAs role (struct_of ts) (node STRUCT count ∷ take count nodes)
members_read role ts nodes count are some few =
    let is = are.count in
    record {
      written = one_more (struct_of ts) [] (node STRUCT count ∷ take count nodes) [] (node STRUCT count ∷ take count nodes)
          (subst (λ n. IsWritten (struct_of ts) (node STRUCT n ∷ take count nodes)) is (struct_written ts (take count nodes) are.written)) none
          (sym (append-nil (node STRUCT count ∷ take count nodes)));
      right = struct_is_right ts (omega arith) (omega (arith, is, some)) (λ i below. scalar_right AsElement (tree_at ts i) (all_at IsScalar ts i are.scalars below))
          (small_struct ts are.scalars (omega (arith, is, few)));
      plain = none_plain ts are.plain;
    }

-- ---- the signature: the first nodes are the result and so many arguments

-- the nodes of one type, cut from others
take_nil : (m : ℕ) → take {A = Node} m [] ≡ []
take_nil zero = refl
take_nil (suc m) = refl

take_on : (k m : ℕ) (ns : List Node) → take (k + m) ns ≡ take k ns ++ take m (drop k ns)
take_on zero m ns =
    let e : 0 + m ≡ m = omega arith in
    ap (λ k. take k ns) e
take_on (suc k) m [] = take_nil (suc k + m) ∙ sym (take_nil m)
take_on (suc k) m (n ∷ ns) =
    let e : suc k + m ≡ suc (k + m) = omega arith in
    ap (λ j. take j (n ∷ ns)) e ∙ ap (λ l. n ∷ l) (take_on k m ns)

struct_cut : (nodes : List Node) (at count : ℕ) (d : Node) → at < length nodes → take (at + 1 + count) nodes ≡ take at nodes ++ (get_or nodes at d ∷ take count (drop (at + 1) nodes))
struct_cut nodes at count d below =
    take_on (at + 1) count nodes ∙ ap (λ l. l ++ take count (drop (at + 1) nodes)) (take_more nodes at d below) ∙ append_assoc (take at nodes) (get_or nodes at d ∷ []) (take count (drop (at + 1) nodes))

-- a struct whose members stand behind so many nodes
whole_rest : (k : ℕ) (ns : List Node) → take (length ns - k) (drop k ns) ≡ drop k ns
whole_rest k ns =
    let many = length-drop k ns in
    take_all (length ns - k) (drop k ns) (omega (arith, many))

pub behind_read : (role : Role) (o : Option FfiType) (t : FfiType) (head : Node) (count k : ℕ) (nodes : List Node) → o ≡ Some t → IfSome o (λ u. IsReadAs role (tree_of u) (head ∷ take count (take (length nodes - k) (drop k nodes)))) → IsReadAs role (tree_of t) (head ∷ take count (drop k nodes))
behind_read role o t head count k nodes e h =
    let read : IsReadAs role (tree_of t) (head ∷ take count (take (length nodes - k) (drop k nodes))) = subst (λ it. IfSome it (λ u. IsReadAs role (tree_of u) (head ∷ take count (take (length nodes - k) (drop k nodes))))) e h in
    subst (λ ns. IsReadAs role (tree_of t) (head ∷ take count ns)) (whole_rest k nodes) read

-- a struct, by its own node
by_node : (role : Role) (t : Tree) (n : Node) (ns : List Node) → n.kind ≡ STRUCT → IsReadAs role t (node STRUCT n.count ∷ ns) → IsReadAs role t (n ∷ ns)
by_node role t n ns e is =
    subst (λ m. IsReadAs role t (m ∷ ns)) (sym (same_node n STRUCT n.count e refl)) is

pub struct_result : (t : Tree) (nodes : List Node) (d : Node) → 0 < length nodes → (get_or nodes 0 d).kind ≡ STRUCT → IsReadAs AsResult t (node STRUCT (get_or nodes 0 d).count ∷ take (get_or nodes 0 d).count (drop 1 nodes)) → AreReadSoFar t [] nodes (1 + (get_or nodes 0 d).count)
struct_result t nodes d some e is =
    let n = get_or nodes 0 d in
    let own = by_node AsResult t n (take n.count (drop 1 nodes)) e is in
    record { written = subst (AreWritten (t ∷ [])) (sym (struct_cut nodes 0 n.count d some)) own.written; right_result = own.right; right = tt; plain_result = own.plain; plain = tt; few = omega arith }

-- one argument more
more_read : (ret t : Tree) (args more : List Tree) (nodes here : List Node) (i end : ℕ) → length args < MOST_ARGUMENTS → more ≡ args ++ t ∷ [] → take end nodes ≡ take i nodes ++ here → IsReadAs AsArgument t here → AreReadSoFar ret args nodes i → AreReadSoFar ret more nodes end
more_read ret t args more nodes here i end few e cut is so_far =
    subst (λ ts. AreReadSoFar ret ts nodes end) (sym e)
    (record {
      written = subst (AreWritten (ret ∷ (args ++ t ∷ []))) (sym cut) (written_behind (ret ∷ args) (t ∷ []) (take i nodes) here so_far.written is.written);
      right_result = so_far.right_result;
      right = all_behind IsArgumentType args t so_far.right is.right;
      plain_result = so_far.plain_result;
      plain = all_behind IsPlain args t so_far.plain is.plain;
      few =
          let longer = length-append args (t ∷ []) in
          omega (arith, few, longer);
    })

pub scalar_argument : (ret t : Tree) (args more : List Tree) (nodes : List Node) (at : ℕ) (d : Node) → at < length nodes → length args < MOST_ARGUMENTS → more ≡ args ++ t ∷ [] → AreWritten (t ∷ []) (get_or nodes at d ∷ []) → IsScalar t → IsPlain t → AreReadSoFar ret args nodes at → AreReadSoFar ret more nodes (at + 1)
scalar_argument ret t args more nodes at d below few e w is plain so_far =
    more_read ret t args more nodes (get_or nodes at d ∷ []) at (at + 1) few e (take_more nodes at d below) (record { written = w; right = scalar_right AsArgument t is; plain = plain }) so_far

pub struct_argument : (ret t : Tree) (args more : List Tree) (nodes : List Node) (at : ℕ) (d : Node) → at < length nodes → length args < MOST_ARGUMENTS → (get_or nodes at d).kind ≡ STRUCT → more ≡ args ++ t ∷ [] → IsReadAs AsArgument t (node STRUCT (get_or nodes at d).count ∷ take (get_or nodes at d).count (drop (at + 1) nodes)) → AreReadSoFar ret args nodes at → AreReadSoFar ret more nodes (at + 1 + (get_or nodes at d).count)
struct_argument ret t args more nodes at d below few kind e is so_far =
    let n = get_or nodes at d in
    more_read ret t args more nodes (n ∷ take n.count (drop (at + 1) nodes)) at (at + 1 + n.count) few e (struct_cut nodes at n.count d below) (by_node AsArgument t n (take n.count (drop (at + 1) nodes)) kind is) so_far

-- ---- the whole

no_fault : (ret : Tree) (args : List Tree) → IsResultType ret → AllByRecursion IsArgumentType args → IsPlain ret → AllByRecursion IsPlain args → length args ≤ MOST_ARGUMENTS → (f : SignatureFault) → IsSignatureFault (record { result_type = ret; arguments = args; fixed = None }) f → ⊥
no_fault ret args right rights plain plains few f (over_most over) = omega (arith, over, few)
no_fault ret args right rights plain plains few f (in_result {path} {fault} first) =
    suited_has_none (record { right = right; plain = λ _. plain }) path fault first
no_fault ret args right rights plain plains few f (in_argument {i} {path} {fault} below first) =
    suited_has_none (record { right = all_at IsArgumentType args i rights below; plain = λ _. all_at IsPlain args i plains below }) path fault first
no_fault ret args right rights plain plains few f (fixed_outside e h) = cc
no_fault ret args right rights plain plains few f (promoted e low below is) = cc

pub flat_right : (ret : Tree) (args : List Tree) (nodes : List Node) (i : ℕ) (s : Signature) → AreReadSoFar ret args nodes i → s ≡ record { result_type = ret; arguments = args; fixed = None } → SignatureHasNoFault s
flat_right ret args nodes i s so_far is =
    subst SignatureHasNoFault (sym is) (no_fault ret args so_far.right_result so_far.right so_far.plain_result so_far.plain so_far.few)
