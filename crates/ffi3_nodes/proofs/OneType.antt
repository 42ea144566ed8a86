-- The nodes of one type.
use Rattle.std.proofs.Common.{◌≡◌, ℕ, List, [], ◌∷◌, ◌++◌, length, ap, sym, ◌∙◌, refl, subst, arith, append-nil}
use Rattle.ffi3_type_spec.specs.declared.Role.TheVariants.{AsResult}
use Rattle.ffi3_type_spec.specs.Tree.{Tree}
use Rattle.ffi3_type_spec.specs.Fault.{IsFault, IsFirstFault}
use Rattle.ffi3_types.specs.declared.fault.TypeFault.{TypeFault}
use Rattle.ffi3_types.specs.FaultOf.{path_of, fault_of}
use Rattle.ffi3_nodes.specs.declared.Node.{Node}
use Rattle.ffi3_nodes.specs.Nodes.{IsWritten, AreWritten, none, one_more}
use Rattle.ffi3_nodes.specs.Read.{AreOfOthers, HasNoResultType}
use Rattle.ffi3_nodes.proofs.Unique.{only_types}

none_behind : (ts : List Tree) (ns : List Node) → AreWritten ts ns → length ts ≡ 0 → ns ≡ []
none_behind ts ns none e = refl
none_behind ts ns (one_more t us ls ks all w ws f) e = absurd (omega (arith, e))

alone : (t : Tree) (ts : List Tree) (ns : List Node) → AreWritten (t ∷ ts) ns → length ts ≡ 0 → IsWritten t ns
alone t ts ns (one_more t' us ls ks all w ws f) e =
    let none_left : ks ≡ [] = none_behind ts ks ws e in
    subst (IsWritten t) (sym (f ∙ ap (λ l. ls ++ l) none_left ∙ append-nil ls)) w

-- the first of as many as one
pub first_alone : (t : Tree) (types left : List Tree) (ns : List Node) (count : ℕ) → AreWritten types ns → count ≡ length types → count ≡ 1 → types ≡ t ∷ left → IsWritten t ns
first_alone t types left ns count w counted one is =
    let longer = ap length is in
    alone t left ns (subst (λ ts. AreWritten ts ns) is w) (omega (arith, counted, one, longer))

listed : (t : Tree) (ns : List Node) → IsWritten t ns → AreWritten (t ∷ []) ns
listed t ns is = one_more t [] ns [] ns is none (sym (append-nil ns))

-- there is no other
pub one_type_alone : (t u : Tree) (ns : List Node) → IsWritten t ns → IsWritten u ns → u ≡ t
one_type_alone t u ns w v =
    let same : u ∷ [] ≡ t ∷ [] = only_types (u ∷ []) (t ∷ []) ns ns (listed u ns v) (listed t ns w) refl in
    cc same

-- so those of several are none that can be a result's
pub others_alone : (ns : List Node) (count : ℕ) → AreOfOthers ns count → HasNoResultType ns
others_alone ns count are =
    λ t w right. are.others (are.counted ∙ ap length (only_types are.types (t ∷ []) ns ns are.written (listed t ns w) refl))

-- nor are those of a type that has a fault
pub faulty_alone : (ns : List Node) (t : Tree) (e : TypeFault) → IsWritten t ns → IsFirstFault 0 AsResult t (path_of e) (fault_of e) → HasNoResultType ns
faulty_alone ns t e w first =
    λ u v right. right (path_of e) (fault_of e) (subst (λ x. IsFault 0 AsResult x (path_of e) (fault_of e)) (sym (one_type_alone t u ns w v)) first.is_there)
