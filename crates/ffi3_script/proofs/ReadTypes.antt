-- Types that are asked for, and types that are read.
use Rattle.std.proofs.Common.{◌≡◌, ℕ, Bool, true, false, List, refl, sym, ap, ◌∙◌, ◌↔◌, IsTrue}
use Rattle.std.specs.Prelude.{if◌then◌else◌}
use Rattle.std.proofs.lemmas.Bool.{false≢true}
use Rattle.serde_json.specs.Data.{Data}
use Rattle.ffi3_type_spec.specs.declared.Role.TheVariants.{AsArgument}
use Rattle.ffi3_type_spec.specs.Tree.{Tree}
use Rattle.ffi3_type_spec.specs.Fault as type_fault
use Rattle.ffi3_type_spec.specs.Fault.{IsFirstFault, IsArgumentType}
use Rattle.ffi3_type_spec.specs.Same.{same_tree}
use Rattle.ffi3_types.specs.declared.FfiType.{FfiType}
use Rattle.ffi3_types.specs.TreeOf.{tree_of}
use Rattle.ffi3_types.proofs.Trees.{tree_of-inj}
use Rattle.ffi3_script_spec.specs.Language.{JsonPath, Read, read, fault, and_then, read_type, inside_type, reason_of_type_fault, wrong_type}
use Rattle.ffi3_script_spec.specs.Script.{Expression}
use Rattle.ffi3_script_spec.specs.Values.{against, typed, read_right_type, right_type}
use Rattle.ffi3_type_spec.proofs.FirstFaults.{found_by_first, none_found}
use Rattle.ffi3_script_spec.proofs.Tests.{types_are_same, type_is_itself}

-- ---- one step after another

then_read : {A B : Type 0} (f : A → Read B) (x : Read A) (a : A) → x ≡ read a → and_then f x ≡ f a
then_read f x a e = ap (and_then f) e

-- ---- the type that is asked for

pub not_so : (b : Bool) → (b ≡ true → ⊥) → b ≡ false
not_so true h = absurd (h refl)
not_so false h = refl

same_by : (own ty : FfiType) (b : Bool) → (IsTrue b ↔ (own ≡ ty)) → same_tree (tree_of own) (tree_of ty) ≡ b
same_by own ty true iff =
    ap (λ t. same_tree (tree_of own) (tree_of t)) (sym (iff.0 refl)) ∙ type_is_itself (tree_of own)
same_by own ty false iff =
    not_so (same_tree (tree_of own) (tree_of ty)) (λ h. false≢true (iff.1 (tree_of-inj own ty (types_are_same (tree_of own) (tree_of ty) h))))

pub against-is : (own ty : FfiType) (path : JsonPath) (e : Expression) (b r : Bool) → (IsTrue b ↔ (own ≡ ty)) → b ≡ r
    → against (tree_of ty) path (typed (tree_of own) e) ≡ (if r then read e else fault path wrong_type)
against-is own ty path e b r iff is =
    ap (λ x. if x then read e else fault path wrong_type) (same_by own ty b iff ∙ is)

-- ---- a type that may be an argument's

pub right_type-ok : (version : ℕ) (d : Data) (path : JsonPath) (t : Tree) → read_type version d path ≡ read t → IsArgumentType t → read_right_type version d path ≡ read t
right_type-ok version d path t was right =
    then_read _ (read_type version d path) t was ∙ ap (right_type path t) (none_found 0 AsArgument t right)

pub right_type-fault : (version : ℕ) (d : Data) (path : JsonPath) (t : Tree) (way : List ℕ) (f : type_fault.Fault) → read_type version d path ≡ read t → IsFirstFault 0 AsArgument t way f
    → read_right_type version d path ≡ fault (inside_type path t way) (reason_of_type_fault f)
right_type-fault version d path t way f was first =
    then_read _ (read_type version d path) t was ∙ ap (right_type path t) (found_by_first 0 AsArgument t way f first)
