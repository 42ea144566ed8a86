-- The functions of a script, each by its number.
use Rattle.std.proofs.Common.{◌≡◌, ℕ, zero, suc, ◌<◌, Bool, true, List, [], ◌∷◌, length, All, map, ap, sym, ◌∙◌, subst, arith, get_or}
use Rattle.std.specs.Prelude.{nat_lt}
use Rattle.std.specs.List.{list_all}
use Rattle.std.proofs.lemmas.Bool.{ltb-true}
use Rattle.std.proofs.lemmas.List.{get_or-map, length-map}
use Rattle.ffi3_type_spec.specs.Signature.{Signature, signature_at, SignatureHasNoFault}
use Rattle.ffi3_script_spec.specs.Script as script
use Rattle.ffi3_type_spec.specs.FirstFault.{first_signature_fault}
use Rattle.ffi3_script_spec.specs.Typed.{function_is_typed, signature_is_right}
use Rattle.ffi3_script_spec.proofs.Tests.{and_left, and_right}
use Rattle.ffi3_script_spec.proofs.RightTypes.{is_none-none}
use Rattle.ffi3_type_spec.proofs.FirstSignatureFaults.{signature_right_by_none}
use Rattle.ffi3_script.specs.FunctionOf.{function_of, StandsIn}
use Rattle.ffi3_script.specs.declared.script.ScriptFunction.{ScriptFunction}

-- what a test of all items says of one
pub all_at : {A : Type 0} (p : A → Bool) (xs : List A) (i : ℕ) (d : A) → i < length xs → list_all p xs ≡ true → p (get_or xs i d) ≡ true
all_at p [] i d below h = absurd (omega arith)
all_at p (x ∷ xs) zero d below h = and_left (p x) (list_all p xs) h
all_at p (x ∷ xs) (suc i) d below h =
    all_at p xs i d (omega arith) (and_right (p x) (list_all p xs) h)

-- function i of the script is that of the code
pub function_is : (fs : List ScriptFunction) (i : ℕ) (f : ScriptFunction) (d : script.ScriptFunction) → i < length fs → f ≡ get_or fs i f → get_or (map function_of fs) i d ≡ function_of f
function_is fs i f d below is = get_or-map function_of fs i f d below ∙ ap function_of (sym is)

pub stands : (ss : List Signature) (n : ℕ) (fs : List ScriptFunction) (i : ℕ) (f : ScriptFunction) → i < length fs → f ≡ get_or fs i f → All (λ g. StandsIn ss n (signature_at ss g.sig) g.body) fs → StandsIn ss n (signature_at ss f.sig) f.body
stands ss n fs i f below is all =
    subst (λ g. StandsIn ss n (signature_at ss g.sig) g.body) (sym is) (all i f below)

-- the number of its signature is one of the script's
pub signature_below : (ss : List Signature) (n : ℕ) (fs : List ScriptFunction) (i : ℕ) (f : ScriptFunction) → i < length fs → f ≡ get_or fs i f → list_all (function_is_typed ss n) (map function_of fs) ≡ true → f.sig < length ss
signature_below ss n fs i f below is typed =
    let here : function_is_typed ss n (function_of f) ≡ true = subst (λ g. function_is_typed ss n g ≡ true) (function_is fs i f (function_of f) below is) (all_at (function_is_typed ss n) (map function_of fs) i (function_of f) (omega (arith, below, length-map fs function_of)) typed) in
    ltb-true f.sig (length ss) (and_left (nat_lt f.sig (length ss)) _ here)

-- none of right signatures has a fault
pub faultless : (ss : List Signature) → list_all signature_is_right ss ≡ true → All SignatureHasNoFault ss
faultless ss right i d below =
    let s = get_or ss i d in
    signature_right_by_none s (is_none-none (first_signature_fault s) (all_at signature_is_right ss i d below right))
