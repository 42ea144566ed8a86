-- What a refusal tells, told of another value.
use Rattle.std.proofs.Common.{◌≡◌, sym, ◌∙◌, subst, Result, Ok, Err, IfErr, IsErrAnd}
use Rattle.ffi3_script_spec.specs.Language.{JsonPath, Reason, Read, fault}
use Rattle.ffi3_json.specs.ReasonOf.{reason_of}
use Rattle.ffi3_json.specs.Reports.{Reports}
use Rattle.ffi3_json.specs.declared.fault.ScriptFault.{ScriptFault}
use Rattle.ffi3_json.specs.declared.fault.ScriptFault.TheVariants.{TooLong, BadJson, BadScript, NoMemory}

pub tells_more : {P Q : JsonPath → Reason → Type 0} → ((p : JsonPath) (r : Reason) → P p r → Q p r) → (e : ScriptFault) → Reports P e → Reports Q e
tells_more f TooLong t = t
tells_more f BadJson t = t
tells_more f (BadScript path why) t = f path (reason_of why) t
tells_more f NoMemory t = tt

pub same_fault : {A : Type 0} {p q : JsonPath} {r s : Reason} → p ≡ q → r ≡ s → ◌≡◌ {A = Read A} (fault q s) (fault p r)
same_fault e f = λ i. fault (sym e i) (sym f i)

-- the fault is that which was made at the place
pub tells_made : {A : Type 0} (x : Read A) (at : JsonPath) (why : Reason) → x ≡ fault at why → (e : ScriptFault) → Reports (λ p r. (p ≡ at) × (r ≡ why)) e → Reports (λ p r. x ≡ fault p r) e
tells_made x at why is TooLong t = t
tells_made x at why is BadJson t = t
tells_made x at why is (BadScript path reason) t = is ∙ same_fault t.0 t.1
tells_made x at why is NoMemory t = tt

-- the fault is that of a part
pub tells_part : {A B : Type 0} (x : Read A) (y : Read B) → ((p : JsonPath) (r : Reason) → y ≡ fault p r → x ≡ fault p r) → (e : ScriptFault) → Reports (λ p r. y ≡ fault p r) e → Reports (λ p r. x ≡ fault p r) e
tells_part x y f TooLong t = t
tells_part x y f BadJson t = t
tells_part x y f (BadScript path reason) t = f path (reason_of reason) t
tells_part x y f NoMemory t = tt

-- what `?` hands on is told of another value
pub handed_on : {A : Type 0} (P Q : JsonPath → Reason → Type 0) → ((p : JsonPath) (r : Reason) → P p r → Q p r) → (x : Result A ScriptFault) (e : ScriptFault) → IsErrAnd x (λ f. f ≡ e) → Reports P e → IfErr x (Reports Q)
handed_on P Q more (Ok a) e is t = tt
handed_on P Q more (Err f) e is t = tells_more {P = P} {Q = Q} more f (subst (Reports P) (sym is) t)

-- the fault is that of a part, handed on by `?`
pub part_handed_on : {A B C : Type 0} (x : Read A) (y : Read B) → ((p : JsonPath) (r : Reason) → y ≡ fault p r → x ≡ fault p r) → (z : Result C ScriptFault) (e : ScriptFault) → IsErrAnd z (λ f. f ≡ e) → Reports (λ p r. y ≡ fault p r) e → IfErr z (Reports (λ p r. x ≡ fault p r))
part_handed_on x y more z e is t = handed_on (λ p r. y ≡ fault p r) (λ p r. x ≡ fault p r) more z e is t
