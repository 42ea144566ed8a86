-- A fault that is told of a part, told of the whole.
use Rattle.std.proofs.Common.{◌≡◌, ap, sym, ◌∙◌, subst}
use Rattle.ffi3_script_spec.specs.Language as language
use Rattle.ffi3_script_spec.specs.Language.{JsonPath}
use Rattle.ffi3_json.specs.Reports.{Reports}
use Rattle.ffi3_json.specs.declared.fault.ScriptFault.{ScriptFault}
use Rattle.ffi3_json.specs.declared.fault.ScriptFault.TheVariants as scripts
use Rattle.ffi3_image_spec.specs.Object.{Reason, Read, read, fault, and_then, of_script}
use Rattle.ffi3_image.specs.FaultOf.{reason_of, fault_of}
use Rattle.ffi3_image.specs.Tells.{Tells}
use Rattle.ffi3_image.specs.declared.fault.ImageFault.{ImageFault}
use Rattle.ffi3_image.specs.declared.fault.ImageFault.TheVariants.{TooLong, BadJson, BadImage, NoMemory}

pub then_fault : {A B : Type 0} (f : A → Read B) (x : Read A) (p : JsonPath) (r : Reason) → x ≡ fault p r → and_then f x ≡ fault p r
then_fault f x p r e = ap (and_then f) e

pub then_read : {A B : Type 0} (f : A → Read B) (x : Read A) (a : A) → x ≡ read a → and_then f x ≡ f a
then_read f x a e = ap (and_then f) e

pub tells_more : (P Q : JsonPath → Reason → Type 0) → ((p : JsonPath) (r : Reason) → P p r → Q p r) → (f : ImageFault) → Tells P f → Tells Q f
tells_more P Q on TooLong h = h
tells_more P Q on BadJson h = h
tells_more P Q on (BadImage path why) h = on path (reason_of why) h
tells_more P Q on NoMemory h = tt

-- of the fault of a part
pub tells_part : {A B : Type 0} (whole : Read A) (part : Read B) → ((p : JsonPath) (r : Reason) → part ≡ fault p r → whole ≡ fault p r) → (f : ImageFault) → Tells (λ p r. part ≡ fault p r) f → Tells (λ p r. whole ≡ fault p r) f
tells_part whole part on f h =
    tells_more (λ p r. part ≡ fault p r) (λ p r. whole ≡ fault p r) on f h

-- of a fault that is made
pub tells_made : {A : Type 0} (whole : Read A) (place : JsonPath) (reason : Reason) → whole ≡ fault place reason → (f : ImageFault) → Tells (λ p r. (p ≡ place) × (r ≡ reason)) f → Tells (λ p r. whole ≡ fault p r) f
tells_made whole place reason is f h =
    tells_more (λ p r. (p ≡ place) × (r ≡ reason)) (λ p r. whole ≡ fault p r) (λ p r same. is ∙ (λ i. fault (sym same.0 i) (sym same.1 i))) f h

-- of a fault that a script has
pub tells_of_script : {A : Type 0} (part : language.Read A) (f : ScriptFault) → Reports (λ p r. part ≡ language.fault p r) f → Tells (λ p r. of_script part ≡ fault p r) (fault_of f)
tells_of_script part scripts.TooLong h = h
tells_of_script part scripts.BadJson h = h
tells_of_script part (scripts.BadScript path why) h = ap of_script h
tells_of_script part scripts.NoMemory h = tt

pub told_of_script : {A : Type 0} (part : language.Read A) (f : ScriptFault) (told : ImageFault) → told ≡ fault_of f → Reports (λ p r. part ≡ language.fault p r) f → Tells (λ p r. of_script part ≡ fault p r) told
told_of_script part f told is h =
    subst (Tells (λ p r. of_script part ≡ fault p r)) (sym is) (tells_of_script part f h)
