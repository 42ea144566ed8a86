-- Whose body an activation runs, and that where it stands agrees with what it has seen.
use Rattle.std.specs.Prelude.{◌≡◌, ℕ, ◌+◌, ◌-◌, ◌<◌, ◌≤◌, List, [], length, Some, slice_get}
use Rattle.ffi3_type_spec.specs.Signature.{signature_at}
use Rattle.ffi3_place_spec.specs.Standard.{Standard}
use Rattle.ffi3_semantics_spec.specs.Meaning.{Who, main, function, Native}
use Rattle.ffi3_semantics_spec.specs.SeenActivation.{SeenActivation, arguments_of}
use Rattle.ffi3_semantics_spec.specs.Follow.{ResultsFollow}
use Rattle.ffi3_script_spec.specs.Natives.{NamedNative, program_beside}
use Rattle.ffi3_script_body.specs.Agrees.{Agrees}
use Rattle.ffi3_script_body.specs.BodyOf.{signatures_of, signature_of, meaning_of}
use Rattle.ffi3_script_body.specs.declared.body.ScriptBody.{ScriptBody}
use Rattle.ffi3_script_body.specs.declared.cursor.Cursor.{Cursor}
use Rattle.ffi3_script.specs.ScriptOf.{script_of, main_body, body_at}
use Rattle.ffi3_script.specs.declared.script.Script.{Script}
use Rattle.ffi3_next_move.specs.Asked.{own_signature}
use Rattle.ffi3_script_spec.specs.Handed.{natives_in, signatures_before}
use Rattle.ffi3_next_move.specs.declared.standing.Standing.{Standing}
use Rattle.ffi3_next_move.specs.declared.standing.Standing.TheVariants.{InMain, InFunction, InNative}

-- whose body it is, by the numbers of the run
abbrev pub who_of : Standing → Who
who_of (InMain cursor) = main
who_of (InFunction number cursor) = function number
who_of (InNative number first) = function number

-- An activation stands in a body of the script: it is called by the body's signature, its results follow, and the cursor agrees with them.
pub record IsInBody (b : ScriptBody) (a : SeenActivation) (c : Cursor) : Type 0 where
  pub own : a.signature ≡ signature_of b
  pub follow : ResultsFollow (signatures_of b) (meaning_of b) (arguments_of a) a.user a.results
  pub agrees : Agrees b a c

-- It stands in a native: it is called by the first of the native's signatures, and its results follow.
pub record IsInNative (n : Native) (a : SeenActivation) : Type 0 where
  pub own : a.signature ≡ signature_at n.signatures 0
  pub follow : ResultsFollow n.signatures n.behaviour (arguments_of a) a.user a.results

-- in the body of function k of the script
pub record IsInFunction (s : Script) (k : ℕ) (a : SeenActivation) (c : Cursor) : Type 0 where
  pub below : k < length (script_of s).functions
  pub body : ScriptBody
  pub is : body_at s k ≡ Some body
  pub stands : IsInBody body a c

-- function k of the run is this native, and its signatures begin at this number
pub record IsNative (s : Script) (ns : List NamedNative) (k first : ℕ) (n : NamedNative) : Type 0 where
  pub above : length (script_of s).functions ≤ k
  pub is : slice_get ns (k - length (script_of s).functions) ≡ Some n
  pub begins :
      first ≡ length (script_of s).signatures + signatures_before (natives_in ns) (k - length (script_of s).functions)

-- in the native that is function k of the run
pub record IsInHanded (s : Script) (ns : List NamedNative) (k first : ℕ) (a : SeenActivation) : Type 0 where
  pub native : NamedNative
  pub is : IsNative s ns k first native
  pub stands : IsInNative native.native a

-- WHERE AN ACTIVATION STANDS agrees with what it has seen, in a script beside these natives.
abbrev pub StandingAgrees : Script → List NamedNative → SeenActivation → Standing → Type 0
StandingAgrees s ns a (InMain cursor) = IsInBody (main_body s) a cursor
StandingAgrees s ns a (InFunction k cursor) = IsInFunction s k a cursor
StandingAgrees s ns a (InNative k first) = IsInHanded s ns k first a

-- Where function k of the run stands BEFORE ITS FIRST MOVE: it agrees with any activation of its signature that has no results.
pub record IsBeforeMoves (s : Script) (ns : List NamedNative) (k : ℕ) (x : Standing) : Type 0 where
  pub who : who_of x ≡ function k
  pub agrees : (std : Standard) (a : SeenActivation)
      → a.signature ≡ own_signature (program_beside std ns (script_of s)) (function k) → a.results ≡ []
      → StandingAgrees s ns a x
