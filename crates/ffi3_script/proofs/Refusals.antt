-- What a fault of reading tells of the bytes.
use Rattle.std.proofs.Common.{◌≡◌, ℕ, List, Result, Ok, Err, IfErr, IsErrAnd, sym, subst}
use Rattle.serde_json.specs.Data.{Data}
use Rattle.ffi3_script_spec.specs.Language.{read, fault}
use Rattle.ffi3_script_spec.specs.Script.{Script}
use Rattle.ffi3_script_spec.specs.Bodies.{read_script}
use Rattle.ffi3_script_spec.specs.Reading.{IsJson, IsTheReading, too_long, not_json, bad_script, script}
use Rattle.ffi3_script_spec.proofs.Readings.{the_reading}
use Rattle.ffi3_json.specs.ReasonOf.{reason_of}
use Rattle.ffi3_json.specs.Reports.{Reports, IsCauseOf}
use Rattle.ffi3_json.specs.declared.fault.ScriptFault.{ScriptFault}
use Rattle.ffi3_json.specs.declared.fault.ScriptFault.TheVariants.{TooLong, BadJson, BadScript, NoMemory}
use Rattle.ffi3_script.specs.Refusal.{IsScriptRefusal}

module _ (natives : List (List ℕ)) (bytes : List ℕ) where
  pub refused-text : (e : ScriptFault) → IsCauseOf bytes e → IsScriptRefusal natives bytes e
  refused-text TooLong h = the_reading natives bytes too_long h
  refused-text BadJson h = the_reading natives bytes not_json h
  refused-text (BadScript path why) h = absurd h
  refused-text NoMemory h = tt

  pub refused-value : (d : Data) → IsJson bytes d → (e : ScriptFault) → Reports (λ p r. read_script natives d ≡ fault p r) e → IsScriptRefusal natives bytes e
  refused-value d is TooLong h = absurd h
  refused-value d is BadJson h = absurd h
  refused-value d is (BadScript path why) h = the_reading natives bytes (bad_script path (reason_of why)) (d, is, h)
  refused-value d is NoMemory h = tt

  pub accepted : (d : Data) → IsJson bytes d → (s : Script) → read_script natives d ≡ read s → IsTheReading natives bytes (script s)
  accepted d is s h = the_reading natives bytes (script s) (d, is, h)

  -- by `?`
  pub refusal_handed_on : {A : Type 0} (e : ScriptFault) → IsScriptRefusal natives bytes e → (z : Result A ScriptFault) → IsErrAnd z (λ f. f ≡ e) → IfErr z (IsScriptRefusal natives bytes)
  refusal_handed_on e told (Ok a) is = tt
  refusal_handed_on e told (Err f) is = subst (IsScriptRefusal natives bytes) (sym is) told
