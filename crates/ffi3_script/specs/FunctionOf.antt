-- The functions and the script that the Rust ones stand for.
use Rattle.std.specs.Prelude.{◌≡◌, ℕ, List, map, string_bytes}
use Rattle.ffi3_type_spec.specs.Signature.{Signature}
use Rattle.ffi3_script_spec.specs.Script as script
use Rattle.ffi3_script_body.specs.BodyOf.{moves_of, signatures_of, functions_of, signature_of}
use Rattle.ffi3_script_body.specs.declared.body.ScriptBody.{ScriptBody}
use Rattle.ffi3_script.specs.declared.script.ScriptFunction.{ScriptFunction}

abbrev pub function_of : ScriptFunction → script.ScriptFunction
function_of f =
    record { name = string_bytes f.name; signature = f.sig; body = moves_of f.body }

-- the script of this version, these signatures, functions and main
abbrev pub script_from : ℕ → List Signature → List ScriptFunction → ScriptBody → script.Script
script_from version signatures functions main = record {
  version = version;
  signatures = signatures;
  functions = map function_of functions;
  main = moves_of main;
}

-- A body stands in a script: it counts in the script's signatures and functions, and is called by this signature.
pub record StandsIn (signatures : List Signature) (functions : ℕ) (own : Signature) (b : ScriptBody) : Type 0 where
  pub signatures_are : signatures_of b ≡ signatures
  pub functions_are : functions_of b ≡ functions
  pub own_is : signature_of b ≡ own
