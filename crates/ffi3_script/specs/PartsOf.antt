-- The headings, functions and script that the Rust ones stand for.
use Rattle.std.specs.Prelude.{◌≡◌, ℕ, List, map, string_bytes, codes}
use Rattle.serde_json.specs.Data.{Data, Items}
use Rattle.ffi3_semantics_spec.specs.Move.{no_signature}
use Rattle.ffi3_script_spec.specs.Language.{Read, JsonPath, and_then, read_map, under, value_under}
use Rattle.ffi3_script_spec.specs.Bodies.{read_body, read_bodies}
use Rattle.ffi3_type_spec.specs.Signature.{Signature}
use Rattle.ffi3_script_spec.specs.Script as script
use Rattle.ffi3_script_spec.specs.Bodies as bodies
use Rattle.ffi3_script_body.specs.ExprOf.{script_moves_of}
use Rattle.ffi3_script_body.specs.declared.moves.ScriptMove.{ScriptMove}
use Rattle.ffi3_script.specs.declared.functions.Heading.{Heading}
use Rattle.ffi3_script.specs.declared.functions.FunctionPart.{FunctionPart}

abbrev pub heading_of : Heading → bodies.Heading
heading_of h = record { name = string_bytes h.name; signature = h.sig }

abbrev pub headings_of : List Heading → List bodies.Heading
headings_of hs = map heading_of hs

abbrev pub part_of : FunctionPart → script.ScriptFunction
part_of f =
    record { name = string_bytes f.name; signature = f.sig; body = script_moves_of f.moves.items }

-- the script of this version, these signatures, functions and main
abbrev pub script_in : ℕ → List Signature → List FunctionPart → List ScriptMove → script.Script
script_in version signatures functions main = record {
  version = version;
  signatures = signatures;
  functions = map part_of functions;
  main = script_moves_of main;
}

-- The bodies of functions of these headings, and then main. The language has it at the root, and the names are those of the functions and then of the natives.
abbrev pub bodies_and_main : (version : ℕ) → List Signature → List (List ℕ) → List bodies.Heading → Items → Data
    → JsonPath → Read script.Script
bodies_and_main version signatures names hs fs d path =
    and_then
    (λ functions. read_map
    (λ main. record { version = version; signatures = signatures; functions = functions; main = main })
    (read_body
    (record { version = version; signatures = signatures; functions = names; own = no_signature })
    (value_under (codes "main") d) (under path (codes "main"))))
    (read_bodies version signatures names hs fs (under path (codes "functions")) 0)

-- the function has this name and this signature
pub record IsHeaded (h : Heading) (f : FunctionPart) : Type 0 where
  pub named : string_bytes f.name ≡ string_bytes h.name
  pub signed : f.sig ≡ h.sig
