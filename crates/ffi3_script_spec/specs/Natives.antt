-- Natives beside a script: the names by which it makes closures of them, and what they do.
use Rattle.std.specs.Prelude.{ℕ, List, map}
use Rattle.ffi3_place_spec.specs.Standard.{Standard}
use Rattle.ffi3_semantics_spec.specs.Meaning.{Program, Native, with_natives}
use Rattle.ffi3_script_spec.specs.Script.{Script}
use Rattle.ffi3_script_spec.specs.Meaning.{program_of}

pub record NamedNative : Type 0 where
  pub name : List ℕ
  pub native : Native

abbrev pub names_of : List NamedNative → List (List ℕ)
names_of natives = map (λ n. n.name) natives

-- THE PROGRAM OF A SCRIPT BESIDE NATIVES, by a calling standard
abbrev pub program_beside : Standard → List NamedNative → Script → Program
program_beside std natives script =
    with_natives (program_of std script) (map (λ n. n.native) natives)
