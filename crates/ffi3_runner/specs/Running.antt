-- The program that a runner runs.
use Rattle.std.specs.Prelude.{◌≡◌, ◌^◌, ◌<◌, ◌≤◌, List, [], length, None}
use Rattle.ffi3_type_spec.specs.declared.Target.{Target}
use Rattle.ffi3_type_spec.specs.TargetIsa.{isa_of}
use Rattle.ffi3_type_spec.specs.Signature.{Signature}
use Rattle.ffi3_machine_spec.specs.State.{begun_code}
use Rattle.ffi3_machine_spec.specs.Slots.{HoldsMap}
use Rattle.ffi3_place_spec.specs.Standard.{Standard}
use Rattle.ffi3_script_spec.specs.Natives.{NamedNative, program_beside}
use Rattle.ffi3_script.specs.ScriptOf.{script_of, natives_of}
use Rattle.ffi3_script.specs.declared.script.Script.{Script}
use Rattle.ffi3_semantics_spec.specs.Closures.{no_closures}
use Rattle.ffi3_semantics_spec.specs.Meaning.{Program, most_moves}
use Rattle.ffi3_script_spec.specs.Handed.{signatures_in}
use Rattle.ffi3_next_move.specs.declared.standing.Standing.{Standing}
use Rattle.ffi3_run_state.specs.declared.configuration.Configuration.{Configuration}

-- the program of a script beside natives
abbrev pub program : Standard → Script → List NamedNative → Program
program std s natives = program_beside std natives (script_of s)

-- A run is prepared: there is an interface for each of its signatures, and there are as many natives as the script was read beside, at least.
pub record IsPrepared (std : Standard) (s : Script) (natives : List NamedNative) (signatures : List Signature)
    : Type 0 where
  pub are : signatures ≡ (program std s natives).signatures
  pub beside : natives_of s ≤ length natives
  pub few_natives : length natives < 2 ^ 31
  pub few_signatures : length (signatures_in natives) < 2 ^ 31

-- a configuration on which nothing has begun
pub record IsNew (b : Configuration Standing) : Type 0 where
  pub innermost : b.innermost ≡ None
  pub suspended : b.suspended.items ≡ []
  pub served : b.served ≡ None
  pub closures : b.table ≡ no_closures
  -- the code of a machine that begins is that of no closures
  pub begins : (target : Target) → HoldsMap target b.table (begun_code (isa_of target))
  pub moves : b.moves ≡ most_moves
