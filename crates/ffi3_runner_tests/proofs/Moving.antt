-- A run of main whose caller does its moves one at a time.
use Rattle.std.proofs.Common.{◌≡◌, List, sym, subst}
use Rattle.ffi3_type_spec.specs.Signature.{Signature}
use Rattle.ffi3_place_spec.specs.Standard.{Standard}
use Rattle.ffi3_machine_spec.specs.State.{State}
use Rattle.ffi3_script_spec.specs.Natives.{NamedNative}
use Rattle.ffi3_script.specs.declared.script.Script.{Script}
use Rattle.ffi3_next_move.specs.declared.standing.Standing.{Standing}
use Rattle.ffi3_run_state.specs.declared.configuration.Configuration.{Configuration}
use Rattle.ffi3_runner.specs.Agreeing.{PositionsAgree}
use Rattle.ffi3_runner.specs.Ready.{CanGoOn, traced_or_not}
use Rattle.ffi3_runner.specs.Running.{IsPrepared, program}

-- what a turn asks for
pub record CanTurn (std : Standard) (s : Script) (natives : List NamedNative) (cifs : List Signature) (m : State) (b : Configuration Standing) : Type 0 where
  pub prepared : IsPrepared std s natives cifs
  pub standing : PositionsAgree s natives cifs m b
  pub between : CanGoOn std (program std s natives) traced_or_not b m

-- the same by the names that the runner has after a call
pub can_as : (std : Standard) (s s' : Script) (natives natives' : List NamedNative) (cifs cifs' : List Signature) (m : State) (b : Configuration Standing) → s' ≡ s → natives' ≡ natives → cifs' ≡ cifs → CanTurn std s natives cifs m b → CanTurn std s' natives' cifs' m b
can_as std s s' natives natives' cifs cifs' m b i j k h =
    let P = λ (x : Script). CanTurn std x natives' cifs' m b in
    let Q = λ (x : List NamedNative). CanTurn std s x cifs' m b in
    let R = λ (x : List Signature). CanTurn std s natives x m b in
    subst P (sym i) (subst Q (sym j) (subst R (sym k) h))
