-- A script beside no natives.
use Rattle.std.proofs.Common.{◌≡◌, [], append-nil}
use Rattle.ffi3_place_spec.specs.Standard.{Standard}
use Rattle.ffi3_semantics_spec.specs.Meaning.{Program}
use Rattle.ffi3_script_spec.specs.Script.{Script}
use Rattle.ffi3_script_spec.specs.Meaning.{program_of}
use Rattle.ffi3_script_spec.specs.Natives.{program_beside}

pub beside_none : (std : Standard) (script : Script) → program_beside std [] script ≡ program_of std script
beside_none std script =
    let p : Program = program_of std script in
    λ i. record p { signatures = append-nil p.signatures i; functions = append-nil p.functions i }
