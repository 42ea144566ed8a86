use Rattle.ffi3_script_spec.specs.Handed.{handed}
use Rattle.ffi3_app.proofs.Naming.{name_here}
use Rattle.ffi3_app.proofs.names.name_at.Goals as goal

pub returns : goal.returns
returns g c =
    name_here (handed _ _ _ c.args.natives.now.items) c.args.i _ c.name_of.result.now c.native_at.ensures c.name_of.ensures
