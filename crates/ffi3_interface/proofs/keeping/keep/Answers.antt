use Rattle.ffi3_interface.proofs.Answering.{kept_of}
use Rattle.ffi3_interface.proofs.keeping.keep.Goals as goal

pub returns-in-Ok-new : goal.returns-in-Ok-new
returns-in-Ok-new c =
    kept_of c.args.to c.args.sig c.in-Ok-new.kept.value c.in-Ok.prepared c.in-Ok-new.ensures c.in-Ok.ensures.target c.in-Ok.ensures.signature
