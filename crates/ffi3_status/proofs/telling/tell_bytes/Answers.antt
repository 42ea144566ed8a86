use Rattle.ffi3_app_spec.specs.FaultLines.{whole, cut}
use Rattle.ffi3_status.proofs.telling.tell_bytes.Goals as goal

pub returns-in-Ok : goal.returns-in-Ok
returns-in-Ok g c =
    whole (record { added = c.in-Ok.ensures.adds; count = c.in-Ok.ensures.same })

pub returns-in-Err : goal.returns-in-Err
returns-in-Err g c = cut c.in-Err.ensures.part c.in-Err.ensures.failed
