use Rattle.std.proofs.Common.{ℕ, length, ap, ◌∙◌}
use Rattle.ffi3_transfer.specs.Stored.{image_in}
use Rattle.ffi3_capi.specs.Returned.{result_of}
use Rattle.ffi3_capi.proofs.Results.{found_by}
use Rattle.ffi3_capi.proofs.returned.find_by.Goals as goal

pub returns-in-Ok-read_result-clause-found : goal.returns-in-Ok-read_result-clause-found
returns-in-Ok-read_result-clause-found g c =
    let bytes = c.in-Ok-read_result.bytes in
    let told = c.told.ensures ∙ ap (λ (n : ℕ). result_of n 0 c.fault_with.result) c.len.ensures ∙ ap (result_of (length bytes) 0) c.fault_with.ensures in
    found_by g.A.Abi.standard c.in-Ok.placed c.args.sig (image_in c.args.registers.now c.args.stack.now) (record { told = c.told.result; bytes = bytes }) c.in-Ok.ensures (g.met.A.Abi.sound c.args.sig) c.in-Ok-read_result.ensures.bytes c.in-Ok-read_result.ensures.sized told
