use Rattle.std.proofs.Common.{◌≡◌, ap, sym, ◌∙◌, length}
use Rattle.ffi3_type_spec.specs.Layout.{size_of}
use Rattle.ffi3_explain_spec.proofs.Pieces.{first_bytes-length}
use Rattle.ffi3_transfer.specs.Stored.{image_in}
use Rattle.ffi3_transfer.proofs.Results.{result_there, result_within}
use Rattle.ffi3_capi.proofs.returned.read_result.Goals as goal

pub direct_bytes-requires-clause-there : goal.direct_bytes-requires-clause-there
direct_bytes-requires-clause-there g c =
    let s = c.args.placed.now in
    result_there g.A.Abi.standard s (g.met.A.Abi.sound s) c.in-Direct.pieces (sym c.result_place.ensures ∙ c.in-Direct.is) (image_in c.args.registers.now c.args.stack.now)

pub direct_bytes-requires-clause-within : goal.direct_bytes-requires-clause-within
direct_bytes-requires-clause-within g c =
    let s = c.args.placed.now in
    let sized : c.size.result ≡ size_of s.result_type = c.size.ensures.value ∙ ap size_of c.ret-ty.ensures ∙ ap (λ r. size_of r.result_type) c.placed_sig-sig.ensures in
    result_within g.A.Abi.standard s (g.met.A.Abi.sound s) c.in-Direct.pieces (sym c.result_place.ensures ∙ c.in-Direct.is) c.size.result sized

pub returns-in-Ok-clause-sized : goal.returns-in-Ok-clause-sized
returns-in-Ok-clause-sized g c =
    let s = c.args.placed.now in
    let sized : c.size.result ≡ size_of s.result_type = c.size.ensures.value ∙ ap size_of c.ret-ty.ensures ∙ ap (λ r. size_of r.result_type) c.placed_sig-sig.ensures in
    ap length c.in-Ok.ensures ∙ first_bytes-length (image_in c.args.registers.now c.args.stack.now) 0 c.in-Direct.pieces 0 c.size.result ∙ sized
