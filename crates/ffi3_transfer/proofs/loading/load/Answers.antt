use Rattle.std.proofs.Common.{◌≡◌, length, ap, sym, ◌∙◌, arith}
use Rattle.ffi3_type_spec.specs.Layout.{size_of}
use Rattle.ffi3_place_spec.specs.declared.Res.TheVariants.{Direct}
use Rattle.ffi3_explain_spec.specs.Explain.{first_bytes}
use Rattle.ffi3_transfer.specs.Stored.{image_in}
use Rattle.ffi3_transfer.proofs.Results.{buffer_within, result_there, result_within, is_loaded}
use Rattle.ffi3_transfer.proofs.loading.load.Goals as goal

pub read_pieces-requires-clause-there : goal.read_pieces-requires-clause-there
read_pieces-requires-clause-there g c =
    let s = c.args.placed.now in
    result_there g.A.Abi.standard s (g.met.A.Abi.sound s) c.in-Direct.pieces (sym c.result_place.ensures ∙ c.in-Direct.is) (image_in c.args.registers.now c.args.stack.now)

pub read_pieces-requires-clause-within : goal.read_pieces-requires-clause-within
read_pieces-requires-clause-within g c =
    let s = c.args.placed.now in
    let sized : length c.args.out.now ≡ size_of s.result_type = omega (arith, c.if-out-wanted.false, c.size-wanted.ensures.value, ap size_of c.ret.ensures, ap (λ r. size_of r.result_type) c.placed_sig.ensures) in
    result_within g.A.Abi.standard s (g.met.A.Abi.sound s) c.in-Direct.pieces (sym c.result_place.ensures ∙ c.in-Direct.is) (length c.args.out.now) sized

pub slice_bounds-copy_from_slice-end : goal.slice_bounds-copy_from_slice-end
slice_bounds-copy_from_slice-end g c =
    let s = c.args.placed.now in
    let within = buffer_within g.A.Abi.standard s c.in-Hidden.at c.in-Hidden.buffer (sym c.result_place.ensures ∙ c.in-Hidden.is) in
    omega (arith, within, c.if-stack-frame.false, c.frame-frame.ensures, c.size-wanted.ensures.value, ap size_of c.ret.ensures, ap (λ r. size_of r.result_type) c.placed_sig.ensures)

pub returns-in-Direct-clause-ok : goal.returns-in-Direct-clause-ok
returns-in-Direct-clause-ok g c =
    let s = c.args.placed.now in
    let m = image_in c.args.registers.now c.args.stack.now in
    let sized : length c.args.out.now ≡ size_of s.result_type = omega (arith, c.if-out-wanted.false, c.size-wanted.ensures.value, ap size_of c.ret.ensures, ap (λ r. size_of r.result_type) c.placed_sig.ensures) in
    is_loaded g.A.Abi.standard s m (Direct c.in-Direct.pieces) c.read_pieces.new.out (g.met.A.Abi.sound s) (sym c.in-Direct.is ∙ c.result_place.ensures) (c.read_pieces.ensures ∙ ap (first_bytes m 0 c.in-Direct.pieces 0) sized) (omega (arith, c.if-stack-frame.false, c.frame-frame.ensures))
