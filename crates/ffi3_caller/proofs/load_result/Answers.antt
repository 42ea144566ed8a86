use Rattle.std.proofs.Common.{◌+◌, length, ap, sym, ◌∙◌, subst, arith}
use Rattle.ffi3_type_spec.specs.TargetIsa.{isa_of}
use Rattle.ffi3_type_spec.specs.Value.{value_in}
use Rattle.ffi3_type_spec.proofs.Placed.{faultless_is_plain}
use Rattle.ffi3_place_spec.specs.Standard.{plan_of, frame_of}
use Rattle.ffi3_place_spec.proofs.OnMachine.{as_before}
use Rattle.ffi3_machine_spec.specs.State.{stack_at}
use Rattle.ffi3_caller.specs.Called.{at_frame, frame_start}
use Rattle.ffi3_caller.proofs.Framing.{loaded_moved}
use Rattle.ffi3_machine_transfer.specs.Passing.{passing}
use Rattle.ffi3_caller.specs.Loaded.{AreWithin}
use Rattle.ffi3_machine_transfer.proofs.Outcomes.{buffer_within}
use Rattle.ffi3_caller.proofs.Results.{are_within, in_registers, direct_value, hidden_value}
use Rattle.ffi3_caller.proofs.load_result.Goals as goal

pub load_pieces-requires-clause-registers : goal.load_pieces-requires-clause-registers
load_pieces-requires-clause-registers g c =
    let s = c.args.cif.now in
    let sound = as_before g.A.Abi.standard s (g.met.A.Abi.sound s) (faultless_is_plain s c.sig-sig.ensures.faultless) in
    in_registers (isa_of g.A.Abi.standard.target) (plan_of g.A.Abi.standard c.args.cif.now).res c.in-Direct.pieces (sym c.result_place.ensures ∙ c.in-Direct.is) sound.result_in_registers

pub load_pieces-requires-clause-within : goal.load_pieces-requires-clause-within
load_pieces-requires-clause-within g c =
    let s = c.args.cif.now in
    let sound = as_before g.A.Abi.standard s (g.met.A.Abi.sound s) (faultless_is_plain s c.sig-sig.ensures.faultless) in
    subst (λ n. AreWithin n c.in-Direct.pieces) (sym c.requires.sized) (are_within s.result_type (plan_of g.A.Abi.standard s).res c.in-Direct.pieces (sym c.result_place.ensures ∙ c.in-Direct.is) sound.result_has_all)

pub lend_stack-requires-clause-high : goal.lend_stack-requires-clause-high
lend_stack-requires-clause-high g c =
    omega (arith, c.requires.frame, c.requires.sized, c.frame_start-base.ensures, buffer_within g.A.Abi.standard c.args.cif.now c.in-Hidden.at c.in-Hidden.buffer (sym c.result_place.ensures ∙ c.in-Hidden.is))

pub returns-in-Direct-clause-value : goal.returns-in-Direct-clause-value
returns-in-Direct-clause-value g c = λ v own.
    let s = c.args.cif.now in
    let sound = as_before g.A.Abi.standard s (g.met.A.Abi.sound s) (faultless_is_plain s c.sig-sig.ensures.faultless) in
    let frame = frame_of g.A.Abi.standard s in
    let out_is = c.load_pieces.ensures.loaded ∙ sym (loaded_moved (frame_start frame c.args.machine.now) (passing c.args.machine.now) c.in-Direct.pieces c.args.out.now) in
    ap (value_in s.result_type) out_is ∙ direct_value (at_frame (frame_of g.A.Abi.standard s) c.args.machine.now) (frame_of g.A.Abi.standard s) g.A.Abi.standard s c.in-Direct.pieces c.args.out.now v sound (sym c.result_place.ensures ∙ c.in-Direct.is) c.requires.sized (ap length (sym out_is) ∙ c.load_pieces.ensures.sized) own

pub returns-in-Hidden-clause-value : goal.returns-in-Hidden-clause-value
returns-in-Hidden-clause-value g c = λ v own.
    let s = c.args.cif.now in
    let m = at_frame (frame_of g.A.Abi.standard s) c.args.machine.now in
    let start = c.frame_start-base.result + c.in-Hidden.buffer in
    let lent = c.copy_from_slice.ensures.after ∙ c.lend_stack.ensures.value ∙ ap (λ n. stack_at start n m) c.requires.sized in
    ap (value_in s.result_type) lent ∙ hidden_value m g.A.Abi.standard s c.in-Hidden.at c.in-Hidden.buffer start v (sym c.result_place.ensures ∙ c.in-Hidden.is) c.requires.bottom (ap (λ n. n + c.in-Hidden.buffer) c.frame_start-base.ensures) own
