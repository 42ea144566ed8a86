use Rattle.std.proofs.Common.{◌≡◌, ◌+◌, ◌-◌, sym, subst, ◌∙◌, arith}
use Rattle.ffi3_values.specs.ValueOf.{value_of}
use Rattle.ffi3_place_spec.specs.Sound.{IsPieceOf}
use Rattle.ffi3_type_spec.specs.declared.limits.TheConstants.{STACK_TOP}
use Rattle.ffi3_machine_transfer.specs.Passing.{passing}
use Rattle.ffi3_machine_transfer.specs.Stored.{IsPlace, IsWritable}
use Rattle.ffi3_marshal.proofs.Stepping.{each_read, each_loc}
use Rattle.ffi3_machine_transfer.proofs.Stepping.{AreStored, given_still, piece_step, none_stored}
use Rattle.ffi3_machine_transfer.proofs.store_each.Goals as goal

pub loop-j-init : goal.loop-j-init
loop-j-init c = (none_stored c.args.base c.args.ty.now (value_of c.args.value.now) c.args.pieces.now c.len-j.result (passing c.args.machine.now) (omega arith), c.requires.sized)

pub store_other-requires : goal.store_other-requires
store_other-requires c =
    let t = c.args.ty.now in
    let v = value_of c.args.value.now in
    let pieces = c.args.pieces.now in
    let old = c.args.machine.now in
    let lies = IsPlace (STACK_TOP - c.args.base) in
    let writable = IsWritable c.args.machine.now.target in
    let back : c.loop-j.j ≡ c.loop-j.j - 1 + 1 = omega arith in
    let before = subst (λ i. AreStored c.args.base t v pieces i (passing old) (passing c.loop-j.machine)) back c.loop-j.invariant.0 in
    record {
      lies = each_read (λ q. lies q.loc) pieces (c.loop-j.j - 1) c.get.result.now (omega arith) c.get.ensures (each_loc lies pieces c.requires.lie);
      writable = subst (λ g. IsWritable g c.get.result.now.loc) (sym (c.loop-j.invariant.0.within (STACK_TOP - c.args.base) c.requires.lie).target) (each_read (λ q. writable q.loc) pieces (c.loop-j.j - 1) c.get.result.now (omega arith) c.get.ensures (each_loc writable pieces c.requires.writable));
      part = each_read (IsPieceOf t) pieces (c.loop-j.j - 1) c.get.result.now (omega arith) c.get.ensures c.requires.parts;
      fits = c.requires.fits;
      sized = c.loop-j.invariant.1;
      given = given_still c.args.base t v pieces (c.loop-j.j - 1) c.get.result.now (passing old) (passing c.loop-j.machine) (omega arith) c.get.ensures c.requires.parts c.requires.apart c.requires.given before;
    }

pub loop-j-preserved : goal.loop-j-preserved
loop-j-preserved c =
    let back : c.loop-j.j ≡ c.loop-j.j - 1 + 1 = omega arith in
    let before = subst (λ i. AreStored c.args.base c.args.ty.now (value_of c.args.value.now) c.args.pieces.now i (passing c.args.machine.now) (passing c.loop-j.machine)) back c.loop-j.invariant.0 in
    (piece_step c.args.base c.args.ty.now (value_of c.args.value.now) c.args.pieces.now (c.loop-j.j - 1) c.get.result.now (passing c.args.machine.now) (passing c.loop-j.machine) (passing c.store_other.new.machine) (omega arith) c.get.ensures c.requires.parts c.requires.apart c.store_other.ensures.stored before, c.store_other.ensures.sized ∙ c.loop-j.invariant.1)

pub returns : goal.returns
returns c =
    let first : c.loop-j.j ≡ 0 = omega arith in
    let end = subst (λ j. AreStored c.args.base c.args.ty.now (value_of c.args.value.now) c.args.pieces.now j (passing c.args.machine.now) (passing c.loop-j.machine)) first c.loop-j.invariant.0 in
    record { stand = end.stand; unused = end.unused; stays = end.stays; within = end.within }
