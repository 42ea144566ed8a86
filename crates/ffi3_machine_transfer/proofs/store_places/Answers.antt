use Rattle.std.specs.Prelude.{true, IsSomeAnd}
use Rattle.std.proofs.Common.{◌≡◌, ◌+◌, ◌-◌, ◌<◌, ◌≤◌, length, sym, subst, ap, ◌∙◌, arith}
use Rattle.std.specs.List.{AllByRecursion}
use Rattle.ffi3_type_spec.specs.Tree.{tree_at}
use Rattle.ffi3_type_spec.specs.Value.{fits}
use Rattle.ffi3_type_spec.proofs.ValueElements.{fitting_lengths, fitting_element}
use Rattle.ffi3_values.specs.ValueOf.{value_of}
use Rattle.ffi3_place_spec.specs.Standard.{plan_of, frame_of}
use Rattle.ffi3_place_spec.specs.Sound.{place_locs}
use Rattle.ffi3_type_spec.specs.declared.limits.TheConstants.{STACK, STACK_TOP}
use Rattle.ffi3_cif.specs.Runs.{AreRunsOf, pieces_of}
use Rattle.ffi3_machine_transfer.specs.Passing.{passing}
use Rattle.ffi3_machine_transfer.specs.Stored.{IsWritable}
use Rattle.ffi3_machine_transfer.specs.Standing.{AllStand, place_uses}
use Rattle.ffi3_marshal.proofs.Lawful.{apart_first}
use Rattle.ffi3_marshal.proofs.Arguments.{lawful_argument, lies_more, ready_all}
use Rattle.ffi3_machine_transfer.proofs.Owning.{owned, filled}
use Rattle.ffi3_machine_transfer.proofs.Arguments.{AllStored, none_yet, argument_step, value_read}
use Rattle.ffi3_machine_transfer.proofs.store_places.Goals as goal

pub loop-i-init : goal.loop-i-init
loop-i-init g c =
    let std = g.A.Abi.standard in
    let s = c.args.cif.now in
    none_yet c.at-base.result std.target (frame_of std s) s.arguments (plan_of std s).places c.args.values.now c.count-i.result (passing c.args.machine.now) (ready_all std s (g.met.A.Abi.sound s) c.checked_sig-sig.ensures.faultless g.met.A.Abi.agrees) (fitting_lengths s.arguments c.args.values.now c.requires.fit) (c.count-i.ensures.value ∙ ap (λ r. length r.arguments) c.checked_sig-sig.ensures.value)

pub get-requires : goal.get-requires
get-requires g c =
    omega (arith, fitting_lengths c.args.cif.now.arguments c.args.values.now c.requires.fit, c.count-i.ensures.value, ap (λ r. length r.arguments) c.checked_sig-sig.ensures.value)

pub runs-requires : goal.runs-requires
runs-requires g c =
    omega (arith, c.count-i.ensures.value, ap (λ r. length r.arguments) c.checked_sig-sig.ensures.value)

pub store_place-requires : goal.store_place-requires
store_place-requires g c =
    let std = g.A.Abi.standard in
    let s = c.args.cif.now in
    let below : c.loop-i.i - 1 < length s.arguments = omega (arith, c.count-i.ensures.value, ap (λ r. length r.arguments) c.checked_sig-sig.ensures.value) in
    let type_is = c.arg-ty.ensures ∙ ap (λ r. tree_at r.arguments (c.loop-i.i - 1)) c.checked_sig-sig.ensures.value in
    let here = lawful_argument std s (g.met.A.Abi.sound s) c.checked_sig-sig.ensures.faultless g.met.A.Abi.agrees (c.loop-i.i - 1) c.arg-ty.result c.place.result.now below type_is c.place.ensures in
    let same : c.loop-i.machine.target ≡ std.target = c.loop-i.invariant.within.target ∙ c.requires.target ∙ sym g.met.A.Abi.target_is in
    record {
      lies = lies_more (frame_of std s) (STACK_TOP - c.at-base.result) c.arg-ty.result c.place.result.now (omega (arith, c.requires.frame, c.at-base.ensures, c.sp.ensures.value)) here.ready.lies;
      writable = subst (λ k. AllByRecursion (IsWritable k) (place_locs c.place.result.now)) (sym same) here.ready.writable;
      apart = apart_first (place_uses c.arg-ty.result c.place.result.now) _ here.apart;
      has_all = here.ready.has_all;
      runs = subst (λ o. IsSomeAnd o (λ p. AreRunsOf (pieces_of p) c.runs.result.now)) c.place.ensures c.runs.ensures;
      fits = subst (λ t. fits t (value_of c.get.result.now) ≡ true) (sym type_is) (subst (λ v. fits (tree_at s.arguments (c.loop-i.i - 1)) v ≡ true) (sym c.get.ensures.element) (fitting_element s.arguments c.args.values.now (c.loop-i.i - 1) c.requires.fit below));
    }

pub loop-i-preserved : goal.loop-i-preserved
loop-i-preserved g c =
    let std = g.A.Abi.standard in
    let s = c.args.cif.now in
    let below : c.loop-i.i - 1 < length s.arguments = omega (arith, c.count-i.ensures.value, ap (λ r. length r.arguments) c.checked_sig-sig.ensures.value) in
    let here = lawful_argument std s (g.met.A.Abi.sound s) c.checked_sig-sig.ensures.faultless g.met.A.Abi.agrees (c.loop-i.i - 1) c.arg-ty.result c.place.result.now below (c.arg-ty.ensures ∙ ap (λ r. tree_at r.arguments (c.loop-i.i - 1)) c.checked_sig-sig.ensures.value) c.place.ensures in
    let low : STACK ≤ c.at-base.result = omega (arith, c.at-base.ensures, c.sp.ensures.value, c.requires.bottom) in
    let back : c.loop-i.i ≡ c.loop-i.i - 1 + 1 = omega arith in
    let before = subst (λ i. AllStored c.at-base.result std.target (frame_of std s) s.arguments (plan_of std s).places c.args.values.now i (passing c.args.machine.now) (passing c.loop-i.machine)) back c.loop-i.invariant in
    let value = value_read s.arguments c.args.values.now (c.loop-i.i - 1) (value_of c.get.result.now) c.requires.fit below c.get.ensures.element in
    argument_step c.at-base.result std.target (frame_of std s) s.arguments (plan_of std s).places c.args.values.now (c.loop-i.i - 1) c.arg-ty.result c.place.result.now (value_of c.get.result.now) (passing c.args.machine.now) (passing c.loop-i.machine) (passing c.store_place.new.machine) low here value c.store_place.ensures.stands c.store_place.ensures.unused c.store_place.ensures.stays (c.store_place.ensures.within (frame_of std s) here.ready.lies) before

pub returns : goal.returns
returns g c =
    let std = g.A.Abi.standard in
    let s = c.args.cif.now in
    let m = passing c.loop-i.machine in
    let first : c.loop-i.i ≡ 0 = omega arith in
    let base : c.at-base.result ≡ c.args.machine.now.sp = c.at-base.ensures ∙ c.sp.ensures.value in
    let end = subst (λ b. AllStored b std.target (frame_of std s) s.arguments (plan_of std s).places c.args.values.now 0 (passing c.args.machine.now) m) base (subst (λ i. AllStored c.at-base.result std.target (frame_of std s) s.arguments (plan_of std s).places c.args.values.now i (passing c.args.machine.now) m) first c.loop-i.invariant) in
    let low : STACK ≤ c.loop-i.machine.sp = omega (arith, end.stays.sp, c.requires.bottom) in
    let ready = ready_all std s (g.met.A.Abi.sound s) c.checked_sig-sig.ensures.faultless g.met.A.Abi.agrees in
    let stand = subst (λ b. AllStand b m s.arguments (plan_of std s).places c.args.values.now) (sym end.stays.sp) end.stand in
    record {
      stand = end.stand;
      unused = end.unused;
      own = owned m (frame_of std s) low std.target s.arguments (plan_of std s).places c.args.values.now ready c.requires.fit stand;
      filled = filled m (frame_of std s) low std.target s.arguments (plan_of std s).places c.args.values.now ready stand;
      stays = end.stays;
      within = end.within;
    }
