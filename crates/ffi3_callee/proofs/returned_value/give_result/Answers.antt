use Rattle.std.proofs.Common.{◌≡◌, ◌+◌, ◌-◌, subst, sym, arith}
use Rattle.ffi3_values.specs.ValueOf.{value_of}
use Rattle.ffi3_place_spec.specs.Holds.{HoldsResult}
use Rattle.ffi3_place_spec.specs.Standard.{frame_of, plan_of}
use Rattle.ffi3_machine_transfer.specs.Passing.{passing}
use Rattle.ffi3_callee.specs.Given.{IsAddressOf, IsSettable, ResultWrites, result_uses}
use Rattle.ffi3_callee.specs.Loaded.{image_from}
use Rattle.ffi3_callee.proofs.Entry.{remembered_is}
use Rattle.ffi3_callee.proofs.Keeping.{reserved_stay, uses_clear}
use Rattle.ffi3_callee.proofs.OwnKept.{own_reserved, written_exchange}
use Rattle.ffi3_callee.proofs.Results.{keeps_from, saved_below, written_target}
use Rattle.ffi3_callee.proofs.Laws.{result_written, returned_settable}
use Rattle.ffi3_callee.proofs.returned_value.give_result.Goals as goal

pub at-base-requires-clause-low : goal.at-base-requires-clause-low
at-base-requires-clause-low g c =
    omega (arith, c.entry.ensures, c.requires.incoming.low, c.requires.incoming.entry)

pub at-base-requires-clause-high : goal.at-base-requires-clause-high
at-base-requires-clause-high g c =
    omega (arith, c.entry.ensures, c.LINK.ensures, g.met.A.Abi.link_is, c.requires.incoming.high)

pub give-requires-clause-high : goal.give-requires-clause-high
give-requires-clause-high g c =
    omega (arith, c.at-base.ensures, c.entry.ensures, c.LINK.ensures, g.met.A.Abi.link_is, c.requires.incoming.high)

pub give-requires-clause-address : goal.give-requires-clause-address
give-requires-clause-address g c =
    let std = g.A.Abi.standard in
    let entry = c.args.incoming.now.entry in
    let base : entry + std.link ≡ c.at-base.result = omega (arith, c.at-base.ensures, c.entry.ensures, c.LINK.ensures, g.met.A.Abi.link_is) in
    let address : IsAddressOf c.at-base.result c.args.incoming.now.address (plan_of std c.args.cif.now).res = subst (λ n. IsAddressOf n c.args.incoming.now.address (plan_of std c.args.cif.now).res) base (remembered_is (entry + std.link) c.args.incoming.now.address (plan_of std c.args.cif.now).res c.requires.incoming.address) in
    subst (λ n. IsAddressOf c.at-base.result n (plan_of std c.args.cif.now).res) (sym c.address-address.ensures) address

pub give-requires-clause-returned_settable : goal.give-requires-clause-returned_settable
give-requires-clause-returned_settable g c =
    let m = passing c.args.machine.now in
    subst (IsSettable m.target) (sym c.returned_address-returned.ensures) (returned_settable g.A.Abi.standard m.target g.A.Abi.TARGET g.met.A.Abi.agrees g.met.A.Abi.target_is c.requires.target)

pub give-requires-clause-result_writable : goal.give-requires-clause-result_writable
give-requires-clause-result_writable g c =
    let s = c.args.cif.now in
    result_written g.A.Abi.standard s c.args.machine.now.target g.A.Abi.TARGET g.met.A.Abi.agrees (g.met.A.Abi.sound s) g.met.A.Abi.target_is c.requires.target

pub returns : goal.returns
returns g c =
    let std = g.A.Abi.standard in
    let s = c.args.cif.now in
    let m = c.args.machine.now in
    let n = c.give.new.machine in
    let res = (plan_of std s).res in
    let agrees = g.met.A.Abi.agrees in
    let incoming = c.requires.incoming in
    let writes = c.give.ensures.writes in
    let base : c.at-base.result ≡ c.args.incoming.now.entry + std.link = omega (arith, c.at-base.ensures, c.entry.ensures, c.LINK.ensures, g.met.A.Abi.link_is) in
    let stay = reserved_stay std agrees (result_uses std res) (passing m) (passing n) (uses_clear std agrees res (g.met.A.Abi.sound s).result_allowed) c.give.ensures.registers in
    record {
      holds = subst (λ b. HoldsResult std s (value_of c.args.value.now) (image_from b (frame_of std s) (passing n))) base c.give.ensures.holds;
      unused = keeps_from c.at-base.result (c.args.incoming.now.entry + std.link) s.result_type res (passing m) (passing n) base c.give.ensures.unused;
      registers = c.give.ensures.registers;
      reserved = own_reserved m n c.facts.ensures c.facts-2.ensures std agrees (written_target c.at-base.result s.result_type res (passing m) (passing n) writes) (written_exchange c.at-base.result s.result_type res (passing m) (passing n) writes) stay;
      saved = λ start hidden before saved. saved_below (c.args.incoming.now.entry - std.save) c.at-base.result start s.result_type res hidden std.save_area before (passing m) (passing n) (omega (arith, incoming.low, incoming.entry)) (omega (arith, base, agrees.area, incoming.low, incoming.entry)) writes saved;
      writes = subst (λ b. ResultWrites b s.result_type res (passing m) (passing n)) base writes;
      sp = c.give.ensures.sp;
    }
