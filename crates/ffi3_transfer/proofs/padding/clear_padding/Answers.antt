use Rattle.std.proofs.Common.{◌≡◌, ◌+◌, ◌-◌, length, subst, arith, rules}
use Rattle.ffi3_type_spec.specs.Fault.{IsLaidOut}
use Rattle.ffi3_transfer.proofs.Cleared.{AreCleared, none_cleared, one_cleared, all_cleared}
use Rattle.ffi3_transfer.proofs.padding.clear_padding.Goals as goal

pub loop-k-init : goal.loop-k-init
loop-k-init c = none_cleared c.args.ty.now c.args.out.now c.leaf_count-k.result (length c.args.out.now) c.requires c.leaf_count-k.ensures (search rules)

pub loop-k-preserved : goal.loop-k-preserved
loop-k-preserved c =
    let t = c.args.ty.now in
    let old = c.args.out.now in
    let back : c.loop-k.k ≡ c.loop-k.k - 1 + 1 = omega arith in
    let are = subst (λ j. AreCleared c.args.ty.now c.args.out.now j c.loop-k.end c.loop-k.out) back c.loop-k.invariant in
    one_cleared t old (c.loop-k.k - 1) c.loop-k.end c.leaf-leaf.result.at (c.leaf-leaf.result.at + c.value_size.result) c.loop-k.out c.clear.new.out (omega (arith, c.loop-k.invariant.few)) c.leaf-leaf.ensures.at (search rules) are c.clear.ensures.size c.clear.ensures.zeros c.clear.ensures.beside

pub returns : goal.returns
returns c =
    all_cleared c.args.ty.now c.args.out.now c.loop-k.k c.loop-k.end c.loop-k.out c.clear-2.new.out (subst IsLaidOut c.as_type-plain.ensures.value c.as_type-plain.ensures.right) c.requires (omega arith) c.loop-k.invariant c.clear-2.ensures.size c.clear-2.ensures.zeros c.clear-2.ensures.beside
