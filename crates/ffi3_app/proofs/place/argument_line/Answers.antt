use Rattle.std.proofs.Common.{rules, ◌≡◌, ◌∙◌, length}
use Rattle.ffi3_app.proofs.Named.{with_name}
use Rattle.ffi3_app.proofs.place.argument_line.Goals as goal

pub returns : goal.returns
returns g c =
    let some : length c.args.name.now ≡ 0 → ⊥ = search rules in
    with_name g.A.Abi.standard c.args.placed.now c.args.j c.args.name.now c.in_ok-head.head c.as_slice.result.now c.with_name.result some c.in_ok-head.ensures (c.as_slice.ensures ∙ c.in_ok-line.ensures) c.with_name.ensures
