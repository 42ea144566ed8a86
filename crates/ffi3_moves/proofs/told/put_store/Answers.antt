use Rattle.std.proofs.Common.{length, map, ap, ◌∙◌, arith}
use Rattle.std.proofs.lemmas.List.{length-append}
use Rattle.ffi3_place_spec.specs.Standard.{plan_of}
use Rattle.ffi3_moves.specs.Moves.{arguments_in, count_in, store_moves}
use Rattle.ffi3_moves.specs.Told.{told_move}
use Rattle.ffi3_moves.proofs.Telling.{length_sets, told_both, told_front}
use Rattle.ffi3_moves.proofs.told.put_store.Goals as goal

pub put_arguments-end-requires : goal.put_arguments-end-requires
put_arguments-end-requires g c =
    let plan = plan_of g.A.Abi.standard c.args.cif.now in
    let arguments = arguments_in 0 0 c.args.cif.now.arguments plan.places in
    omega (arith, c.requires, length-append arguments (count_in g.A.Abi.standard.vector_count plan.vectors))

pub put_count-requires : goal.put_count-requires
put_count-requires g c =
    let plan = plan_of g.A.Abi.standard c.args.cif.now in
    let arguments = arguments_in 0 0 c.args.cif.now.arguments plan.places in
    let same = ap (λ at. length (count_in at c.vectors.result)) c.vector_count.ensures ∙ ap (λ n. length (count_in g.A.Abi.standard.vector_count n)) c.vectors.ensures in
    omega (arith, c.requires, same, c.put_arguments-end.ensures.end, ap length c.put_arguments-end.ensures.put ∙ length_sets c.args.told.now 0 (map told_move arguments), length-append arguments (count_in g.A.Abi.standard.vector_count plan.vectors))

pub returns : goal.returns
returns g c =
    let plan = plan_of g.A.Abi.standard c.args.cif.now in
    let arguments = arguments_in 0 0 c.args.cif.now.arguments plan.places in
    let counts = count_in g.A.Abi.standard.vector_count plan.vectors in
    let wrote = rw (c.vector_count.ensures, c.vectors.ensures) at c.put_count.ensures in
    told_front (store_moves g.A.Abi.standard c.args.cif.now) c.args.told.now c.put_count.new.told c.requires (told_both arguments counts c.args.told.now c.put_arguments-end.new.told c.put_count.new.told c.put_arguments-end.result c.put_arguments-end.ensures.end c.put_arguments-end.ensures.put wrote)
