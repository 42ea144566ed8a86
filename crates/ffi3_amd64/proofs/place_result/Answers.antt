use Rattle.std.proofs.Common.{◌≡◌, false, sym, ◌∙◌, arith, rules}
use Rattle.ffi3_types.specs.declared.FfiType.TheVariants.{Void}
use Rattle.ffi3_types.proofs.Trees.{tree_of-inj}
use Rattle.ffi3_amd64_spec.specs.Amd64.{is_class_memory, is_class_x87}
use Rattle.ffi3_amd64_spec.proofs.Covered.{integers_few, sses_few}
use Rattle.ffi3_amd64.proofs.Results.{result_direct}
use Rattle.ffi3_amd64.proofs.place_result.Goals as goal

pub register_pieces-requires : goal.register_pieces-requires
register_pieces-requires c = record {
  sized = c.requires.sized;
  small = c.requires.small;
  direct = search rules;
  all = c.requires.all;
  enough_general = omega (arith, integers_few c.args.ty.now);
  enough_vector = omega (arith, sses_few c.args.ty.now);
  few = omega arith;
}

pub returns : goal.returns
returns c =
    let t = c.args.ty.now in
    let memory = sym c.is_memory.ensures ∙ c.if-is_memory.false in
    let not_memory : is_class_memory t ≡ false = sym c.requires.memory ∙ memory in
    let not_x87 : is_class_x87 t ≡ false = sym (c.requires.x87 memory) ∙ sym c.is_x87.ensures ∙ c.if-is_x87.false in
    result_direct c.args.end t _ (λ e. c.in_default.not-Void (tree_of-inj c.as_type.result.now Void (c.as_type.ensures.value ∙ e))) not_memory not_x87 c.in_ok-pieces.ensures
