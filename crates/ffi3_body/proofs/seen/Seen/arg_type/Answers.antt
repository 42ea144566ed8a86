use Rattle.std.proofs.Common.{◌≡◌, length, arith}
use Rattle.ffi3_type_spec.specs.Tree.{tree_at}
use Rattle.ffi3_type_spec.specs.Signature.{SignatureHasNoFault}
use Rattle.ffi3_type_spec.proofs.Faults.{argument_is_result}
use Rattle.ffi3_type_spec.proofs.Right.{argument_is_laid_out, argument_is_right}
use Rattle.ffi3_place_spec.specs.Standard.{block_bytes}
use Rattle.ffi3_types.specs.TreeOf.{tree_of}
use Rattle.ffi3_body.proofs.Blocks.{size_small, whole_within, block_small}
use Rattle.ffi3_body.proofs.seen.Seen.arg_type.Goals as goal

pub returns : goal.returns
returns c =
    let s = c.args.self.now.signature in
    let right : SignatureHasNoFault s = rw (← c.self.view_is) (c.self.invariant.0) in
    let sized : length c.args.self.now.block ≡ block_bytes s = rw (← c.self.view_is) (c.self.invariant.1) in
    let is : tree_of c.arg.result.now ≡ tree_at s.arguments c.args.i = rw (← c.self.view_is) c.arg.ensures in
    record {
      is = is;
      right = rw is (argument_is_laid_out s right c.args.i c.requires);
      as_result = rw is (argument_is_result 0 (tree_at s.arguments c.args.i) (argument_is_right s right c.args.i c.requires));
      small = rw is (size_small s right c.args.i c.requires);
      within = rw is (omega (arith, sized, whole_within s c.args.i c.requires));
      bound = omega (arith, sized, block_small s right);
    }
