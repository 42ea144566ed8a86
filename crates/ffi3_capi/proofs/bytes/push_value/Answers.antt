use Rattle.std.proofs.Common.{rules}
use Rattle.ffi3_type_spec.specs.Layout.{size_of}
use Rattle.ffi3_values.specs.ValueOf.{value_of}
use Rattle.ffi3_capi.proofs.Values.{one_more, zeros_behind}
use Rattle.ffi3_capi.proofs.bytes.push_value.Goals as goal

pub returns : goal.returns
returns c =
    one_more c.args.ty.now (value_of c.args.value.now) c.args.bytes.now c.extend.new.self c.extend-2.new.self c.write_over_zeros.new.out _ (search rules) c.write_over_zeros.ensures c.in_ok-extend.ensures.ok c.in_ok-extend-2.ensures.ok (zeros_behind c.round_up.result c.size-size.result (size_of c.args.ty.now) c.round_up.ensures.value c.size-size.ensures.value c.round_up.ensures.close)
