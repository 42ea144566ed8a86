use Rattle.std.proofs.Common.{◌≡◌, ◌<◌, ◌≤◌, ◌++◌, length, drop, ap, sym, ◌∙◌, subst, arith}
use Rattle.std.proofs.lemmas.List.{length-take-le}
use Rattle.ffi3_type_spec.specs.Layout.{size_of}
use Rattle.ffi3_type_spec.specs.Value.{value_in}
use Rattle.ffi3_transfer.proofs.Packing.{front, front_size, in_room}
use Rattle.ffi3_transfer.proofs.collecting.collect_argument.Goals as goal

pub slice_bounds-read_argument-end : goal.slice_bounds-read_argument-end
slice_bounds-read_argument-end c = omega (arith, in_room c.args.ty.now, c.size-size.ensures.value, c.requires.sized)

pub slice_bounds-read_argument-end-2 : goal.slice_bounds-read_argument-end-2
slice_bounds-read_argument-end-2 c =
    let room : c.size-size.result ≤ length c.args.out.now = omega (arith, in_room c.args.ty.now, c.size-size.ensures.value, c.requires.sized) in
    omega (arith, room, length-take-le c.size-size.result c.args.out.now room)

pub read_argument-requires-clause-sized : goal.read_argument-requires-clause-sized
read_argument-requires-clause-sized c =
    length-take-le c.size-size.result c.args.out.now (omega (arith, in_room c.args.ty.now, c.size-size.ensures.value, c.requires.sized)) ∙ c.size-size.ensures.value

pub clear_padding-requires : goal.clear_padding-requires
clear_padding-requires c =
    let room : c.size-size.result ≤ length c.args.out.now = omega (arith, in_room c.args.ty.now, c.size-size.ensures.value, c.requires.sized) in
    let many : length (c.read_argument.new.out ++ drop c.size-size.result c.args.out.now) ≡ length c.args.out.now = front_size c.size-size.result c.read_argument.new.out c.args.out.now (c.read_argument.ensures.sized ∙ sym c.size-size.ensures.value) room in
    subst (λ n. size_of c.args.ty.now ≤ n) (sym (many ∙ c.requires.sized)) (in_room c.args.ty.now)

pub returns : goal.returns
returns c =
    let room : c.size-size.result ≤ length c.args.out.now = omega (arith, in_room c.args.ty.now, c.size-size.ensures.value, c.requires.sized) in
    let many : length (c.read_argument.new.out ++ drop c.size-size.result c.args.out.now) ≡ length c.args.out.now = front_size c.size-size.result c.read_argument.new.out c.args.out.now (c.read_argument.ensures.sized ∙ sym c.size-size.ensures.value) room in
    record {
      value = c.clear_padding.ensures.value ∙ ap (value_in c.args.ty.now) (front (size_of c.args.ty.now) c.read_argument.new.out (drop c.size-size.result c.args.out.now) c.read_argument.ensures.sized) ∙ c.read_argument.ensures.value;
      padding = λ i h padding. c.clear_padding.ensures.clear i (subst (λ n. i < n) (sym (many ∙ c.requires.sized)) h) padding;
      sized = c.clear_padding.ensures.sized ∙ many ∙ c.requires.sized;
    }
