use Rattle.std.proofs.Common.{ap, arith, length}
use Rattle.ffi3_type_spec.specs.Tree.{elements_of, list_of-trees_of, tree_at}
use Rattle.ffi3_type_spec.specs.Layout.{size_of}
use Rattle.ffi3_types.specs.TreeOf.{tree_of}
use Rattle.ffi3_types.proofs.FfiType.offset.Goals as goal

pub offset-requires-clause-in_range : goal.offset-requires-clause-in_range
offset-requires-clause-in_range c =
    let elements = ap (λ t. length (elements_of (tree_of t))) c.in-Struct.is in
    omega (arith, elements, ap length (list_of-trees_of c.in-Struct.fields), c.requires.in_range)

pub returns-in-Struct-clause-within : goal.returns-in-Struct-clause-within
returns-in-Struct-clause-within c =
    let fields = c.in-Struct.fields in
    let element = ap (λ t. size_of (tree_at (elements_of (tree_of t)) c.args.i)) c.in-Struct.is in
    let same = ap (λ ts. size_of (tree_at ts c.args.i)) (list_of-trees_of fields) in
    let whole = ap (λ t. size_of (tree_of t)) c.in-Struct.is in
    omega (arith, element, same, whole, c.offset.ensures.within)

pub returns-in-Array-clause-start : goal.returns-in-Array-clause-start
returns-in-Array-clause-start c = rw c.in-Array.is c.offset_in_array.ensures.start
