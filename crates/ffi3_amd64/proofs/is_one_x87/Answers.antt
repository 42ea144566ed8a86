use Rattle.std.proofs.Common.{◌≡◌, ◌≢◌, true, length, ap, sym, ◌∙◌, arith}
use Rattle.std.proofs.lemmas.Bool.{false_from_ne_true}
use Rattle.ffi3_type_spec.specs.Tree.{scalar, u8}
use Rattle.ffi3_type_spec.specs.Layout.{Leaf, leaves_of, leaf_at}
use Rattle.ffi3_types.specs.declared.FfiType.TheVariants.{X87}
use Rattle.ffi3_types.proofs.Trees.{tree_of-inj}
use Rattle.ffi3_amd64_spec.specs.Amd64.{is_x87_scalar}
use Rattle.ffi3_amd64_spec.proofs.LongDoubles.{x87_alone}
use Rattle.ffi3_amd64.proofs.LongDoubles.{one_leaf, not_one_leaf}
use Rattle.ffi3_amd64.proofs.is_one_x87.Goals as goal

pub returns-then-count-ne1 : goal.returns-then-count-ne1
returns-then-count-ne1 c =
    let other : length (leaves_of c.args.ty.now) ≢ 1 = λ e. omega (arith, c.requires, c.if-count-ne1.true, e) in
    sym (not_one_leaf (leaves_of c.args.ty.now) other)

pub returns : goal.returns
returns c =
    let t = c.args.ty.now in
    let d : Leaf = record { at = 0; kind = u8 } in
    let kind = (leaf_at t 0).kind in
    let never : is_x87_scalar kind ≡ true → ⊥ = λ e. c.in_default.not-X87 (tree_of-inj c.leaf-leaf.result.kind X87 (c.leaf-leaf.ensures.kind ∙ ap scalar (x87_alone kind e))) in
    sym (one_leaf (leaves_of t) d (sym c.requires ∙ c.if-count-ne1.false) ∙ false_from_ne_true (is_x87_scalar kind) never)
