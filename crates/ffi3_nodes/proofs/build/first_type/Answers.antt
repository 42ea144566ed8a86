use Rattle.std.proofs.Common.{◌∷◌, ◌∙◌, drop, ap, sym, subst}
use Rattle.ffi3_type_spec.specs.Tree.{struct_of, array, trees_of}
use Rattle.ffi3_nodes.specs.Nodes.{AreWritten}
use Rattle.ffi3_nodes.proofs.Building.{leaf_first, first_struct, first_array, below_struct}
use Rattle.ffi3_nodes.proofs.build.first_type.Goals as goal

pub returns-then-node-eq-STRUCT : goal.returns-then-node-eq-STRUCT
returns-then-node-eq-STRUCT c =
    λ ns w. subst (λ us. AreWritten us (c.args.node ∷ ns))
    (ap (λ us. struct_of us ∷ drop c.args.node.count c.args.behind.now) (sym c.in_ok-take.ensures.taken) ∙ ap (λ us. struct_of c.in_ok-take.field-0 ∷ us) (sym c.in_ok-take.ensures.rest))
    (first_struct c.args.node c.args.behind.now ns c.if-node-eq-STRUCT.true (c.requires.fits.elements c.if-node-eq-STRUCT.true) w)

pub returns-then-node-eq-ARRAY : goal.returns-then-node-eq-ARRAY
returns-then-node-eq-ARRAY c =
    λ ns w. subst (λ us. AreWritten us (c.args.node ∷ ns))
    (ap (λ us. array (trees_of us) c.args.node.count ∷ drop 1 c.args.behind.now) (sym c.in_ok-take-2.ensures.taken) ∙ ap (λ us. array (trees_of c.in_ok-take-2.field-0) c.args.node.count ∷ us) (sym c.in_ok-take-2.ensures.rest))
    (first_array c.args.node c.args.behind.now ns c.if-node-eq-ARRAY.true (c.requires.fits.element c.if-node-eq-ARRAY.true) w)

pub returns : goal.returns
returns c =
    let below = below_struct c.args.node c.requires.fits.known c.if-node-eq-STRUCT.false c.if-node-eq-ARRAY.false in
    leaf_first c.args.node c.args.behind.now (c.requires.fits.plain below) c.leaf.result c.leaf.ensures
