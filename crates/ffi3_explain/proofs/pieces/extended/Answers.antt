use Rattle.std.proofs.Common.{◌≡◌, subst, sym}
use Rattle.ffi3_types.specs.TreeOf.{tree_of}
use Rattle.ffi3_values.specs.ValueOf.{value_of}
use Rattle.ffi3_place_spec.specs.Sound.{IsExtended}
use Rattle.ffi3_explain_spec.specs.Explain.{extended}
use Rattle.ffi3_explain.proofs.Narrow.{narrow_number, widened_is, widened_from_32_is}
use Rattle.ffi3_explain.proofs.pieces.extended.Goals as goal

pub widen-requires : goal.widen-requires
widen-requires c =
    let suits = subst (IsExtended (tree_of c.args.ty.now) c.args.piece.now) c.in-Widen.is c.requires.suits.extended in
    let number = narrow_number (tree_of c.args.ty.now) suits.0 in
    record { kind = number.0; small = number.1; fits = c.requires.fits }

pub returns-in-Widen : goal.returns-in-Widen
returns-in-Widen c =
    let suits = subst (IsExtended (tree_of c.args.ty.now) c.args.piece.now) c.in-Widen.is c.requires.suits.extended in
    subst (λ e. c.widen.result ≡ extended e (tree_of c.args.ty.now) (value_of c.args.value.now) c.args.word) (sym c.in-Widen.is)
    (widened_is (tree_of c.args.ty.now) (value_of c.args.value.now) c.args.word c.widen.result suits.0 c.requires.fits c.widen.ensures)

pub widen_from_32-requires : goal.widen_from_32-requires
widen_from_32-requires c =
    let suits = subst (IsExtended (tree_of c.args.ty.now) c.args.piece.now) c.in-Riscv.is c.requires.suits.extended in
    let number = narrow_number (tree_of c.args.ty.now) suits.0 in
    record { kind = number.0; small = number.1; fits = c.requires.fits }

pub returns-in-Riscv : goal.returns-in-Riscv
returns-in-Riscv c =
    let suits = subst (IsExtended (tree_of c.args.ty.now) c.args.piece.now) c.in-Riscv.is c.requires.suits.extended in
    subst (λ e. c.widen_from_32.result ≡ extended e (tree_of c.args.ty.now) (value_of c.args.value.now) c.args.word) (sym c.in-Riscv.is)
    (widened_from_32_is (tree_of c.args.ty.now) (value_of c.args.value.now) c.args.word c.widen_from_32.result suits.0 c.requires.fits c.widen_from_32.ensures)
