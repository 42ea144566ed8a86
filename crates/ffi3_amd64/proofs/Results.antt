-- A result in registers.
use Rattle.std.proofs.Common.{◌≡◌, ℕ, false, cond, List, [], ap, sym, ◌∙◌}
use Rattle.ffi3_type_spec.specs.Tree.{Tree, void}
use Rattle.ffi3_type_spec.specs.Layout.{leaves_of}
use Rattle.ffi3_place_spec.specs.declared.Piece.{Piece}
use Rattle.ffi3_place_spec.specs.declared.Res.TheVariants.{Direct}
use Rattle.ffi3_place_spec.specs.Standard.{start, result_at}
use Rattle.ffi3_amd64_spec.specs.Amd64.{is_class_memory, is_class_x87, classes, register_pieces, result_register, result_spot_of, x87_pieces}
use Rattle.ffi3_amd64_spec.proofs.Steps.{spot_of_registers}

pub result_direct : (end : ℕ) (t : Tree) (pieces : List Piece) → (t ≡ void → ⊥) → is_class_memory t ≡ false → is_class_x87 t ≡ false → pieces ≡ register_pieces result_register 0 0 t [] (classes t) → Direct pieces ≡ result_at start end t (result_spot_of t)
result_direct end t pieces other m x e =
    ap Direct (e ∙ sym (ap (λ b. cond b (x87_pieces 0 (leaves_of t)) (register_pieces result_register 0 0 t [] (classes t))) x)) ∙ sym (ap (result_at start end t) (spot_of_registers t other m))
