-- Where the frame begins once a call has come back.
use Rattle.std.proofs.Common.{◌≡◌, ℕ, ◌+◌, List, [], ◌∷◌, take, refl, ap, ◌∙◌, arith}
use Rattle.std.specs.List.{replace_range}
use Rattle.std.specs.Int.{w64, to_le_bytes}
use Rattle.ffi3_place_spec.specs.declared.Loc.{Loc}
use Rattle.ffi3_place_spec.specs.declared.Loc.TheVariants.{G}
use Rattle.ffi3_place_spec.specs.declared.Piece.{Piece}
use Rattle.ffi3_machine_spec.specs.State.{State, with_sp}
use Rattle.ffi3_caller.specs.Loaded.{loaded, register_of, with_piece}

-- what is loaded does not depend on sp
register_moved : (sp : ℕ) (m : State) (l : Loc) → register_of (with_sp sp m) l ≡ register_of m l
register_moved sp m (G r) = refl
register_moved sp m _ = refl

pub loaded_moved : (sp : ℕ) (m : State) (ps : List Piece) (out : List ℕ) → loaded (with_sp sp m) ps out ≡ loaded m ps out
loaded_moved sp m [] out = refl
loaded_moved sp m (p ∷ ps) out =
    ap (λ w. loaded (with_sp sp m) ps (replace_range out p.off (p.off + p.len) (take p.len (to_le_bytes w64 w)))) (register_moved sp m p.loc) ∙ loaded_moved sp m ps (with_piece m p out)
