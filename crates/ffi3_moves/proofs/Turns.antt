-- One more argument of the lists of moves.
use Rattle.std.proofs.Common.{◌≡◌, ℕ, ◌+◌, List, ◌∷◌, ◌++◌, drop, ap, sym, ◌∙◌}
use Rattle.std.specs.Prelude.{slice_get, Some}
use Rattle.std.proofs.lemmas.List.{append_assoc}
use Rattle.std.proofs.lemmas.Option.{slice_get_within, get_or_from_slice_get}
use Rattle.ffi3_type_spec.specs.Tree.{Tree}
use Rattle.ffi3_type_spec.specs.Layout.{size_of}
use Rattle.ffi3_place_spec.specs.declared.Place.{Place}
use Rattle.ffi3_place_spec.specs.Standard.{round8}
use Rattle.ffi3_place_spec.proofs.Elements.{drop_read}
use Rattle.ffi3_moves.specs.declared.Move.{Move}
use Rattle.ffi3_moves.specs.declared.kinds.Way.{Way}
use Rattle.ffi3_moves.specs.Moves.{argument_moves, arguments_moves}

module _ (way : Way) (ts : List Tree) (ps : List Place) (j at next : ℕ) (t : Tree) (p : Place) (types : drop j ts ≡ t ∷ drop (j + 1) ts) (places : drop j ps ≡ p ∷ drop (j + 1) ps) (ends : next ≡ at + round8 (size_of t)) (done : List Move) where
  pub turn : (all : List Move) → done ++ arguments_moves way j at (drop j ts) (drop j ps) ≡ all → (done ++ argument_moves way j at t p) ++ arguments_moves way (j + 1) next (drop (j + 1) ts) (drop (j + 1) ps) ≡ all
  turn all is =
      append_assoc done (argument_moves way j at t p) (arguments_moves way (j + 1) next (drop (j + 1) ts) (drop (j + 1) ps)) ∙ ap (λ n. done ++ (argument_moves way j at t p ++ arguments_moves way (j + 1) n (drop (j + 1) ts) (drop (j + 1) ps))) ends ∙ ap (λ qs. done ++ arguments_moves way j at (t ∷ drop (j + 1) ts) qs) (sym places) ∙ ap (λ us. done ++ arguments_moves way j at us (drop j ps)) (sym types) ∙ is

pub place_read : (ps : List Place) (j : ℕ) (p : Place) → slice_get ps j ≡ Some p → drop j ps ≡ p ∷ drop (j + 1) ps
place_read ps j p is = drop_read ps j p (slice_get_within ps j p is) (sym (get_or_from_slice_get ps j p p is))
