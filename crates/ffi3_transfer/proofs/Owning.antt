-- Arguments that stand at their places are owned by the image, and what fills the rest of their places is right.
use Rattle.std.proofs.Common.{◌≡◌, ℕ, suc, ◌<◌, ◌≤◌, List, [], ◌∷◌, length, sym, ◌∙◌, arith, length-drop}
use Rattle.std.proofs.lemmas.List.{length-take-le}
use Rattle.ffi3_type_spec.specs.Tree.{Tree, tree_at}
use Rattle.ffi3_type_spec.specs.Fault.{IsLaidOut}
use Rattle.ffi3_type_spec.specs.Layout.{size_of}
use Rattle.ffi3_type_spec.proofs.Fitting.{value_fits}
use Rattle.ffi3_place_spec.specs.declared.Place.{Place}
use Rattle.ffi3_place_spec.specs.Standard.{Standard, round8}
use Rattle.ffi3_place_spec.specs.Image.{Image}
use Rattle.ffi3_place_spec.specs.Holds.{Own, OwnsArguments, FillArguments}
use Rattle.ffi3_place_spec.specs.Sound.{IsSound}
use Rattle.ffi3_type_spec.specs.Signature.{Signature, SignatureIsPlaced}
use Rattle.ffi3_type_spec.specs.Value.{ValueTree}
use Rattle.ffi3_explain_spec.specs.Arguments.{are_values, held_by_standard}
use Rattle.ffi3_explain_spec.proofs.Arguments.{placed_is_owned}
use Rattle.ffi3_marshal.proofs.Owning.{argument_filled, argument_owned}
use Rattle.ffi3_transfer.specs.Packed.{packed_size, values_packed, first_in, behind}
use Rattle.ffi3_transfer.specs.Standing.{AllStand}
use Rattle.ffi3_transfer.proofs.Packing.{in_room}

-- an image that owns values is read as these
pub owned_values : (std : Standard) (s : Signature) (m : Image) → SignatureIsPlaced s → IsSound std s → (vs : List ValueTree) → Own std s vs m → (v : List ValueTree) → held_by_standard std s m ≡ are_values v → v ≡ vs
owned_values std s m right sound vs own v is =
    let same : are_values v ≡ are_values vs = sym is ∙ placed_is_owned std s m right sound vs own in
    cc

module _ (base : ℕ) (m : Image) where
  pub owned : (ts : List Tree) (ps : List Place) (bytes : List ℕ) → ((i : ℕ) → i < length ts → IsLaidOut (tree_at ts i)) → packed_size ts ≤ length bytes → AllStand base m ts ps bytes → OwnsArguments m base ts ps (values_packed ts bytes)
  owned [] [] bytes laid long stand = tt
  owned (t ∷ ts) (p ∷ ps) bytes laid long stand =
      let sized : length (first_in t bytes) ≡ size_of t = length-take-le (size_of t) bytes (omega (arith, long, in_room t)) in
      let rest : packed_size ts ≤ length (behind t bytes) = omega (arith, long, length-drop (round8 (size_of t)) bytes) in
      (argument_owned base m t (first_in t bytes) p (value_fits t (first_in t bytes) (laid 0 (omega arith)) sized) stand.0, owned ts ps (behind t bytes) (λ i h. laid (suc i) (omega (arith, h))) rest stand.1)
  owned _ _ bytes laid long stand = absurd stand

  pub filled : (ts : List Tree) (ps : List Place) (bytes : List ℕ) → AllStand base m ts ps bytes → FillArguments m base ts ps (values_packed ts bytes)
  filled [] [] bytes stand = tt
  filled (t ∷ ts) (p ∷ ps) bytes stand = (argument_filled base m t (first_in t bytes) p stand.0, filled ts ps (behind t bytes) stand.1)
  filled _ _ bytes stand = absurd stand
