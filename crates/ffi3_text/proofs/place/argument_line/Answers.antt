use Rattle.std.proofs.Common.{◌≡◌, ℕ, zero, suc, List, [], ◌∷◌, ◌++◌, Some, codes, ap, ap₂, ◌∙◌, rules}
use Rattle.std.specs.Prelude.{slice_get}
use Rattle.std.specs.Fmt.{decimal}
use Rattle.ffi3_type_spec.specs.declared.Isa.{Isa}
use Rattle.ffi3_type_spec.specs.TargetIsa.{isa_of}
use Rattle.ffi3_place_spec.specs.declared.Place.{Place}
use Rattle.ffi3_place_spec.specs.Standard.{plan_of}
use Rattle.ffi3_text_spec.specs.PlaceLines.{argument_place, argument_text}
use Rattle.ffi3_text.proofs.place.argument_line.Goals as goal

place_at : (places : List Place) (i : ℕ) (place : Place) → slice_get places i ≡ Some place → place ≡ argument_place places i
place_at [] i place is = cc
place_at (p ∷ places) zero place is = cc
place_at (p ∷ places) (suc i) place is = place_at places i place is

a_line : (start told line : List ℕ) (isa isa' : Isa) (place place' : Place) → told ≡ start ++ argument_text isa place → line ≡ told ++ 10 ∷ [] → isa ≡ isa' → place ≡ place' → line ≡ start ++ argument_text isa' place' ++ 10 ∷ []
a_line start told line isa isa' place place' wrote ended same_isa same_place =
    ended ∙ ap (λ t. t ++ 10 ∷ []) (wrote ∙ ap (λ t. start ++ t) (ap₂ argument_text same_isa same_place))

pub returns : goal.returns
returns g c =
    let start : List ℕ = codes "arg " ++ decimal c.args.i in
    let wrote : c.write_argument.new.text ≡ start ++ argument_text c.isa.result c.place.result.now = search rules in
    let same_isa : c.isa.result ≡ isa_of g.A.Abi.standard.target = search rules in
    a_line start c.write_argument.new.text c.push.new.self c.isa.result _ c.place.result.now _ wrote c.in_ok-push.ensures.ok same_isa (place_at (plan_of g.A.Abi.standard c.args.placed.now).places c.args.i _ c.place.ensures)
