-- The explanation from its parts, and what it says of held values.
use Rattle.std.specs.Prelude.{Some, None, true}
use Rattle.std.proofs.Common.{◌≡◌, ℕ, ◌+◌, ◌≤◌, List, ◌++◌, length, refl, ap, sym, ◌∙◌}
use Rattle.ffi3_type_spec.specs.Signature.{Signature, SignatureHasNoFault}
use Rattle.ffi3_type_spec.specs.Tree.{trees_of}
use Rattle.ffi3_type_spec.specs.Value.{ValueTree, all_fit, values_of}
use Rattle.ffi3_place_spec.specs.Image.{Image}
use Rattle.ffi3_place_spec.specs.Standard.{Standard, frame_of, plan_of}
use Rattle.ffi3_place_spec.specs.Sound.{IsSound}
use Rattle.ffi3_place_spec.specs.Holds.{Holds}
use Rattle.ffi3_explain_spec.specs.declared.Check.{Check}
use Rattle.ffi3_explain_spec.specs.Explain.{holds_values, is_broken_at, explained_by, explained, checks_of_arguments, checks_of_hidden, checks_of_count, first_broken, values_at_places}
use Rattle.ffi3_explain_spec.specs.Laws.{HasWords}
use Rattle.ffi3_explain_spec.proofs.Arguments.{owned_fit}
use Rattle.ffi3_explain_spec.proofs.Laws.{is_explained}
use Rattle.ffi3_explain.specs.declared.Unexplained.{Unexplained}
use Rattle.ffi3_explain.specs.declared.Unexplained.TheVariants.{NotHeld, NoMemory}
use Rattle.ffi3_explain.specs.Told.{Tells, TellsFirst}
use Rattle.ffi3_explain.proofs.Turns.{first_behind, first_before}

module _ (std : Standard) (s : Signature) (m : Image) (base : ℕ) (link : base ≡ std.link) where
  abbrev arguments : List Check
  arguments = checks_of_arguments m base 0 s.arguments (plan_of std s).places

  abbrev hidden : List Check
  hidden = checks_of_hidden m base (plan_of std s).res

  abbrev count : List Check
  count = checks_of_count m std.vector_count (plan_of std s).vectors

  abbrev read : List ValueTree
  read = values_at_places m base s.arguments (plan_of std s).places

  by_base : explained std s m ≡ explained_by read (first_broken (arguments ++ (hidden ++ count)))
  by_base =
      ap (λ b. explained_by (values_at_places m b s.arguments (plan_of std s).places) (first_broken (checks_of_arguments m b 0 s.arguments (plan_of std s).places ++ (checks_of_hidden m b (plan_of std s).res ++ count)))) (sym link)

  pub told_argument : (f : Unexplained) → TellsFirst (first_broken arguments) f → Tells (explained std s m) f
  told_argument (NotHeld c) is = by_base ∙ ap (explained_by read) (first_before arguments (hidden ++ count) c is)
  told_argument NoMemory is = tt

  pub told_hidden : (c : Check) → first_broken arguments ≡ None → first_broken hidden ≡ Some c → explained std s m ≡ is_broken_at c
  told_hidden c none is =
      by_base ∙ ap (explained_by read) (first_behind arguments (hidden ++ count) none ∙ first_before hidden count c is)

  pub told_count : (c : Check) → first_broken arguments ≡ None → first_broken hidden ≡ None → first_broken count ≡ Some c → explained std s m ≡ is_broken_at c
  told_count c none fine is =
      by_base ∙ ap (explained_by read) (first_behind arguments (hidden ++ count) none ∙ first_behind hidden count fine ∙ is)

  pub told_values : (vs : List ValueTree) → vs ≡ read → first_broken arguments ≡ None → first_broken hidden ≡ None → first_broken count ≡ None → explained std s m ≡ holds_values vs
  told_values vs are none fine last =
      by_base ∙ ap (explained_by read) (first_behind arguments (hidden ++ count) none ∙ first_behind hidden count fine ∙ last) ∙ ap holds_values (sym are)

module _ (std : Standard) (s : Signature) (m : Image) (right : SignatureHasNoFault s) (sound : IsSound std s) (has : HasWords m) (reaches : std.link + frame_of std s ≤ length m.stack) where
  pub values_held : (vs : List ValueTree) → explained std s m ≡ holds_values vs → Holds std s vs m
  values_held vs is = ((is_explained std s m right sound has reaches).values vs).1 is

  pub values_fit : (vs : List ValueTree) → explained std s m ≡ holds_values vs → all_fit (trees_of s.arguments) (values_of vs) ≡ true
  values_fit vs is =
      let holds = values_held vs is in
      owned_fit m std.link s.arguments (plan_of std s).places vs holds.own.arguments

  module _ (vs : List ValueTree) (holds : Holds std s vs m) where
    pub held_values : (v : List ValueTree) → explained std s m ≡ holds_values v → v ≡ vs
    held_values v is =
        let same : holds_values v ≡ holds_values vs = sym is ∙ ((is_explained std s m right sound has reaches).values vs).0 holds in
        cc

    pub held_fault : (f : Unexplained) → Tells (explained std s m) f → f ≡ NoMemory
    held_fault (NotHeld c) is =
        let same : is_broken_at c ≡ holds_values vs = sym is ∙ ((is_explained std s m right sound has reaches).values vs).0 holds in
        cc
    held_fault NoMemory is = refl
