-- What the explanation of an image is against the images that hold values.
use Rattle.std.specs.Prelude.{◌≡◌, ◌≢◌, ◌↔◌, ℕ, ◌+◌, ◌^◌, ◌<◌, ◌≤◌, List, ◌∷◌, ◌++◌, length, get_or}
use Rattle.std.specs.List.{AllByRecursion}
use Rattle.ffi3_type_spec.specs.Signature.{Signature, SignatureHasNoFault}
use Rattle.ffi3_type_spec.specs.Value.{ValueTree}
use Rattle.ffi3_place_spec.specs.Image.{Image}
use Rattle.ffi3_place_spec.specs.Standard.{Standard, frame_of, plan_of}
use Rattle.ffi3_place_spec.specs.Sound.{IsSound}
use Rattle.ffi3_place_spec.specs.Holds.{Holds}
use Rattle.ffi3_explain_spec.specs.declared.Check.{Check}
use Rattle.ffi3_explain_spec.specs.Explain.{holds_values, is_broken_at, checks, explained, values_at_places}

-- registers have 64 bits and bytes of the stack 8
pub record HasWords (m : Image) : Type 0 where
  pub general : (r : ℕ) → get_or m.general r 0 < 2 ^ 64
  pub floating : (r : ℕ) → get_or m.floating r 0 < 2 ^ 64
  pub bytes : (i : ℕ) → get_or m.stack i 0 < 256

abbrev pub IsHeld : Check → Type 0
IsHeld c = c.found ≡ c.wants

-- the first of the list that is not held
pub record IsFirstBroken (cs : List Check) (c : Check) : Type 0 where
  pub before : List Check
  pub after : List Check
  pub parts : cs ≡ before ++ c ∷ after
  pub held : AllByRecursion IsHeld before
  pub broken : c.found ≢ c.wants

-- THE LAWS OF ONE IMAGE
pub record ExplanationLaws (std : Standard) (s : Signature) (m : Image) : Type 0 where
  -- where each place holds what is wanted, the image holds the values that stand at the places
  pub held : AllByRecursion IsHeld (checks std s m)
      → Holds std s (values_at_places m std.link s.arguments (plan_of std s).places) m
  -- an image that holds values has at each place what is wanted, and the values are those
  pub holds : (vs : List ValueTree) → Holds std s vs m
      → AllByRecursion IsHeld (checks std s m) × (values_at_places m std.link s.arguments (plan_of std s).places ≡ vs)
  -- so the explanation is the values that are held
  pub values : (vs : List ValueTree) → Holds std s vs m ↔ (explained std s m ≡ holds_values vs)
  -- or else the first place that is not as it is wanted, and no values are held
  pub broken : (c : Check) → explained std s m ≡ is_broken_at c
      → IsFirstBroken (checks std s m) c × ((vs : List ValueTree) → ¬ Holds std s vs m)

abbrev pub IsExplained : Standard → Signature → Image → Type 0
IsExplained std s m =
    SignatureHasNoFault s → IsSound std s → HasWords m → std.link + frame_of std s ≤ length m.stack
    → ExplanationLaws std s m
