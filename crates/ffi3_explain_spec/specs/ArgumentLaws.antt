-- What the arguments that an image has by the standard alone are against the images that own values, or are explained by them.
use Rattle.std.specs.Prelude.{◌≡◌, ℕ, ◌+◌, ◌≤◌, true, List, length, slice_get, Some}
use Rattle.std.specs.List.{flat_map}
use Rattle.ffi3_type_spec.specs.Tree.{Tree, trees_of}
use Rattle.ffi3_type_spec.specs.Layout.{size_of}
use Rattle.ffi3_type_spec.specs.Signature.{Signature, SignatureHasNoFault}
use Rattle.ffi3_type_spec.specs.Value.{ValueTree, values_of, all_fit}
use Rattle.ffi3_place_spec.specs.declared.Loc.{Loc}
use Rattle.ffi3_place_spec.specs.declared.Place.TheVariants.{ByRef}
use Rattle.ffi3_place_spec.specs.MachineRegisters.{to_list}
use Rattle.ffi3_place_spec.specs.Image.{Image, word_at, register}
use Rattle.ffi3_place_spec.specs.Standard.{Standard, frame_of, plan_of}
use Rattle.ffi3_place_spec.specs.Locs.{place_locs}
use Rattle.ffi3_place_spec.specs.Sound.{IsNoneOf, IsSound}
use Rattle.ffi3_place_spec.specs.Holds.{Own, SameIn}
use Rattle.ffi3_explain_spec.specs.declared.Outside.{Outside}
use Rattle.ffi3_explain_spec.specs.Explain.{explained, holds_values}
use Rattle.ffi3_explain_spec.specs.Laws.{HasWords}
use Rattle.ffi3_explain_spec.specs.Arguments.{are_values, points_outside, held_by_standard, is_in_image, least_stack, value_at_address}

-- THE LAWS OF ONE IMAGE
pub record ArgumentLaws (std : Standard) (s : Signature) (m : Image) : Type 0 where
  -- an image that owns values has these
  pub owned : (vs : List ValueTree) → Own std s vs m → held_by_standard std s m ≡ are_values vs
  -- and so has one that is explained by values
  pub by_explanation : HasWords m → std.link + frame_of std s ≤ length m.stack
      → (vs : List ValueTree) → explained std s m ≡ holds_values vs
      → held_by_standard std s m ≡ are_values vs
  -- the values fit the arguments' types
  pub fit : (vs : List ValueTree) → held_by_standard std s m ≡ are_values vs
      → all_fit (trees_of s.arguments) (values_of vs) ≡ true
  -- an image whose address points outside owns no values
  pub outside : (o : Outside) → held_by_standard std s m ≡ points_outside o → (vs : List ValueTree) → ¬ Own std s vs m
  -- an argument by reference is the value to which its place points, wherever in the image that is
  pub followed : (vs : List ValueTree)
      → held_by_standard std s m ≡ are_values vs
      → (k : ℕ) (t : Tree) (at : Loc) (copy : ℕ) → slice_get s.arguments k ≡ Some t
      → slice_get (plan_of std s).places k ≡ Some (ByRef at copy)
      → (is_in_image m (word_at m std.link at) (size_of t) ≡ true)
      × (slice_get vs k ≡ Some (value_at_address m (word_at m std.link at) t))
  -- no other register is looked at: an image with the same stack at the same address, and the same in the arguments' registers, has the same
  pub others : (n : Image) → n.sp ≡ m.sp → n.stack ≡ m.stack → SameIn (flat_map place_locs (plan_of std s).places) n m
      → held_by_standard std s n ≡ held_by_standard std s m
  -- so the number of vector registers is not asked
  pub uncounted : (n : Image)
      → n.sp ≡ m.sp → n.stack ≡ m.stack
      → ((at : Loc) → IsNoneOf (to_list std.vector_count) at → register n at ≡ register m at)
      → held_by_standard std s n ≡ held_by_standard std s m
  -- what is needed of the stack is never more than return address and frame
  pub least : least_stack std s ≤ std.link + frame_of std s

abbrev pub AreRead : Standard → Signature → Image → Type 0
AreRead std s m = SignatureHasNoFault s → IsSound std s → ArgumentLaws std s m
