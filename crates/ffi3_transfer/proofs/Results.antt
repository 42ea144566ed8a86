-- A result that an image owns is what is loaded from it.
use Rattle.std.specs.Prelude.{true}
use Rattle.std.proofs.Common.{◌≡◌, ℕ, ◌+◌, ◌≤◌, List, [], length, refl, ap, sym, ◌∙◌, subst, arith}
use Rattle.std.specs.List.{AllByRecursion}
use Rattle.ffi3_type_spec.specs.Tree.{Tree, void}
use Rattle.ffi3_type_spec.specs.Layout.{size_of}
use Rattle.ffi3_type_spec.specs.Signature.{Signature}
use Rattle.ffi3_type_spec.specs.Value.{ValueTree, void_value, value_in, fits, part}
use Rattle.ffi3_type_spec.specs.TargetIsa.{isa_of}
use Rattle.ffi3_type_spec.proofs.Layouts.{least_multiple-above}
use Rattle.ffi3_place_spec.specs.declared.Loc.{Loc}
use Rattle.ffi3_place_spec.specs.declared.Piece.{Piece}
use Rattle.ffi3_place_spec.specs.declared.Res.{Res}
use Rattle.ffi3_place_spec.specs.declared.Res.TheVariants.{Nothing, Direct as DirectRes, Hidden}
use Rattle.ffi3_place_spec.specs.Image.{Image}
use Rattle.ffi3_place_spec.specs.Standard.{Standard, ResultSpot, in_buffer, plan_of, frame_of, result_at, buffer_end, frame_copies_end, round8}
use Rattle.ffi3_place_spec.specs.Holds.{OwnsResult}
use Rattle.ffi3_place_spec.specs.Sound.{IsSound, IsWithin, StandsIn, ResultHasAll, piece_locs, result_locs}
use Rattle.ffi3_explain_spec.proofs.Pieces.{stood_is_read}
use Rattle.ffi3_transfer.specs.Places.{CanBeRead}
use Rattle.ffi3_transfer.proofs.Ready.{pieces_there, places_there}
use Rattle.ffi3_explain.proofs.Loops.{all_within}
use Rattle.ffi3_transfer.specs.Calls.{IsLoaded, result_bytes}

buffer_is : (start : ℕ → Tree → ℕ) (end : ℕ) (t : Tree) (spot : ResultSpot) (at : Loc) (buffer : ℕ) → result_at start end t spot ≡ Hidden at buffer → buffer_end start end t spot ≡ buffer + round8 (size_of t)
buffer_is start end t (in_buffer here) at buffer is =
    let same : start end t ≡ buffer = cc in
    ap (λ n. n + round8 (size_of t)) same
buffer_is start end t _ at buffer is = cc

-- its buffer lies in the frame
pub buffer_within : (std : Standard) (s : Signature) (at : Loc) (buffer : ℕ) → (plan_of std s).res ≡ Hidden at buffer → buffer + size_of s.result_type ≤ frame_of std s
buffer_within std s at buffer is =
    let t = s.result_type in
    let p = std.placing s in
    let ends = buffer_is std.copy_start (frame_copies_end std s) t p.result_spot at buffer is in
    omega (arith, ends, least_multiple-above 8 (size_of t), least_multiple-above 16 (buffer_end std.copy_start (frame_copies_end std s) t p.result_spot))

module _ (std : Standard) (s : Signature) (sound : IsSound std s) (pieces : List Piece) (is : (plan_of std s).res ≡ DirectRes pieces) where
  has_all : ResultHasAll s.result_type (DirectRes pieces)
  has_all = subst (ResultHasAll s.result_type) is sound.result_has_all

  pub result_there : (m : Image) → AllByRecursion (CanBeRead m 0) pieces
  result_there m =
      let lie = subst (λ r. AllByRecursion (StandsIn (isa_of std.target) 0) (result_locs r)) is sound.result_in_registers in
      pieces_there m 0 s.result_type pieces has_all.each (places_there m 0 (isa_of std.target) 0 (piece_locs pieces) (omega arith) lie)

  pub result_within : (size : ℕ) → size ≡ size_of s.result_type → AllByRecursion (IsWithin size) pieces
  result_within size sized = all_within s.result_type size pieces sized has_all.each

void_fits : (v : ValueTree) → fits void v ≡ true → value_in void [] ≡ v
void_fits void_value fit = refl
void_fits _ fit = cc

result_loaded : (std : Standard) (s : Signature) (m : Image) (r : Res) → ResultHasAll s.result_type r → (v : ValueTree) → fits s.result_type v ≡ true → OwnsResult m s.result_type r v → value_in s.result_type (result_bytes m s.result_type r) ≡ v
result_loaded std s m Nothing all v fit owns =
    subst (λ t. value_in t [] ≡ v) (sym all) (void_fits v (subst (λ t. fits t v ≡ true) all fit))
result_loaded std s m (DirectRes pieces) all v fit owns = stood_is_read m 0 s.result_type pieces v all fit owns
result_loaded std s m (Hidden at buffer) all v fit owns =
    let none : buffer ≡ 0 + buffer = omega arith in
    ap (λ n. value_in s.result_type (part m.stack n (size_of s.result_type))) none ∙ owns

pub is_loaded : (std : Standard) (s : Signature) (m : Image) (r : Res) (bytes : List ℕ) → IsSound std s → r ≡ (plan_of std s).res → bytes ≡ result_bytes m s.result_type r → frame_of std s ≤ length m.stack → IsLoaded std s m bytes
is_loaded std s m r bytes sound res_is is room = record {
  is = is ∙ ap (result_bytes m s.result_type) res_is;
  value = λ v own. ap (value_in s.result_type) (is ∙ ap (result_bytes m s.result_type) res_is) ∙ result_loaded std s m (plan_of std s).res sound.result_has_all v own.fitting own.stands;
  room = room;
}
