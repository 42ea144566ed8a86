-- Where copies and buffers end, by the places that they have; and a plan from its places is the standard's.
use Rattle.std.proofs.Common.{◌≡◌, ℕ, ◌+◌, List, ap, ◌∙◌, refl, arith}
use Rattle.ffi3_type_spec.specs.Tree.{Tree}
use Rattle.ffi3_type_spec.specs.Layout.{size_of, least_multiple}
use Rattle.ffi3_type_spec.specs.Signature.{Signature}
use Rattle.ffi3_place_spec.specs.declared.Loc.{Loc}
use Rattle.ffi3_place_spec.specs.declared.Piece.{Piece}
use Rattle.ffi3_place_spec.specs.declared.Place.{Place}
use Rattle.ffi3_place_spec.specs.declared.Place.TheVariants.{Direct, ByRef}
use Rattle.ffi3_place_spec.specs.declared.Res.{Res}
use Rattle.ffi3_place_spec.specs.declared.Res.TheVariants.{Nothing, Direct as DirectRes, Hidden}
use Rattle.ffi3_place_spec.specs.Standard.{Standard, Spot, in_pieces, by_reference, ResultSpot, no_result, in_result_pieces, in_buffer, place_at, copy_end, places_from, copies_end, result_at, buffer_end, copies_start, frame_copies_end, need_of, frame_of, block_bytes, plan_of, round8, round16}
use Rattle.ffi3_place_spec.specs.Planned.{planned}

module _ (start : ℕ → Tree → ℕ) (end : ℕ) (t : Tree) where
  pub end_of_direct : (spot : Spot) (pieces : List Piece) → Direct pieces ≡ place_at start end t spot → end ≡ copy_end start end t spot
  end_of_direct (in_pieces ps) pieces e = refl
  end_of_direct (by_reference l) pieces e = cc

  pub end_of_copy : (spot : Spot) (at : Loc) (copy : ℕ) → ByRef at copy ≡ place_at start end t spot → copy + round8 (size_of t) ≡ copy_end start end t spot
  end_of_copy (in_pieces ps) at copy e = cc
  end_of_copy (by_reference l) at copy e =
      let same : copy ≡ start end t = cc in
      ap (λ n. n + round8 (size_of t)) same

  pub end_of_nothing : (spot : ResultSpot) → Nothing ≡ result_at start end t spot → end ≡ buffer_end start end t spot
  end_of_nothing no_result e = refl
  end_of_nothing (in_result_pieces ps) e = cc
  end_of_nothing (in_buffer l) e = cc

  pub end_of_registers : (spot : ResultSpot) (pieces : List Piece) → DirectRes pieces ≡ result_at start end t spot → end ≡ buffer_end start end t spot
  end_of_registers no_result pieces e = cc
  end_of_registers (in_result_pieces ps) pieces e = refl
  end_of_registers (in_buffer l) pieces e = cc

  pub end_of_buffer : (spot : ResultSpot) (at : Loc) (buffer : ℕ) → Hidden at buffer ≡ result_at start end t spot → buffer + round8 (size_of t) ≡ buffer_end start end t spot
  end_of_buffer no_result at buffer e = cc
  end_of_buffer (in_result_pieces ps) at buffer e = cc
  end_of_buffer (in_buffer l) at buffer e =
      let same : buffer ≡ start end t = cc in
      ap (λ n. n + round8 (size_of t)) same

module _ (std : Standard) (s : Signature) (stack start : ℕ) (places : List Place) (copied : ℕ) (res : Res) (end area vectors : ℕ) where
  pub planned_is : stack ≡ (std.placing s).stack_bytes → start ≡ least_multiple 16 stack → places ≡ places_from std.copy_start start s.arguments (std.placing s).arguments → copied ≡ copies_end std.copy_start start s.arguments (std.placing s).arguments → res ≡ result_at std.copy_start copied s.result_type (std.placing s).result_spot → end ≡ buffer_end std.copy_start copied s.result_type (std.placing s).result_spot → area ≡ std.link + std.save → vectors ≡ (std.placing s).vector_registers → planned s places res end area vectors ≡ plan_of std s
  planned_is takes starts placed copies stands ends areas counts =
      let start_is : start ≡ copies_start (std.placing s) = starts ∙ ap (least_multiple 16) takes in
      let copied_is : copied ≡ frame_copies_end std s = copies ∙ ap (λ n. copies_end std.copy_start n s.arguments (std.placing s).arguments) start_is in
      let places_are : places ≡ (plan_of std s).places = placed ∙ ap (λ n. places_from std.copy_start n s.arguments (std.placing s).arguments) start_is in
      let res_is : res ≡ (plan_of std s).res = stands ∙ ap (λ n. result_at std.copy_start n s.result_type (std.placing s).result_spot) copied_is in
      let frame_is : round16 end ≡ frame_of std s = ap round16 (ends ∙ ap (λ n. buffer_end std.copy_start n s.result_type (std.placing s).result_spot) copied_is) in
      let need_is : round16 end + area + block_bytes s ≡ need_of std s = omega (arith, frame_is, areas) in
      λ i. record { places = places_are i; res = res_is i; need = need_is i; frame = frame_is i; block = block_bytes s; vectors = counts i }
