-- The places of a sound standard are there, in registers and memory that reach over the frame, or as far as they reach.
use Rattle.std.specs.Prelude.{◌^◌}
use Rattle.std.proofs.Common.{◌≡◌, ℕ, ◌+◌, ◌<◌, ◌≤◌, List, [], ◌∷◌, ◌++◌, length, refl, arith}
use Rattle.std.specs.List.{AllByRecursion, flat_map}
use Rattle.ffi3_type_spec.specs.declared.Isa.{Isa}
use Rattle.ffi3_type_spec.specs.TargetIsa.{isa_of}
use Rattle.ffi3_type_spec.specs.Tree.{Tree}
use Rattle.ffi3_type_spec.specs.Signature.{Signature}
use Rattle.ffi3_type_spec.proofs.Layouts.{least_multiple-above}
use Rattle.ffi3_place_spec.specs.declared.Loc.{Loc}
use Rattle.ffi3_place_spec.specs.declared.Loc.TheVariants.{G, S}
use Rattle.ffi3_place_spec.specs.declared.Piece.{Piece}
use Rattle.ffi3_place_spec.specs.declared.Place.{Place}
use Rattle.ffi3_place_spec.specs.declared.Place.TheVariants.{Direct, ByRef}
use Rattle.ffi3_place_spec.specs.Image.{Image}
use Rattle.ffi3_place_spec.specs.Standard.{Standard, plan_of, frame_of, ResultSpot, in_buffer, result_at, buffer_end, frame_copies_end}
use Rattle.ffi3_place_spec.specs.Sound.{IsSound, IsWhole, LiesIn, StandsIn, IsPieceOf, PlacesHaveAll, place_locs, piece_locs, copy_locs, argument_locs, hidden_locs, buffer_locs}
use Rattle.ffi3_place_spec.proofs.Further.{each_stands}
use Rattle.ffi3_marshal.proofs.Lawful.{any_place, any_places, each_first, each_rest}
use Rattle.ffi3_explain_spec.specs.Arguments.{stack_end, least_stack}
use Rattle.ffi3_transfer.specs.Places.{IsPlace, HasPlace, CanBeRead, ArgumentsAreReady, HiddenIsThere}

-- registers that the machine has
pub registers_lie : (isa : Isa) (ls : List Loc) → AllByRecursion (LiesIn isa 0) ls → AllByRecursion (IsPlace 0) ls
registers_lie isa ls lie = any_places isa 0 ls (each_stands isa 0 ls lie)

-- a register or a further word has eight bytes
pub register_is_whole : (l : Loc) → IsPlace 0 l → IsWhole l
register_is_whole (S n w) h = absurd (omega (arith, h.0, h.1))
register_is_whole _ h = refl

module _ (m : Image) (base : ℕ) where
  is_there : (stack : ℕ) (l : Loc) → IsPlace stack l → base + stack ≤ length m.stack → HasPlace m base l
  is_there stack (S n w) h room = (omega (arith, h.0, room), h.2)
  is_there stack _ h room = h

  -- places that stand in so much of the stack
  pub places_there : (isa : Isa) (stack : ℕ) (ls : List Loc) → base + stack ≤ length m.stack → AllByRecursion (StandsIn isa stack) ls → AllByRecursion (HasPlace m base) ls
  places_there isa stack [] room stand = tt
  places_there isa stack (l ∷ ls) room stand =
      (is_there stack l (any_place isa stack l stand.0) room, places_there isa stack ls room stand.1)

  stands_lower : (stack : ℕ) (l : Loc) (ls : List Loc) → IsPlace stack l → IsPlace (stack_end (l ∷ ls)) l
  stands_lower stack (S n w) ls lies = (omega arith, lies.1, lies.2)
  stands_lower stack _ ls lies = lies

  less_later : (l : Loc) (ls : List Loc) → stack_end ls ≤ stack_end (l ∷ ls)
  less_later (G r) ls = omega arith
  less_later _ ls = omega arith

  -- places of which the highest is there
  pub places_reached : (isa : Isa) (stack : ℕ) (ls : List Loc) → base + stack_end ls ≤ length m.stack → AllByRecursion (StandsIn isa stack) ls → AllByRecursion (HasPlace m base) ls
  places_reached isa stack [] room stand = tt
  places_reached isa stack (l ∷ ls) room stand =
      let less = less_later l ls in (
        is_there (stack_end (l ∷ ls)) l (stands_lower stack l ls (any_place isa stack l stand.0)) room,
        places_reached isa stack ls (omega (arith, less, room)) stand.1,
      )

  pub pieces_there : (t : Tree) (ps : List Piece) → AllByRecursion (IsPieceOf t) ps → AllByRecursion (HasPlace m base) (piece_locs ps) → AllByRecursion (CanBeRead m base) ps
  pieces_there t [] parts there = tt
  pieces_there t (p ∷ ps) parts there = ((there.0, parts.0.short), pieces_there t ps parts.1 there.1)

  arguments_there : (ts : List Tree) (ps : List Place) → PlacesHaveAll ts ps → AllByRecursion (HasPlace m base) (flat_map place_locs ps) → ArgumentsAreReady m base ts ps
  arguments_there [] [] have there = tt
  arguments_there (t ∷ ts) (Direct pieces ∷ ps) have there = (
    pieces_there t pieces have.0.each (each_first (HasPlace m base) (piece_locs pieces) (flat_map place_locs ps) there),
    have.0,
    arguments_there ts ps have.1 (each_rest (HasPlace m base) (piece_locs pieces) (flat_map place_locs ps) there),
  )
  arguments_there (t ∷ ts) (ByRef at copy ∷ ps) have there =
      (there.0, have.0, arguments_there ts ps have.1 there.1)
  arguments_there _ _ have there = absurd have

  hidden_ready : (frame : ℕ) → m.sp + base + frame < 2 ^ 64 → (start : ℕ → Tree → ℕ) (end : ℕ) (t : Tree) (spot : ResultSpot) → buffer_end start end t spot ≤ frame → AllByRecursion (HasPlace m base) (hidden_locs (result_at start end t spot)) → HiddenIsThere m base (result_at start end t spot)
  hidden_ready frame high start end t (in_buffer at) fit there = (there.0, omega (arith, fit, high))
  hidden_ready frame high start end t _ fit there = tt

module _ (std : Standard) (s : Signature) (sound : IsSound std s) where
  abbrev Stands : Loc → Type 0
  Stands = StandsIn (isa_of std.target) (frame_of std s)

  abbrev hidden : List Loc
  hidden = hidden_locs (plan_of std s).res

  abbrev flat : List Loc
  flat = flat_map place_locs (plan_of std s).places

  all_stand : AllByRecursion Stands (argument_locs (plan_of std s))
  all_stand =
      each_first Stands (argument_locs (plan_of std s)) (copy_locs s.arguments (plan_of std s).places ++ buffer_locs s.result_type (plan_of std s).res) sound.in_frame

  -- the places of arguments are there, as far as they reach
  pub reached : (m : Image) (base : ℕ) → base ≡ std.link → least_stack std s ≤ length m.stack → ArgumentsAreReady m base s.arguments (plan_of std s).places
  reached m base link room =
      arguments_there m base s.arguments (plan_of std s).places sound.has_all (places_reached m base (isa_of std.target) (frame_of std s) flat (omega (arith, link, room)) (each_rest Stands hidden flat all_stand))

  -- and that of a hidden result's address
  pub hidden_reached : (m : Image) (base : ℕ) → base + stack_end (hidden_locs (plan_of std s).res) ≤ length m.stack → AllByRecursion (HasPlace m base) (hidden_locs (plan_of std s).res)
  hidden_reached m base room =
      places_reached m base (isa_of std.target) (frame_of std s) hidden room (each_first Stands hidden flat all_stand)

  pub result_ready : (m : Image) (base : ℕ) → base + frame_of std s ≤ length m.stack → m.sp + base + frame_of std s < 2 ^ 64 → HiddenIsThere m base (plan_of std s).res
  result_ready m base room high =
      hidden_ready m base (frame_of std s) high std.copy_start (frame_copies_end std s) s.result_type (std.placing s).result_spot (least_multiple-above 16 (buffer_end std.copy_start (frame_copies_end std s) s.result_type (std.placing s).result_spot)) (places_there m base (isa_of std.target) (frame_of std s) hidden room (each_first Stands hidden flat all_stand))
