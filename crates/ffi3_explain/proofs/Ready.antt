-- The places of a sound standard are there, in an image that reaches over the frame, or as far as they reach.
use Rattle.std.specs.Prelude.{◌^◌}
use Rattle.std.proofs.Common.{◌≡◌, ℕ, suc, ◌+◌, ◌<◌, ◌≤◌, List, [], ◌∷◌, ◌++◌, length, arith}
use Rattle.std.specs.List.{AllByRecursion, flat_map}
use Rattle.ffi3_type_spec.specs.declared.Isa.{Isa}
use Rattle.ffi3_type_spec.specs.declared.Isa.TheVariants.{Amd64}
use Rattle.ffi3_type_spec.specs.TargetIsa.{isa_of}
use Rattle.ffi3_type_spec.specs.Tree.{Tree, tree_at}
use Rattle.ffi3_type_spec.specs.Fault.{IsArgumentType}
use Rattle.ffi3_type_spec.specs.Signature.{Signature, SignatureHasNoFault}
use Rattle.ffi3_type_spec.proofs.Layouts.{least_multiple-above}
use Rattle.ffi3_type_spec.proofs.Right.{argument_is_right}
use Rattle.ffi3_place_spec.specs.declared.Loc.{Loc}
use Rattle.ffi3_place_spec.specs.declared.Loc.TheVariants.{G, S}
use Rattle.ffi3_place_spec.specs.declared.Piece.{Piece}
use Rattle.ffi3_place_spec.specs.declared.Place.{Place}
use Rattle.ffi3_place_spec.specs.declared.Place.TheVariants.{Direct, ByRef}
use Rattle.ffi3_place_spec.specs.Image.{Image}
use Rattle.ffi3_place_spec.specs.Standard.{Standard, plan_of, frame_of, ResultSpot, in_buffer, result_at, buffer_end, frame_copies_end}
use Rattle.ffi3_place_spec.specs.Sound.{LiesIn, IsPieceOf, PlacesHaveAll, place_locs, piece_locs, copy_locs, stack_words_for, argument_locs, hidden_locs, buffer_locs}
use Rattle.ffi3_place_spec.proofs.OnMachine.{IsSoundOnMachine}
use Rattle.ffi3_explain_spec.specs.Arguments.{stack_end, least_stack}
use Rattle.ffi3_explain_spec.proofs.Copies.{bytes_of_right, copy_fits}
use Rattle.ffi3_explain_spec.proofs.Places.{left_part, right_part, one_copy}
use Rattle.ffi3_explain.specs.Places.{HasPlace, CanBeRead, PlaceIsThere, PlacesAreReady, ArgumentIsThere, ArgumentsAreReady, HiddenIsThere}

module _ (m : Image) (base : ℕ) where
  -- a register that the instruction set has
  register_there : (isa : Isa) (stack : ℕ) (l : Loc) → LiesIn isa stack l → base + stack ≤ length m.stack → HasPlace m base l
  register_there Amd64 stack (G r) h room = omega (arith, h)
  register_there isa stack (S n w) h room = (omega (arith, h.0, room), h.2)
  register_there _ stack _ h room = omega (arith, h)

  -- places that lie in so much of the stack
  pub places_there : (isa : Isa) (stack : ℕ) (ls : List Loc) → base + stack ≤ length m.stack → AllByRecursion (LiesIn isa stack) ls → AllByRecursion (HasPlace m base) ls
  places_there isa stack [] room lie = tt
  places_there isa stack (l ∷ ls) room lie =
      (register_there isa stack l lie.0 room, places_there isa stack ls room lie.1)

  lies_lower : (isa : Isa) (stack : ℕ) (l : Loc) (ls : List Loc) → LiesIn isa stack l → LiesIn isa (stack_end (l ∷ ls)) l
  lies_lower isa stack (S n w) ls lie = (omega arith, lie.1, lie.2)
  lies_lower isa stack _ ls lie = lie

  less_later : (l : Loc) (ls : List Loc) → stack_end ls ≤ stack_end (l ∷ ls)
  less_later (G r) ls = omega arith
  less_later _ ls = omega arith

  -- places of which the highest is there
  pub places_reached : (isa : Isa) (stack : ℕ) (ls : List Loc) → base + stack_end ls ≤ length m.stack → AllByRecursion (LiesIn isa stack) ls → AllByRecursion (HasPlace m base) ls
  places_reached isa stack [] room lie = tt
  places_reached isa stack (l ∷ ls) room lie =
      let less = less_later l ls in (
        register_there isa (stack_end (l ∷ ls)) l (lies_lower isa stack l ls lie.0) room,
        places_reached isa stack ls (omega (arith, less, room)) lie.1,
      )

  pieces_there : (t : Tree) (ps : List Piece) → AllByRecursion (HasPlace m base) (piece_locs ps) → AllByRecursion (IsPieceOf t) ps → AllByRecursion (CanBeRead m base) ps
  pieces_there t [] there of = tt
  pieces_there t (p ∷ ps) there of =
      ((there.0, of.0.short), pieces_there t ps there.1 of.1)

  pub arguments_there : (ts : List Tree) (ps : List Place) → PlacesHaveAll ts ps → AllByRecursion (HasPlace m base) (flat_map place_locs ps) → ArgumentsAreReady m base ts ps
  arguments_there [] [] have there = tt
  arguments_there (t ∷ ts) (Direct pieces ∷ ps) have there = (
    pieces_there t pieces (left_part (HasPlace m base) (piece_locs pieces) (flat_map place_locs ps) there) have.0.each,
    have.0,
    arguments_there ts ps have.1 (right_part (HasPlace m base) (piece_locs pieces) (flat_map place_locs ps) there),
  )
  arguments_there (t ∷ ts) (ByRef at copy ∷ ps) have there =
      (there.0, have.0, arguments_there ts ps have.1 there.1)
  arguments_there _ _ have there = absurd have

  module _ (isa : Isa) (frame : ℕ) (room : base + frame ≤ length m.stack) (high : m.sp + base + frame < 2 ^ 64) where
    with_copy : (t : Tree) (p : Place) → IsArgumentType t → ArgumentIsThere m base p → AllByRecursion (LiesIn isa frame) (copy_locs (t ∷ []) (p ∷ [])) → PlaceIsThere m base t p
    with_copy t (Direct pieces) right there lie = there
    with_copy t (ByRef at copy) right there lie =
        let fit = copy_fits isa frame copy t (bytes_of_right t right) (left_part (LiesIn isa frame) (stack_words_for copy t) [] lie) in
        (there, omega (arith, fit, room), omega (arith, fit, high))

    with_copies : (ts : List Tree) (ps : List Place) → ((i : ℕ) → i < length ts → IsArgumentType (tree_at ts i)) → ArgumentsAreReady m base ts ps → AllByRecursion (LiesIn isa frame) (copy_locs ts ps) → PlacesAreReady m base ts ps
    with_copies [] [] right ready lie = tt
    with_copies (t ∷ ts) (p ∷ ps) right ready lie =
        let copies = one_copy isa frame t ts p ps lie in
        (with_copy t p (right 0 (omega arith)) ready.0 copies.0, ready.1, with_copies ts ps (λ i h. right (suc i) (omega (arith, h))) ready.2 copies.1)
    with_copies _ _ right ready lie = absurd ready

    hidden_ready : (start : ℕ → Tree → ℕ) (end : ℕ) (t : Tree) (spot : ResultSpot) → buffer_end start end t spot ≤ frame → AllByRecursion (HasPlace m base) (hidden_locs (result_at start end t spot)) → HiddenIsThere m base (result_at start end t spot)
    hidden_ready start end t (in_buffer at) fit there = (there.0, omega (arith, fit, high))
    hidden_ready start end t _ fit there = tt

module _ (std : Standard) (s : Signature) (sound : IsSoundOnMachine std s) where
  abbrev Lies : Loc → Type 0
  Lies = LiesIn (isa_of std.target) (frame_of std s)

  abbrev copies : List Loc
  copies = copy_locs s.arguments (plan_of std s).places

  abbrev buffer : List Loc
  buffer = buffer_locs s.result_type (plan_of std s).res

  abbrev hidden : List Loc
  hidden = hidden_locs (plan_of std s).res

  abbrev flat : List Loc
  flat = flat_map place_locs (plan_of std s).places

  all_lie : AllByRecursion Lies (argument_locs (plan_of std s))
  all_lie = left_part Lies (argument_locs (plan_of std s)) (copies ++ buffer) sound.in_frame

  flat_lie : AllByRecursion Lies flat
  flat_lie = right_part Lies hidden flat all_lie

  -- the places of arguments are there, as far as they reach
  pub reached : (m : Image) (base : ℕ) → base ≡ std.link → least_stack std s ≤ length m.stack → ArgumentsAreReady m base s.arguments (plan_of std s).places
  reached m base link room =
      arguments_there m base s.arguments (plan_of std s).places sound.has_all (places_reached m base (isa_of std.target) (frame_of std s) flat (omega (arith, link, room)) flat_lie)

  module _ (m : Image) (base : ℕ) (room : base + frame_of std s ≤ length m.stack) (high : m.sp + base + frame_of std s < 2 ^ 64) where
    pub arguments_ready : SignatureHasNoFault s → PlacesAreReady m base s.arguments (plan_of std s).places
    arguments_ready right =
        with_copies m base (isa_of std.target) (frame_of std s) room high s.arguments (plan_of std s).places (argument_is_right s right) (arguments_there m base s.arguments (plan_of std s).places sound.has_all (places_there m base (isa_of std.target) (frame_of std s) flat room flat_lie)) (left_part Lies copies buffer (right_part Lies (argument_locs (plan_of std s)) (copies ++ buffer) sound.in_frame))

    pub result_ready : HiddenIsThere m base (plan_of std s).res
    result_ready =
        hidden_ready m base (isa_of std.target) (frame_of std s) room high std.copy_start (frame_copies_end std s) s.result_type (std.placing s).result_spot (least_multiple-above 16 (buffer_end std.copy_start (frame_copies_end std s) s.result_type (std.placing s).result_spot)) (places_there m base (isa_of std.target) (frame_of std s) hidden room (left_part Lies hidden flat all_lie))
