-- The places of the arguments: where each is as it is wanted, the image owns the values that are read, and the other way round.
use Rattle.std.proofs.Common.{◌≡◌, ℕ, suc, ◌+◌, ◌<◌, ◌≤◌, inl, inr, List, [], ◌∷◌, length, take, drop, refl, arith, length-take, length-drop}
use Rattle.std.specs.List.{AllByRecursion}
use Rattle.std.proofs.lemmas.Bool.{cases_lt}
use Rattle.ffi3_type_spec.specs.Tree.{Tree, tree_at}
use Rattle.ffi3_type_spec.specs.Layout.{size_of}
use Rattle.ffi3_type_spec.specs.Fault.{IsLaidOut}
use Rattle.ffi3_type_spec.specs.Value.{ValueTree}
use Rattle.ffi3_type_spec.specs.declared.Isa.{Isa}
use Rattle.ffi3_place_spec.specs.declared.Piece.{Piece}
use Rattle.ffi3_place_spec.specs.declared.Place.{Place}
use Rattle.ffi3_place_spec.specs.declared.Place.TheVariants.{Direct, ByRef}
use Rattle.ffi3_place_spec.specs.Image.{Image}
use Rattle.ffi3_place_spec.specs.Holds.{OwnsArgument, OwnsArguments, FillsArgument, FillArguments}
use Rattle.ffi3_place_spec.specs.Sound.{PlaceHasAll, PlacesHaveAll, LiesIn, stack_words_for, copy_locs}
pub use Rattle.ffi3_place_spec.proofs.Further.{each_of_all as join, each_in_front as left_part, each_behind as right_part}
use Rattle.ffi3_explain_spec.specs.Explain.{checks_of_pieces, checks_of_place, checks_of_arguments, value_at_place, values_at_places, first_bytes}
use Rattle.ffi3_explain_spec.specs.Laws.{HasWords, IsHeld}
use Rattle.ffi3_type_spec.proofs.Fitting.{value_fits}
use Rattle.ffi3_explain_spec.proofs.Copies.{copy_fits}
use Rattle.ffi3_explain_spec.proofs.Pieces.{IsAsWanted, first_bytes-length, read_stands, read_fills, stood_is_read, stood_is_wanted}

-- ---- copies lie in the frame

copy_part : (isa : Isa) (frame base at : ℕ) (t : Tree) (bytes : List ℕ) → AllByRecursion (LiesIn isa frame) (stack_words_for at t) → base + frame ≤ length bytes → length (take (size_of t) (drop (base + at) bytes)) ≡ size_of t
copy_part isa frame base at t bytes lies room =
    elim (cases_lt 0 (size_of t)) [
      | inl some ↦ simp (length-take, length-drop) (omega (arith, copy_fits isa frame at t some lies, room))
      | inr none ↦ simp (length-take, length-drop) (omega (arith, none))
    ]

-- those of the first argument, and those of the others
pub one_copy : (isa : Isa) (frame : ℕ) (t : Tree) (ts : List Tree) (p : Place) (ps : List Place) → AllByRecursion (LiesIn isa frame) (copy_locs (t ∷ ts) (p ∷ ps)) → AllByRecursion (LiesIn isa frame) (copy_locs (t ∷ []) (p ∷ [])) × AllByRecursion (LiesIn isa frame) (copy_locs ts ps)
one_copy isa frame t ts (Direct pieces) ps h = (tt, h)
one_copy isa frame t ts (ByRef at copy) ps h = (
  join (LiesIn isa frame) (stack_words_for copy t) [] (left_part (LiesIn isa frame) (stack_words_for copy t) (copy_locs ts ps) h) tt,
  right_part (LiesIn isa frame) (stack_words_for copy t) (copy_locs ts ps) h,
)

-- ---- one argument

module _ (m : Image) (base : ℕ) (has : HasWords m) where
  pub held_pieces : (i : ℕ) (t : Tree) (all ps : List Piece) → AllByRecursion IsHeld (checks_of_pieces m base i t all ps) → AllByRecursion (IsAsWanted m base has t all) ps
  held_pieces i t all [] h = tt
  held_pieces i t all (p ∷ ps) h = (h.0, held_pieces i t all ps h.1)

  pub pieces_held : (i : ℕ) (t : Tree) (all ps : List Piece) → AllByRecursion (IsAsWanted m base has t all) ps → AllByRecursion IsHeld (checks_of_pieces m base i t all ps)
  pieces_held i t all [] h = tt
  pieces_held i t all (p ∷ ps) h = (h.0, pieces_held i t all ps h.1)

  module _ (isa : Isa) (frame : ℕ) (room : base + frame ≤ length m.stack) where
    argument_owned : (i : ℕ) (t : Tree) (p : Place) → IsLaidOut t → PlaceHasAll t p → AllByRecursion (LiesIn isa frame) (copy_locs (t ∷ []) (p ∷ [])) → AllByRecursion IsHeld (checks_of_place m base i t p) → OwnsArgument m base t p (value_at_place m base t p) × FillsArgument m base t p (value_at_place m base t p)
    argument_owned i t (Direct ps) right have lies held =
        let is = held_pieces i t ps ps held in
        ((value_fits t (first_bytes m base ps 0 (size_of t)) right (first_bytes-length m base ps 0 (size_of t)), read_stands m base has t ps have is), read_fills m base has t ps ps is)
    argument_owned i t (ByRef at copy) right have lies held =
        let long = copy_part isa frame base copy t m.stack (left_part (LiesIn isa frame) (stack_words_for copy t) [] lies) room in
        ((value_fits t (take (size_of t) (drop (base + copy) m.stack)) right long, held.0, refl), tt)

  argument_held : (i : ℕ) (t : Tree) (p : Place) (v : ValueTree) → PlaceHasAll t p → OwnsArgument m base t p v → FillsArgument m base t p v → AllByRecursion IsHeld (checks_of_place m base i t p) × (value_at_place m base t p ≡ v)
  argument_held i t (Direct ps) v have own fill =
      (pieces_held i t ps ps (stood_is_wanted m base has t ps v have own.0 own.1 fill), stood_is_read m base t ps v have own.0 own.1)
  argument_held i t (ByRef at copy) v have own fill = ((own.1, tt), own.2)

  -- ---- all arguments

  module _ (isa : Isa) (frame : ℕ) (room : base + frame ≤ length m.stack) where
    pub arguments_owned : (i : ℕ) (ts : List Tree) (ps : List Place) → ((k : ℕ) → k < length ts → IsLaidOut (tree_at ts k)) → PlacesHaveAll ts ps → AllByRecursion (LiesIn isa frame) (copy_locs ts ps) → AllByRecursion IsHeld (checks_of_arguments m base i ts ps) → OwnsArguments m base ts ps (values_at_places m base ts ps) × FillArguments m base ts ps (values_at_places m base ts ps)
    arguments_owned i [] [] right have lies held = (tt, tt)
    arguments_owned i (t ∷ ts) (p ∷ ps) right have lies held =
        let copies = one_copy isa frame t ts p ps lies in
        let here = argument_owned isa frame room i t p (right 0 (omega arith)) have.0 copies.0 (left_part IsHeld (checks_of_place m base i t p) (checks_of_arguments m base (suc i) ts ps) held) in
        let later = arguments_owned (suc i) ts ps (λ k h. right (suc k) (omega (arith, h))) have.1 copies.1 (right_part IsHeld (checks_of_place m base i t p) (checks_of_arguments m base (suc i) ts ps) held) in
        ((here.0, later.0), (here.1, later.1))
    arguments_owned i _ _ right have lies held = absurd have

  pub arguments_held : (i : ℕ) (ts : List Tree) (ps : List Place) (vs : List ValueTree) → PlacesHaveAll ts ps → OwnsArguments m base ts ps vs → FillArguments m base ts ps vs → AllByRecursion IsHeld (checks_of_arguments m base i ts ps) × (values_at_places m base ts ps ≡ vs)
  arguments_held i [] [] [] have own fill = (tt, refl)
  arguments_held i [] [] (v ∷ vs) have own fill = absurd own
  arguments_held i (t ∷ ts) (p ∷ ps) [] have own fill = absurd own
  arguments_held i (t ∷ ts) (p ∷ ps) (v ∷ vs) have own fill =
      let here = argument_held i t p v have.0 own.0 fill.0 in
      let later = arguments_held (suc i) ts ps vs have.1 own.1 fill.1 in
      let same : value_at_place m base t p ∷ values_at_places m base ts ps ≡ v ∷ vs = λ j. here.1 j ∷ later.1 j in
      (join IsHeld (checks_of_place m base i t p) (checks_of_arguments m base (suc i) ts ps) here.0 later.0, same)
  arguments_held i _ _ vs have own fill = absurd have
