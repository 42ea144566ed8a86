-- What an image holds stays, where another has the same stack from some base on, and the same numbers in the registers in which something of it stands.
use Rattle.std.specs.Prelude.{Option, Some, None}
use Rattle.std.proofs.Common.{◌≡◌, ℕ, ◌+◌, ◌-◌, List, [], ◌∷◌, take, drop, get_or, ap, sym, ◌∙◌, subst, arith}
use Rattle.std.specs.List.{AllByRecursion, flat_map}
use Rattle.std.specs.Int.{w64, to_le_bytes, from_le_bytes}
use Rattle.std.proofs.lemmas.List.{drop-drop, get_or-drop}
use Rattle.ffi3_type_spec.specs.Tree.{Tree}
use Rattle.ffi3_type_spec.specs.Layout.{Leaf, leaves_of, size_of}
use Rattle.ffi3_type_spec.specs.Value.{ValueTree, value_in}
use Rattle.ffi3_place_spec.specs.declared.Loc.{Loc}
use Rattle.ffi3_place_spec.specs.declared.Loc.TheVariants.{G, F, S}
use Rattle.ffi3_place_spec.specs.declared.Piece.{Piece}
use Rattle.ffi3_place_spec.specs.declared.Place.{Place}
use Rattle.ffi3_place_spec.specs.declared.Place.TheVariants.{Direct, ByRef}
use Rattle.ffi3_place_spec.specs.declared.Res.{Res}
use Rattle.ffi3_place_spec.specs.declared.Res.TheVariants.{Nothing, Direct as DirectRes, Hidden}
use Rattle.ffi3_place_spec.specs.Image.{Image, byte_at, word_at}
use Rattle.ffi3_place_spec.specs.Holds.{leaf_bytes, Carries, LeavesStand, OwnsArgument, OwnsArguments, OwnsHidden, FillsAs, FillPieces, FillsArgument, FillArguments, RegisterHolds}
use Rattle.ffi3_place_spec.specs.Sound.{hidden_locs, piece_locs, place_locs}
use Rattle.ffi3_place_spec.proofs.Words.{same_bytes}
use Rattle.ffi3_place_spec.specs.MachineRegisters.{to_list}
use Rattle.ffi3_machine_transfer.specs.Stored.{IsPlace}
use Rattle.ffi3_marshal.proofs.Lawful.{each_first, each_rest}

-- From `b` on `new` has the stack that `old` has from `c` on, and it has the same numbers in the registers that are kept.
pub record AreAlike (c b : ℕ) (IsKept : Loc → Type 0) (old new : Image) : Type 0 where
  pub sp : new.sp + b ≡ old.sp + c
  pub stack : drop b new.stack ≡ drop c old.stack
  pub general : (r : ℕ) → IsKept (G r) → get_or new.general r 0 ≡ get_or old.general r 0
  pub floating : (r : ℕ) → IsKept (F r) → get_or new.floating r 0 ≡ get_or old.floating r 0

module _ (c b : ℕ) (IsKept : Loc → Type 0) (old new : Image) (is : AreAlike c b IsKept old new) where
  stack_same : (i : ℕ) → get_or new.stack (b + i) 0 ≡ get_or old.stack (c + i) 0
  stack_same i = sym (get_or-drop b new.stack i 0) ∙ ap (λ xs. get_or xs i 0) is.stack ∙ get_or-drop c old.stack i 0

  pub byte_same : (l : Loc) (k : ℕ) → IsKept l → byte_at new b l k ≡ byte_at old c l k
  byte_same (G r) k kept = ap (λ n. get_or (to_le_bytes w64 n) k 0) (is.general r kept)
  byte_same (F r) k kept = ap (λ n. get_or (to_le_bytes w64 n) k 0) (is.floating r kept)
  byte_same (S n w) k kept =
      let there : b + n + k ≡ b + (n + k) = omega arith in
      let here : c + (n + k) ≡ c + n + k = omega arith in
      ap (λ i. get_or new.stack i 0) there ∙ stack_same (n + k) ∙ ap (λ i. get_or old.stack i 0) here

  pub word_same : (l : Loc) → IsKept l → word_at new b l ≡ word_at old c l
  word_same (G r) kept = is.general r kept
  word_same (F r) kept = is.floating r kept
  word_same (S n w) kept =
      ap (from_le_bytes w64) (same_bytes (byte_at new b (S n w)) (byte_at old c (S n w)) w (λ k h. byte_same (S n w) k kept))

  -- ---- arguments

  pieces_stand : (o x : ℕ) (pieces : List Piece) → AllByRecursion IsKept (piece_locs pieces) → AllByRecursion (λ p. Carries o p → byte_at old c p.loc (o - p.off) ≡ x) pieces → AllByRecursion (λ p. Carries o p → byte_at new b p.loc (o - p.off) ≡ x) pieces
  pieces_stand o x [] kept h = tt
  pieces_stand o x (p ∷ ps) kept h = (λ carries. byte_same p.loc (o - p.off) kept.0 ∙ h.0 carries, pieces_stand o x ps kept.1 h.1)

  pub leaves_stand : (pieces : List Piece) (ls : List Leaf) (bs : List (List ℕ)) → AllByRecursion IsKept (piece_locs pieces) → LeavesStand old c pieces ls bs → LeavesStand new b pieces ls bs
  leaves_stand pieces [] [] kept h = tt
  leaves_stand pieces (l ∷ ls) (x ∷ bs) kept h =
      (λ k below. pieces_stand (l.at + k) (get_or x k 0) pieces kept (h.0 k below), leaves_stand pieces ls bs kept h.1)
  leaves_stand pieces _ _ kept h = absurd h

  argument_owned : (t : Tree) (p : Place) (v : ValueTree) → AllByRecursion IsKept (place_locs p) → OwnsArgument old c t p v → OwnsArgument new b t p v
  argument_owned t (Direct pieces) v kept own =
      (own.0, leaves_stand pieces (leaves_of t) (leaf_bytes v) kept own.1)
  argument_owned t (ByRef at copy) v kept own =
      let address : old.sp + c + copy ≡ new.sp + b + copy = omega (arith, is.sp) in
      let same : drop (b + copy) new.stack ≡ drop (c + copy) old.stack = sym (drop-drop copy b new.stack) ∙ ap (drop copy) is.stack ∙ drop-drop copy c old.stack in
      (own.0, word_same at kept.0 ∙ own.1 ∙ address, ap (λ xs. value_in t (take (size_of t) xs)) same ∙ own.2)

  pub arguments_owned : (ts : List Tree) (ps : List Place) (vs : List ValueTree) → AllByRecursion IsKept (flat_map place_locs ps) → OwnsArguments old c ts ps vs → OwnsArguments new b ts ps vs
  arguments_owned [] [] [] kept own = tt
  arguments_owned (t ∷ ts) (p ∷ ps) (v ∷ vs) kept own =
      (argument_owned t p v (each_first IsKept (place_locs p) (flat_map place_locs ps) kept) own.0, arguments_owned ts ps vs (each_rest IsKept (place_locs p) (flat_map place_locs ps) kept) own.1)
  arguments_owned _ _ _ kept own = absurd own

  pub pieces_filled : (t : Tree) (v : ValueTree) (pieces : List Piece) → AllByRecursion IsKept (piece_locs pieces) → FillPieces old c t pieces v → FillPieces new b t pieces v
  pieces_filled t v [] kept h = tt
  pieces_filled t v (p ∷ ps) kept h =
      (subst (λ w. FillsAs p.ext w t v) (sym (word_same p.loc kept.0)) h.0, pieces_filled t v ps kept.1 h.1)

  argument_filled : (t : Tree) (p : Place) (v : ValueTree) → AllByRecursion IsKept (place_locs p) → FillsArgument old c t p v → FillsArgument new b t p v
  argument_filled t (Direct pieces) v kept h = pieces_filled t v pieces kept h
  argument_filled t (ByRef at copy) v kept h = tt

  pub arguments_filled : (ts : List Tree) (ps : List Place) (vs : List ValueTree) → AllByRecursion IsKept (flat_map place_locs ps) → FillArguments old c ts ps vs → FillArguments new b ts ps vs
  arguments_filled [] [] [] kept h = tt
  arguments_filled (t ∷ ts) (p ∷ ps) (v ∷ vs) kept h =
      (argument_filled t p v (each_first IsKept (place_locs p) (flat_map place_locs ps) kept) h.0, arguments_filled ts ps vs (each_rest IsKept (place_locs p) (flat_map place_locs ps) kept) h.1)
  arguments_filled _ _ _ kept h = absurd h

  -- ---- the hidden result's address, and the number of vector registers

  pub address_owned : (r : Res) → AllByRecursion IsKept (hidden_locs r) → OwnsHidden old c r → OwnsHidden new b r
  address_owned (Hidden at buffer) kept own =
      let address : old.sp + c + buffer ≡ new.sp + b + buffer = omega (arith, is.sp) in
      word_same at kept.0 ∙ own ∙ address
  address_owned Nothing kept own = tt
  address_owned (DirectRes pieces) kept own = tt

  pub count_held : (at : Option Loc) (n : ℕ) → AllByRecursion (IsPlace 0) (to_list at) → AllByRecursion IsKept (to_list at) → RegisterHolds old at n → RegisterHolds new at n
  count_held None n lie kept h = tt
  count_held (Some (G r)) n lie kept h = is.general r kept.0 ∙ h
  count_held (Some (F r)) n lie kept h = is.floating r kept.0 ∙ h
  count_held (Some (S k w)) n lie kept h = absurd (omega (arith, lie.0.0, lie.0.1))
