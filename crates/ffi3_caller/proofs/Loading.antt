-- What is loaded from pieces in registers has each byte that a piece carries.
use Rattle.std.proofs.Common.{◌≡◌, ℕ, zero, suc, ◌+◌, ◌-◌, ◌<◌, ◌≤◌, ◌⊎◌, inl, inr, List, [], ◌∷◌, take, drop, get_or, length, refl, ap, sym, ◌∙◌, subst, arith}
use Rattle.std.specs.List.{AllByRecursion, Any}
use Rattle.std.specs.Int.{w64, to_le_bytes}
use Rattle.std.proofs.lemmas.Bool.{cases_lt}
use Rattle.std.proofs.lemmas.List.{get_or-take, get_or-drop, get_or_append_left, get_or-append_right, length-append, length-take-le, length-drop}
use Rattle.ffi3_type_spec.specs.Layout.{Leaf}
use Rattle.ffi3_place_spec.specs.declared.Loc.{Loc}
use Rattle.ffi3_place_spec.specs.declared.Piece.{Piece}
use Rattle.ffi3_place_spec.specs.Image.{Image, byte_at}
use Rattle.ffi3_place_spec.specs.Holds.{Carries, StandsInPieces, LeavesStand}
use Rattle.ffi3_place_spec.specs.Sound.{CoversLeaf, IsWithin}
use Rattle.ffi3_machine_spec.specs.State.{State, image_of}
use Rattle.ffi3_machine_transfer.specs.Stored.{IsPlace}
use Rattle.ffi3_caller.specs.Loaded.{AreWithin, register_of, loaded, with_piece}
use Rattle.ffi3_place_spec.proofs.Reading.{ReadsLeaf, LeavesRead}
use Rattle.ffi3_marshal.proofs.Ranges.{above_range, below_range, in_range, range_length}
use Rattle.ffi3_machine_transfer.proofs.Composing.{by_register}

-- the pieces from number i on are still to be loaded
pub record IsLeftToLoad (m : State) (pieces : List Piece) (old : List ℕ) (i : ℕ) (out : List ℕ) : Type 0 where
  pub same_length : length out ≡ length old
  pub same : loaded m (drop i pieces) out ≡ loaded m pieces old
  pub within : AreWithin (length old) (drop i pieces)
  pub registers : AllByRecursion (λ p. IsPlace 0 p.loc) (drop i pieces)

-- ---- pieces in registers

byte_of : State → Loc → ℕ → ℕ
byte_of m at k = get_or (to_le_bytes w64 (register_of m at)) k 0

module _ (m : State) (frame size : ℕ) where
  abbrev at_return : Image
  at_return = image_of frame m

  same_byte : (at : Loc) (k : ℕ) → IsPlace 0 at → byte_at at_return 0 at k ≡ get_or (to_le_bytes w64 (register_of m at)) k 0
  same_byte at k lies =
      by_register (λ at. byte_at at_return 0 at k ≡ get_or (to_le_bytes w64 (register_of m at)) k 0) (λ r below. refl) (λ r below. refl) at lies

  module _ (p : Piece) (out : List ℕ) (sized : length out ≡ size) (within : IsWithin size p) (register : IsPlace 0 p.loc) where
    abbrev low : List ℕ
    low = take p.len (to_le_bytes w64 (register_of m p.loc))

    low_length : p.off + length low ≡ p.off + p.len
    low_length = ap (λ n. p.off + n) (length-take-le p.len (to_le_bytes w64 (register_of m p.loc)) within.0)

    room : p.off + p.len ≤ length out
    room = omega (arith, within.1, sized)

    carried : (o : ℕ) → Carries o p → get_or (with_piece m p out) o 0 ≡ byte_at at_return 0 p.loc (o - p.off)
    carried o c =
        let here : o - p.off < p.len = omega (arith, c.0, c.1) in
        in_range out low p.off (p.off + p.len) low_length room o c.0 c.1 ∙ get_or-take p.len (to_le_bytes w64 (register_of m p.loc)) (o - p.off) 0 here ∙ sym (same_byte p.loc (o - p.off) register)

    others : (o : ℕ) → (Carries o p) ⊎ (get_or (with_piece m p out) o 0 ≡ get_or out o 0)
    others o =
        elim (cases_lt o p.off) [
          | inl below ↦ inr (below_range out low p.off (p.off + p.len) low_length room o below)
          | inr from ↦
              elim (cases_lt o (p.off + p.len)) [
                | inl to ↦ inl (from, to)
                | inr beyond ↦ inr (above_range out low p.off (p.off + p.len) low_length room o beyond)
              ]
        ]

    still_sized : length (with_piece m p out) ≡ size
    still_sized = range_length out low p.off (p.off + p.len) low_length room ∙ sized

  -- where each piece that carries a byte has it, and one does or it is there, it is there in the end
  byte_loaded : (pieces : List Piece) (out : List ℕ) (o x : ℕ) → length out ≡ size → AreWithin size pieces → AllByRecursion (λ p. IsPlace 0 p.loc) pieces → AllByRecursion (λ p. Carries o p → byte_at at_return 0 p.loc (o - p.off) ≡ x) pieces → (Any (Carries o) pieces) ⊎ (get_or out o 0 ≡ x) → get_or (loaded m pieces out) o 0 ≡ x
  byte_loaded [] out o x sized within registers each (inl some) = absurd (omega (arith, some.2))
  byte_loaded [] out o x sized within registers each (inr there) = there
  byte_loaded (p ∷ ps) out o x sized within registers each some =
      let next = still_sized p out sized within.0 registers.0 in
      let rest = byte_loaded ps (with_piece m p out) o x next within.1 registers.1 each.1 in
      elim (others p out sized within.0 registers.0 o) [
        | inl here ↦ rest (inr (carried p out sized within.0 registers.0 o here ∙ each.0 here))
        | inr other ↦ rest (later some other)
      ]
    where
      later : (Any (Carries o) (p ∷ ps)) ⊎ (get_or out o 0 ≡ x) → get_or (with_piece m p out) o 0 ≡ get_or out o 0 → (Any (Carries o) ps) ⊎ (get_or (with_piece m p out) o 0 ≡ x)
      later (inr there) other = inr (other ∙ there)
      later (inl (zero, q, below, is, carries)) other =
          inr (carried p out sized within.0 registers.0 o (subst (Carries o) (sym is) carries) ∙ each.0 (subst (Carries o) (sym is) carries))
      later (inl (suc k, q, below, is, carries)) other = inl (k, q, omega arith, is, carries)

  -- each leaf that stands in pieces, which have all of it, is read
  leaf_loaded : (pieces : List Piece) (out : List ℕ) (l : Leaf) (b : List ℕ) → length out ≡ size → AreWithin size pieces → AllByRecursion (λ p. IsPlace 0 p.loc) pieces → CoversLeaf pieces l → StandsInPieces at_return 0 pieces l b → ReadsLeaf (loaded m pieces out) l b
  leaf_loaded pieces out l b sized within registers covers stands k h =
      byte_loaded pieces out (l.at + k) (get_or b k 0) sized within registers (stands k h) (inl (covers k h))

  pub leaves_loaded : (pieces : List Piece) (out : List ℕ) (ls : List Leaf) (bs : List (List ℕ)) → length out ≡ size → AreWithin size pieces → AllByRecursion (λ p. IsPlace 0 p.loc) pieces → AllByRecursion (CoversLeaf pieces) ls → LeavesStand at_return 0 pieces ls bs → LeavesRead (loaded m pieces out) ls bs
  leaves_loaded pieces out [] [] sized within registers covers stand = tt
  leaves_loaded pieces out (l ∷ ls) (b ∷ bs) sized within registers covers stand =
      (leaf_loaded pieces out l b sized within registers covers.0 stand.0, leaves_loaded pieces out ls bs sized within registers covers.1 stand.1)
  leaves_loaded pieces out _ _ sized within registers covers stand = absurd stand
