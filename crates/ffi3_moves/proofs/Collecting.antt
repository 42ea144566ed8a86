-- What the moves out of an exchange leave: the bytes of a value from its pieces, or from where an address points.
use Rattle.std.specs.Prelude.{◌&&◌, cond, nat_le, true}
use Rattle.std.proofs.Common.{◌≡◌, ◌⊎◌, inl, inr, ℕ, zero, suc, ◌+◌, ◌-◌, ◌<◌, ◌≤◌, List, [], ◌∷◌, drop, length, get_or, refl, ap, sym, ◌∙◌, subst, arith, length-drop}
use Rattle.std.specs.List.{AllByRecursion}
use Rattle.std.proofs.lemmas.Bool.{cases_lt, le-leb}
use Rattle.std.proofs.lemmas.List.{ext_get_or, length-append}
use Rattle.ffi3_type_spec.specs.declared.Target.{Target}
use Rattle.ffi3_type_spec.specs.Tree.{Tree}
use Rattle.ffi3_type_spec.specs.Layout.{Leaf, leaves_of, size_of}
use Rattle.ffi3_type_spec.specs.Value.{ValueTree, value_in, fits, part}
use Rattle.ffi3_type_spec.proofs.Parts.{index_part, length_part}
use Rattle.ffi3_place_spec.specs.declared.Piece.{Piece}
use Rattle.ffi3_place_spec.specs.declared.Place.{Place}
use Rattle.ffi3_place_spec.specs.declared.Place.TheVariants.{Direct, ByRef}
use Rattle.ffi3_place_spec.specs.Image.{Image, byte_at}
use Rattle.ffi3_place_spec.specs.Standard.{round8}
use Rattle.ffi3_place_spec.specs.Holds.{Carries, LeavesStand, OwnsArgument, OwnsArguments, leaf_bytes}
use Rattle.ffi3_place_spec.specs.Sound.{place_size, CoversLeaf, HaveAll, IsPieceOf, piece_locs}
use Rattle.ffi3_place_spec.proofs.Covered.{EndsIn, leaves_end}
use Rattle.ffi3_place_spec.proofs.Reading.{LeavesRead, reads}
use Rattle.ffi3_marshal.specs.Standing.{AreReadyIn, IsReadyIn}
use Rattle.ffi3_transfer.specs.Places.{IsPlace}
use Rattle.ffi3_transfer.specs.Packed.{packed_size, values_packed, behind}
use Rattle.ffi3_transfer.proofs.Packing.{behind_drop, in_room}
use Rattle.ffi3_moves.specs.Play.{bytes_behind, frame_at, play, word_from, written_over}
use Rattle.ffi3_moves.specs.Moves.{exchange_at, argument_out, arguments_out, piece_out, pieces_out}
use Rattle.ffi3_moves.specs.Exchange.{AreBytes, image_at}
use Rattle.ffi3_moves.proofs.Bytes.{over_inside, over_outside, over_size, over_part}
use Rattle.ffi3_moves.proofs.Places.{byte_there, place_fits, stack_byte, word_is}
use Rattle.ffi3_moves.proofs.Passing.{play_append}

-- only the bytes of a part of the values change
pub record WritesWithin (from to : ℕ) (old new : List ℕ) : Type 0 where
  pub size : length new ≡ length old
  pub outside : (k : ℕ) → (k < from) ⊎ (to ≤ k) → get_or new k 0 ≡ get_or old k 0

within_none : (from to : ℕ) (x : List ℕ) → WritesWithin from to x x
within_none from to x = record { size = refl; outside = λ k h. refl }

within_then : (from to : ℕ) (x y z : List ℕ) → WritesWithin from to x y → WritesWithin from to y z → WritesWithin from to x z
within_then from to x y z a b = record { size = b.size ∙ a.size; outside = λ k h. b.outside k h ∙ a.outside k h }

within_wider : (low from to high : ℕ) (x y : List ℕ) → low ≤ from → to ≤ high → WritesWithin from to x y → WritesWithin low high x y
within_wider low from to high x y h k s = record { size = s.size; outside = λ i side. s.outside i (wider i side) }
  where
    wider : (i : ℕ) → (i < low) ⊎ (high ≤ i) → (i < from) ⊎ (to ≤ i)
    wider i (inl below) = inl (omega (arith, below, h))
    wider i (inr above) = inr (omega (arith, above, k))

-- the byte is the piece's, or it is not
carries_or : (o : ℕ) (p : Piece) → Carries o p ⊎ ((o < p.off) ⊎ (p.off + p.len ≤ o))
carries_or o p =
    elim (cases_lt o p.off) [
      | inl below ↦ inr (inl below)
      | inr from ↦
          elim (cases_lt o (p.off + p.len)) [
            | inl to ↦ inl (from, to)
            | inr above ↦ inr (inr above)
          ]
    ]

not_carried : (o : ℕ) (p : Piece) → Carries o p → (o < p.off) ⊎ (p.off + p.len ≤ o) → ⊥
not_carried o p c (inl below) = omega (arith, c.0, below)
not_carried o p c (inr above) = omega (arith, c.1, above)

module _ (sp base : ℕ) (link : List ℕ) (linked : length link ≡ base) (x : List ℕ) (long : frame_at ≤ length x) (are : AreBytes x) where
  abbrev m : Image
  m = image_at sp link x

  -- ---- the pieces of a value

  module _ (frame i at : ℕ) (t : Tree) where
    -- where these agree on the byte at an offset, and one of them has it, that is the byte
    abbrev pub HasAgreed : List Piece → List ℕ → Type 0
    HasAgreed ps out =
        (o b : ℕ) → AllByRecursion (λ p. Carries o p → byte_at m base p.loc (o - p.off) ≡ b) ps → (j : ℕ) (a : Piece) → j < length ps → get_or ps j a ≡ a → Carries o a → get_or out (at + o) 0 ≡ b

    -- it is none of this piece's
    later : (p : Piece) (ps : List Piece) (out : List ℕ) → HasAgreed ps out → (o b : ℕ) → AllByRecursion (λ q. Carries o q → byte_at m base q.loc (o - q.off) ≡ b) ps → (j : ℕ) (a : Piece) → j < length (p ∷ ps) → get_or (p ∷ ps) j a ≡ a → Carries o a → (o < p.off) ⊎ (p.off + p.len ≤ o) → get_or out (at + o) 0 ≡ b
    later p ps out agreed o b agree zero a h e c side = absurd (not_carried o p (subst (Carries o) (sym e) c) side)
    later p ps out agreed o b agree (suc j) a h e c side = agreed o b agree j a (omega (arith, h)) e c

    pub pieces_collected : (ps : List Piece) (out : List ℕ) → at + size_of t ≤ length out → AllByRecursion (IsPieceOf t) ps → AllByRecursion (IsPlace (length x - frame_at)) (piece_locs ps) → WritesWithin at (at + size_of t) out (play frame (pieces_out i at ps) x out) × HasAgreed ps (play frame (pieces_out i at ps) x out)
    pieces_collected [] out room parts lie = (within_none at (at + size_of t) out, λ o b agree j a h e c. absurd (omega (arith, h)))
    pieces_collected (p ∷ ps) out room parts lie =
        let before = pieces_collected ps out room parts.1 lie.1 in
        let mid = play frame (pieces_out i at ps) x out in
        let bytes = part x (exchange_at p.loc) p.len in
        let place : exchange_at p.loc + place_size p.loc ≤ length x = place_fits p.loc (length x) long lie.0 in
        let many : length (part x (exchange_at p.loc) p.len) ≡ p.len = length_part x (exchange_at p.loc) p.len (omega (arith, place, parts.0.fits)) in
        let fits : at + p.off + length (part x (exchange_at p.loc) p.len) ≤ length (play frame (pieces_out i at ps) x out) = omega (arith, many, room, parts.0.within, before.0.size) in
        let new = written_over (at + p.off) (part x (exchange_at p.loc) p.len) (play frame (pieces_out i at ps) x out) in
        let last : WritesWithin at (at + size_of t) mid new = record {
          size = over_size (at + p.off) bytes mid fits;
          outside = λ k side. over_outside (at + p.off) bytes mid fits k (elim side [ inl below ↦ inl (omega (arith, below)) | inr above ↦ inr (omega (arith, above, many, parts.0.within)) ]);
        } in
        let has : (o b : ℕ) → AllByRecursion (λ p. Carries o p → byte_at m base p.loc (o - p.off) ≡ b) (p ∷ ps) → (j : ℕ) (a : Piece) → j < length (p ∷ ps) → get_or (p ∷ ps) j a ≡ a → Carries o a → get_or new (at + o) 0 ≡ b = λ o b agree j a h e c.
        elim (carries_or o p) [
          | inl c' ↦
              let there : at + p.off + (o - p.off) ≡ at + o = omega (arith, c'.0) in
              let below : o - p.off < p.len = omega (arith, c'.0, c'.1) in
              ap (λ k. get_or new k 0) (sym there) ∙ over_inside (at + p.off) bytes mid fits (o - p.off) (omega (arith, below, many)) ∙ index_part x (exchange_at p.loc) p.len (o - p.off) below ∙ sym (byte_there sp base link linked x long are p.loc lie.0 (o - p.off) (omega (arith, below, parts.0.fits))) ∙ agree.0 c'
          | inr side ↦
              over_outside (at + p.off) bytes mid fits (at + o) (elim side [ inl below ↦ inl (omega (arith, below)) | inr above ↦ inr (omega (arith, above, many)) ]) ∙ later p ps mid before.1 o b agree.1 j a h e c side
        ] in
        let whole = play_append frame (pieces_out i at ps) (piece_out i at p ∷ []) x out in (
          subst (WritesWithin at (at + size_of t) out) (sym whole) (within_then at (at + size_of t) out mid new before.0 last),
          subst (HasAgreed (p ∷ ps)) (sym whole) has,
        )

    -- the leaves that stand in the pieces are read
    leaves_collected : (ps : List Piece) (out : List ℕ) → HasAgreed ps out → at + size_of t ≤ length out → (ls : List Leaf) (bs : List (List ℕ)) → AllByRecursion (EndsIn (size_of t)) ls → AllByRecursion (CoversLeaf ps) ls → LeavesStand m base ps ls bs → LeavesRead (part out at (size_of t)) ls bs
    leaves_collected ps out agreed room [] [] ends covers stand = tt
    leaves_collected ps out agreed room (l ∷ ls) (b ∷ bs) ends covers stand = (
      λ k h. let a = covers.0 k h in
          index_part out at (size_of t) (l.at + k) (omega (arith, ends.0, h)) ∙ agreed (l.at + k) (get_or b k 0) (stand.0 k h) a.0 a.1 a.2 a.3 a.4,
      leaves_collected ps out agreed room ls bs ends.1 covers.1 stand.1,
    )
    leaves_collected ps out agreed room _ _ ends covers stand = absurd stand

    pub record IsCollectedAs (v : ValueTree) (old new : List ℕ) : Type 0 where
      pub value : value_in t (part new at (size_of t)) ≡ v
      pub within : WritesWithin at (at + size_of t) old new

    pub pieces_read : (ps : List Piece) (v : ValueTree) (out : List ℕ) → at + size_of t ≤ length out → HaveAll t ps → AllByRecursion (IsPlace (length x - frame_at)) (piece_locs ps) → fits t v ≡ true → LeavesStand m base ps (leaves_of t) (leaf_bytes v) → IsCollectedAs v out (play frame (pieces_out i at ps) x out)
    pieces_read ps v out room has lie fit stand =
        let both = pieces_collected ps out room has.each lie in
        let new = play frame (pieces_out i at ps) x out in
        let new_room : at + size_of t ≤ length (play frame (pieces_out i at ps) x out) = omega (arith, both.0.size, room) in
        record {
          value = reads t v (part new at (size_of t)) fit (length_part new at (size_of t) new_room) (leaves_collected ps new both.1 new_room (leaves_of t) (leaf_bytes v) (leaves_end t) has.covered stand);
          within = both.0;
        }

    -- ---- bytes that are all of a value

    pub whole_read : (bytes : List ℕ) (v : ValueTree) (out : List ℕ) → length bytes ≡ size_of t → at + size_of t ≤ length out → value_in t bytes ≡ v → IsCollectedAs v out (written_over at bytes out)
    whole_read bytes v out many room is =
        let fits : at + length bytes ≤ length out = omega (arith, many, room) in
        record {
          value = ap (value_in t) (subst (λ n. part (written_over at bytes out) at n ≡ bytes) many (over_part at bytes out fits)) ∙ is;
          within = record {
            size = over_size at bytes out fits;
            outside = λ k side. over_outside at bytes out fits k (elim side [ inl below ↦ inl below | inr above ↦ inr (omega (arith, above, many)) ]);
          };
        }

  -- a part of the frame is that of the stack
  pub part_there : (n size : ℕ) → frame_at + n + size ≤ length x → part x (frame_at + n) size ≡ part m.stack (base + n) size
  part_there n size fits =
      let tall : length m.stack ≡ base + (length x - frame_at) = omega (arith, linked, length-append link (drop frame_at x), length-drop frame_at x) in
      let left = length_part x (frame_at + n) size fits in
      let right = length_part m.stack (base + n) size (omega (arith, tall, fits)) in
      ext_get_or 0 (part x (frame_at + n) size) (part m.stack (base + n) size) (left ∙ sym right) (λ k h.
      let below : k < size = omega (arith, h, left) in
      let one : frame_at + n + k ≡ frame_at + (n + k) = omega arith in
      let two : base + (n + k) ≡ base + n + k = omega arith in
      index_part x (frame_at + n) size k below ∙ ap (λ j. get_or x j 0) one ∙ sym (stack_byte sp base link linked x (n + k)) ∙ ap (λ j. get_or m.stack j 0) two ∙ sym (index_part m.stack (base + n) size k below))

  -- ---- arguments

  module _ (target : Target) where
    argument_read : (i at : ℕ) (t : Tree) (p : Place) (v : ValueTree) (out : List ℕ) → at + size_of t ≤ length out → IsReadyIn 40 target (length x - frame_at) t p → OwnsArgument m base t p v → IsCollectedAs (sp + base) i at t v out (play (sp + base) (argument_out i at t p) x out)
    argument_read i at t (Direct pieces) v out room ready owns = pieces_read (sp + base) i at t pieces v out room ready.has_all ready.lies owns.0 owns.1
    argument_read i at t (ByRef l copy) v out room ready owns =
        let word : word_from x (exchange_at l) ≡ sp + base + copy = sym (word_is sp base link linked x long are l ready.lies.0 ready.has_all) ∙ owns.1 in
        let there : frame_at + (word_from x (exchange_at l) - (sp + base)) ≡ frame_at + copy = omega (arith, word) in
        let fits : frame_at + copy + size_of t ≤ length x = omega (arith, ready.lies.1, long) in
        let same : part x (frame_at + (word_from x (exchange_at l) - (sp + base))) (size_of t) ≡ part m.stack (base + copy) (size_of t) = ap (λ n. part x n (size_of t)) there ∙ part_there copy (size_of t) fits in
        let bytes = part x (frame_at + (word_from x (exchange_at l) - (sp + base))) (size_of t) in
        let many : length (part x (frame_at + (word_from x (exchange_at l) - (sp + base))) (size_of t)) ≡ size_of t = length_part x (frame_at + (word_from x (exchange_at l) - (sp + base))) (size_of t) (omega (arith, there, fits)) in
        let above : nat_le (sp + base) (word_from x (exchange_at l)) ≡ true = le-leb (sp + base) (word_from x (exchange_at l)) (omega (arith, word)) in
        let inside : nat_le (frame_at + (word_from x (exchange_at l) - (sp + base)) + size_of t) (length x) ≡ true = le-leb (frame_at + (word_from x (exchange_at l) - (sp + base)) + size_of t) (length x) (omega (arith, there, fits)) in
        let played : bytes_behind (sp + base) x (word_from x (exchange_at l)) (size_of t) ≡ bytes =
        ap (λ b. cond (b && nat_le (frame_at + (word_from x (exchange_at l) - (sp + base)) + size_of t) (length x)) (part x (frame_at + (word_from x (exchange_at l) - (sp + base))) (size_of t)) []) above
        ∙ ap (λ b. cond b (part x (frame_at + (word_from x (exchange_at l) - (sp + base))) (size_of t)) []) inside in
        subst (λ bs. IsCollectedAs (sp + base) i at t v out (written_over at bs out)) (sym played) (whole_read (sp + base) i at t bytes v out many room (ap (value_in t) same ∙ owns.2))

    pub record AreCollectedAs (at : ℕ) (ts : List Tree) (vs : List ValueTree) (old new : List ℕ) : Type 0 where
      pub values : values_packed ts (drop at new) ≡ vs
      pub size : length new ≡ length old
      pub before : (k : ℕ) → k < at → get_or new k 0 ≡ get_or old k 0

    pub arguments_read : (i at : ℕ) (ts : List Tree) (ps : List Place) (vs : List ValueTree) (out : List ℕ) → at + packed_size ts ≤ length out → AreReadyIn 40 target (length x - frame_at) ts ps → OwnsArguments m base ts ps vs → AreCollectedAs at ts vs out (play (sp + base) (arguments_out i at ts ps) x out)
    arguments_read i at [] [] [] out room ready owns = record { values = refl; size = refl; before = λ k h. refl }
    arguments_read i at [] [] (v ∷ vs) out room ready owns = absurd owns
    arguments_read i at (t ∷ ts) (p ∷ ps) [] out room ready owns = absurd owns
    arguments_read i at (t ∷ ts) (p ∷ ps) (v ∷ vs) out room ready owns =
        let first = argument_read i at t p v out (omega (arith, room, in_room t)) ready.0 owns.0 in
        let mid = play (sp + base) (argument_out i at t p) x out in
        let next = at + round8 (size_of t) in
        let rest = arguments_read (i + 1) next ts ps vs mid (omega (arith, room, first.within.size)) ready.1 owns.1 in
        let new = play (sp + base) (arguments_out (i + 1) (at + round8 (size_of t)) ts ps) x (play (sp + base) (argument_out i at t p) x out) in
        let same : part new at (size_of t) ≡ part mid at (size_of t) = ext_get_or 0 (part new at (size_of t)) (part mid at (size_of t)) (length_part new at (size_of t) (omega (arith, room, in_room t, first.within.size, rest.size)) ∙ sym (length_part mid at (size_of t) (omega (arith, room, in_room t, first.within.size)))) (λ k h.
        let below : k < size_of t = omega (arith, h, length_part new at (size_of t) (omega (arith, room, in_room t, first.within.size, rest.size))) in
        index_part new at (size_of t) k below ∙ rest.before (at + k) (omega (arith, below, in_room t)) ∙ sym (index_part mid at (size_of t) k below)) in
        let one : value_in t (part new at (size_of t)) ≡ v = ap (value_in t) same ∙ first.value in
        let others : values_packed ts (behind t (drop at new)) ≡ vs = ap (values_packed ts) (behind_drop t at next new refl) ∙ rest.values in
        let all : AreCollectedAs at (t ∷ ts) (v ∷ vs) out new = record {
          values = λ j. one j ∷ others j;
          size = rest.size ∙ first.within.size;
          before = λ k h. rest.before k (omega (arith, h)) ∙ first.within.outside k (inl h);
        } in
        subst (AreCollectedAs at (t ∷ ts) (v ∷ vs) out) (sym (play_append (sp + base) (argument_out i at t p) (arguments_out (i + 1) (at + round8 (size_of t)) ts ps) x out)) all
    arguments_read i at _ _ vs out room ready owns = absurd ready
