-- An argument on the stack, the copies of arguments by reference, and the buffer of a hidden result are chains of stack places.
use Rattle.std.proofs.Common.{ℕ, zero, suc, ◌+◌, ◌*◌, ◌≤◌, List, [], ◌∷◌, ◌++◌, arith}
use Rattle.ffi3_type_spec.specs.Tree.{Tree}
use Rattle.ffi3_type_spec.specs.Layout.{size_of}
use Rattle.ffi3_type_spec.specs.Signature.{Signature}
use Rattle.ffi3_type_spec.proofs.Layouts.{least_multiple-above}
use Rattle.ffi3_place_spec.specs.declared.Loc.TheVariants.{S}
use Rattle.ffi3_place_spec.specs.declared.Ext.{Ext}
use Rattle.ffi3_place_spec.specs.declared.Taken.{Taken}
use Rattle.ffi3_place_spec.specs.Standard.{Standard, Spot, in_pieces, by_reference, ResultSpot, no_result, in_result_pieces, in_buffer, places_from, copies_end, result_at, buffer_end, copies_start, frame_copies_end, frame_of, plan_of, round8}
use Rattle.ffi3_place_spec.specs.Doublewords.{doublewords, doublewords_at, widening, stack_pieces}
use Rattle.ffi3_place_spec.specs.Sound.{piece_locs, copy_locs, buffer_locs, stack_words_for}
use Rattle.ffi3_place_spec.proofs.Chain.{Chain, chain_append, slots_chain}
use Rattle.ffi3_place_spec.proofs.Doublewords.{doublewords_in}

-- the same registers, and the stack up to an offset
abbrev pub up_to : Taken → ℕ → Taken
up_to a n = record { general = a.general; vector = a.vector; stack = n }

module _ (general floating : ℕ → ℕ) (generals floatings : ℕ) where
  -- a value's doublewords on the stack, from number j on
  stack_chain : (a : Taken) (start size : ℕ) (e : Ext) (j count : ℕ) (b : Taken) → a.stack ≤ start + 8 * j → start + 8 * (j + count) ≤ b.stack → a.general ≤ b.general → a.vector ≤ b.vector → Chain general floating generals floatings a (piece_locs (doublewords_at (λ k. S (start + 8 * k) 8) size e j count)) b
  stack_chain a start size e j zero b low high g f =
      record { general = g; vector = f; stack = omega arith }
  stack_chain a start size e j (suc count) b low high g f =
      let mid : Taken = record { general = a.general; vector = a.vector; stack = start + 8 * (j + 1) } in
      (mid, low, (omega arith, omega arith, omega arith), record { general = omega arith; vector = omega arith; stack = omega arith }, stack_chain mid start size e (j + 1) count b (omega arith) (omega arith) g f)

  -- a value on the stack, from a byte on that is behind all that was taken
  pub value_chain : (a : Taken) (from : ℕ) (t : Tree) (b : Taken) → a.stack ≤ from → from + round8 (size_of t) ≤ b.stack → a.general ≤ b.general → a.vector ≤ b.vector → Chain general floating generals floatings a (piece_locs (stack_pieces from t)) b
  value_chain a from t b low high g f =
      stack_chain a from (size_of t) (widening t) 0 (doublewords t) b (omega (arith, low)) (omega (arith, high, doublewords_in (size_of t))) g f

  module _ (start : ℕ → Tree → ℕ) (behind : (end : ℕ) (t : Tree) → end ≤ start end t) where
    -- copies that start behind all that was taken
    copies_chain : (a : Taken) (end : ℕ) (ts : List Tree) (spots : List Spot) (b : Taken) → a.stack ≤ end → copies_end start end ts spots ≤ b.stack → a.general ≤ b.general → a.vector ≤ b.vector → Chain general floating generals floatings a (copy_locs ts (places_from start end ts spots)) b
    copies_chain a end [] spots b low high g f =
        record { general = g; vector = f; stack = omega arith }
    copies_chain a end (t ∷ ts) [] b low high g f =
        record { general = g; vector = f; stack = omega arith }
    copies_chain a end (t ∷ ts) (in_pieces pieces ∷ spots) b low high g f =
        copies_chain a end ts spots b low high g f
    copies_chain a end (t ∷ ts) (by_reference at ∷ spots) b low high g f =
        let mid : Taken = record { general = a.general; vector = a.vector; stack = start end t + round8 (size_of t) } in
        let from = behind end t in
        chain_append general floating generals floatings a (stack_words_for (start end t) t) mid _ b
        (slots_chain general floating generals floatings a (start end t) (doublewords t) mid (omega (arith, low, from)) (omega (arith, doublewords_in (size_of t))) (omega arith) (omega arith))
        (copies_chain mid (start end t + round8 (size_of t)) ts spots b (omega arith) high g f)

    -- the copies end behind where they start
    pub copies_end-behind : (end : ℕ) (ts : List Tree) (spots : List Spot) → end ≤ copies_end start end ts spots
    copies_end-behind end [] spots = omega arith
    copies_end-behind end (t ∷ ts) [] = omega arith
    copies_end-behind end (t ∷ ts) (in_pieces pieces ∷ spots) = copies_end-behind end ts spots
    copies_end-behind end (t ∷ ts) (by_reference at ∷ spots) =
        omega (arith, behind end t, copies_end-behind (start end t + round8 (size_of t)) ts spots)

    -- a buffer that starts behind all that was taken
    buffer_chain : (a : Taken) (end : ℕ) (t : Tree) (spot : ResultSpot) (b : Taken) → a.stack ≤ end → buffer_end start end t spot ≤ b.stack → a.general ≤ b.general → a.vector ≤ b.vector → Chain general floating generals floatings a (buffer_locs t (result_at start end t spot)) b
    buffer_chain a end t no_result b low high g f =
        record { general = g; vector = f; stack = omega arith }
    buffer_chain a end t (in_result_pieces pieces) b low high g f =
        record { general = g; vector = f; stack = omega arith }
    buffer_chain a end t (in_buffer l) b low high g f =
        slots_chain general floating generals floatings a (start end t) (doublewords t) b (omega (arith, low, behind end t)) (omega (arith, high, doublewords_in (size_of t))) g f

    pub buffer_end-behind : (end : ℕ) (t : Tree) (spot : ResultSpot) → end ≤ buffer_end start end t spot
    buffer_end-behind end t no_result = omega arith
    buffer_end-behind end t (in_result_pieces pieces) = omega arith
    buffer_end-behind end t (in_buffer l) = omega (arith, behind end t)

  -- the copies and the buffer of a call, behind all that its arguments take
  pub frame_chain : (std : Standard) → ((end : ℕ) (t : Tree) → end ≤ std.copy_start end t) → (s : Signature) (a : Taken) → a.stack ≤ (std.placing s).stack_bytes → Chain general floating generals floatings a (copy_locs s.arguments (plan_of std s).places ++ buffer_locs s.result_type (plan_of std s).res) (up_to a (frame_of std s))
  frame_chain std behind s a low =
      let p = std.placing s in
      let starts = least_multiple-above 16 p.stack_bytes in
      let last = buffer_end std.copy_start (frame_copies_end std s) s.result_type p.result_spot in
      let ends = least_multiple-above 16 last in
      let copied = up_to a (frame_copies_end std s) in
      let through = copies_end-behind std.copy_start behind (copies_start p) s.arguments p.arguments in
      chain_append general floating generals floatings a (copy_locs s.arguments (plan_of std s).places) copied _ (up_to a (frame_of std s))
      (copies_chain std.copy_start behind a (copies_start p) s.arguments p.arguments copied (omega (arith, low, starts)) (omega arith) (omega arith) (omega arith))
      (buffer_chain std.copy_start behind copied (frame_copies_end std s) s.result_type p.result_spot (up_to a (frame_of std s)) (omega arith) ends (omega arith) (omega arith))
