-- Bytes that are written over those of a place in an exchange are put into that place of its image.
use Rattle.std.specs.Prelude.{◌≢◌}
use Rattle.std.proofs.Common.{◌≡◌, ℕ, ◌+◌, ◌-◌, ◌*◌, ◌<◌, ◌≤◌, ◌⊎◌, inl, inr, List, [], ◌∷◌, drop, length, get_or, refl, ap, sym, ◌∙◌, subst, arith, length-drop}
use Rattle.std.specs.Int.{w64, to_le_bytes, from_le_bytes}
use Rattle.std.proofs.lemmas.Bool.{cases_lt}
use Rattle.std.proofs.lemmas.Nat.{from_le_bytes-to_le_bytes_8}
use Rattle.std.proofs.lemmas.List.{get_or-append_right, get_or_append_left, get_or-drop, length-append}
use Rattle.ffi3_type_spec.specs.Value.{part}
use Rattle.ffi3_place_spec.specs.declared.Loc.{Loc}
use Rattle.ffi3_place_spec.specs.declared.Loc.TheVariants.{G, F, S}
use Rattle.ffi3_place_spec.specs.Image.{byte_at, word_at}
use Rattle.ffi3_place_spec.specs.Sound.{place_size, IsWhole, Apart, IsNoneOf}
use Rattle.ffi3_marshal.specs.Stored.{IsPut, SameAt, Stays}
use Rattle.ffi3_marshal.proofs.Puts.{word_there}
use Rattle.ffi3_transfer.specs.Places.{IsPlace}
use Rattle.ffi3_moves.specs.Play.{frame_at, word_from, written_over}
use Rattle.ffi3_moves.specs.Moves.{exchange_at}
use Rattle.ffi3_moves.specs.Exchange.{AreBytes, image_at, words_from}
use Rattle.ffi3_moves.proofs.Bytes.{over_inside, over_outside, over_size, over_part, over_apart, word_small, word_byte, general_read, words_read, words_past}

-- ---- where places stand

pub place_fits : (l : Loc) (size : ℕ) → frame_at ≤ size → IsPlace (size - frame_at) l → exchange_at l + place_size l ≤ size
place_fits (S n w) size long h = omega (arith, long, h.0)
place_fits _ size long h = omega (arith, long, h)

-- two registers of one kind
lower_of : (a b : ℕ) → a ≢ b → (a < b) ⊎ (b < a)
lower_of a b differ =
    elim (cases_lt a b) [
      | inl below ↦ inl below
      | inr from ↦
          elim (cases_lt b a) [
            | inl above ↦ inr above
            | inr to ↦
                let same : a ≡ b = omega (arith, from, to) in
                absurd (differ same)
          ]
    ]

-- places that are apart are apart in an exchange
pub apart_there : (room : ℕ) (q l : Loc) → IsPlace room q → IsPlace room l → Apart q l → (exchange_at q + place_size q ≤ exchange_at l) ⊎ (exchange_at l + place_size l ≤ exchange_at q)
apart_there room (G a) (G b) at_q at_l apart =
    elim (lower_of a b apart) [ inl below ↦ inl (omega (arith, below)) | inr above ↦ inr (omega (arith, above)) ]
apart_there room (G a) (F b) at_q at_l apart = inl (omega (arith, at_q))
apart_there room (G a) (S b w) at_q at_l apart = inl (omega (arith, at_q))
apart_there room (F a) (F b) at_q at_l apart =
    elim (lower_of a b apart) [ inl below ↦ inl (omega (arith, below)) | inr above ↦ inr (omega (arith, above)) ]
apart_there room (F a) (S b w) at_q at_l apart = inl (omega (arith, at_q))
apart_there room (S a v) (S b w) at_q at_l (inl below) = inl (omega (arith, below))
apart_there room (S a v) (S b w) at_q at_l (inr above) = inr (omega (arith, above))
apart_there room _ _ at_q at_l apart = inr (omega (arith, at_l))

module _ (sp base : ℕ) (link : List ℕ) (linked : length link ≡ base) where
  -- a byte of the frame
  pub stack_byte : (x : List ℕ) (n : ℕ) → get_or (image_at sp link x).stack (base + n) 0 ≡ get_or x (frame_at + n) 0
  stack_byte x n =
      let back : base + n - base ≡ n = omega arith in
      get_or-append_right link (drop frame_at x) base (base + n) 0 linked (omega arith) ∙ ap (λ k. get_or (drop frame_at x) k 0) back ∙ get_or-drop frame_at x n 0

  module _ (x : List ℕ) (long : frame_at ≤ length x) (are : AreBytes x) where
    pub byte_there : (l : Loc) → IsPlace (length x - frame_at) l → (k : ℕ) → k < place_size l → byte_at (image_at sp link x) base l k ≡ get_or x (exchange_at l + k) 0
    byte_there (G r) h k few =
        ap (λ n. get_or (to_le_bytes w64 n) k 0) (general_read r x h) ∙ word_byte x (8 * r) (omega (arith, h, long)) are k few
    byte_there (F r) h k few =
        ap (λ n. get_or (to_le_bytes w64 n) k 0) (words_read 40 256 r x h) ∙ word_byte x (256 + 8 * r) (omega (arith, h, long)) are k few
    byte_there (S n w) h k few =
        let one : base + n + k ≡ base + (n + k) = omega arith in
        let two : frame_at + (n + k) ≡ frame_at + n + k = omega arith in
        ap (λ i. get_or (image_at sp link x).stack i 0) one ∙ stack_byte x (n + k) ∙ ap (λ i. get_or x i 0) two

    pub word_is : (l : Loc) → IsPlace (length x - frame_at) l → IsWhole l → word_at (image_at sp link x) base l ≡ word_from x (exchange_at l)
    word_is (G r) h whole = general_read r x h
    word_is (F r) h whole = words_read 40 256 r x h
    word_is (S n w) h whole =
        let lies = subst (λ u. IsPlace (length x - frame_at) (S n u)) whole h in
        let fits : frame_at + n + 8 ≤ length x = place_fits (S n 8) (length x) long lies in
        subst (λ u. word_at (image_at sp link x) base (S n u) ≡ word_from x (frame_at + n)) (sym whole)
        (word_there base n (word_from x (frame_at + n)) (image_at sp link x) (word_small x (frame_at + n) fits are) (λ k few. byte_there (S n 8) lies k few ∙ sym (word_byte x (frame_at + n) fits are k few)))

  module _ (x : List ℕ) (long : frame_at ≤ length x) (are : AreBytes x) (l : Loc) (lies : IsPlace (length x - frame_at) l) (bytes : List ℕ) (few : length bytes ≤ place_size l) where
    fits : exchange_at l + length bytes ≤ length x
    fits = omega (arith, place_fits l (length x) long lies, few)

    abbrev new : List ℕ
    new = written_over (exchange_at l) bytes x

    same_word : (at : ℕ) → at + 8 ≤ length x → (at + 8 ≤ exchange_at l) ⊎ (exchange_at l + place_size l ≤ at) → word_from new at ≡ word_from x at
    same_word at room (inl below) = ap (from_le_bytes w64) (over_apart (exchange_at l) bytes x fits at 8 (inl below) room)
    same_word at room (inr above) = ap (from_le_bytes w64) (over_apart (exchange_at l) bytes x fits at 8 (inr (omega (arith, above, few))) room)

    general_same : (a : ℕ) → Apart (G a) l → get_or (words_from 32 0 new) a 0 ≡ get_or (words_from 32 0 x) a 0
    general_same a apart =
        elim (cases_lt a 32) [
          | inl below ↦ general_read a new below ∙ same_word (8 * a) (omega (arith, below, long)) (apart_there (length x - frame_at) (G a) l below lies apart) ∙ sym (general_read a x below)
          | inr above ↦ words_past 32 0 a new above ∙ sym (words_past 32 0 a x above)
        ]

    floating_same : (a : ℕ) → Apart (F a) l → get_or (words_from 40 256 new) a 0 ≡ get_or (words_from 40 256 x) a 0
    floating_same a apart =
        elim (cases_lt a 40) [
          | inl below ↦ words_read 40 256 a new below ∙ same_word (256 + 8 * a) (omega (arith, below, long)) (apart_there (length x - frame_at) (F a) l below lies apart) ∙ sym (words_read 40 256 a x below)
          | inr above ↦ words_past 40 256 a new above ∙ sym (words_past 40 256 a x above)
        ]

    stack_side : (q u : ℕ) (at : Loc) → at ≡ l → Apart (S q u) at → (frame_at + q + u ≤ exchange_at l) ⊎ (exchange_at l + place_size l ≤ frame_at + q)
    stack_side q u (G r) is apart = inr (subst (λ at. exchange_at at + place_size at ≤ frame_at + q) is (let below : r < 32 = subst (IsPlace (length x - frame_at)) (sym is) lies in omega (arith, below)))
    stack_side q u (F r) is apart = inr (subst (λ at. exchange_at at + place_size at ≤ frame_at + q) is (let below : r < 40 = subst (IsPlace (length x - frame_at)) (sym is) lies in omega (arith, below)))
    stack_side q u (S n w) is (inl below) = inl (subst (λ at. frame_at + q + u ≤ exchange_at at) is (omega (arith, below)))
    stack_side q u (S n w) is (inr above) = inr (subst (λ at. exchange_at at + place_size at ≤ frame_at + q) is (omega (arith, above)))

    stack_same : (q u k : ℕ) → k < u → (frame_at + q + u ≤ exchange_at l) ⊎ (exchange_at l + place_size l ≤ frame_at + q) → get_or (image_at sp link new).stack (base + q + k) 0 ≡ get_or (image_at sp link x).stack (base + q + k) 0
    stack_same q u k h side =
        let one : base + q + k ≡ base + (q + k) = omega arith in
        ap (λ i. get_or (image_at sp link new).stack i 0) one ∙ stack_byte new (q + k) ∙ over_outside (exchange_at l) bytes x fits (frame_at + (q + k)) (which side) ∙ sym (stack_byte x (q + k)) ∙ ap (λ i. get_or (image_at sp link x).stack i 0) (sym one)
      where
        which : (frame_at + q + u ≤ exchange_at l) ⊎ (exchange_at l + place_size l ≤ frame_at + q) → (frame_at + (q + k) < exchange_at l) ⊎ (exchange_at l + length bytes ≤ frame_at + (q + k))
        which (inl below) = inl (omega (arith, below, h))
        which (inr above) = inr (omega (arith, above, few))

    pub over_stays : Stays base (l ∷ []) (image_at sp link x) (image_at sp link new)
    over_stays = record {
      sp = refl;
      size = omega (arith, length-append link (drop frame_at new), length-append link (drop frame_at x), length-drop frame_at new, length-drop frame_at x, over_size (exchange_at l) bytes x fits);
      below = λ i h. get_or_append_left link (drop frame_at new) 0 i (omega (arith, h, linked)) ∙ sym (get_or_append_left link (drop frame_at x) 0 i (omega (arith, h, linked)));
      others = others;
    }
      where
        others : (q : Loc) → IsNoneOf (l ∷ []) q → SameAt base q (image_at sp link x) (image_at sp link new)
        others (G a) none = general_same a none.0
        others (F a) none = floating_same a none.0
        others (S q u) none = λ k h. stack_same q u k h (stack_side q u l refl none.0)

    -- THE BYTES ARE PUT INTO THE PLACE
    pub put_there : AreBytes new → IsPut base l bytes (image_at sp link x) (image_at sp link new)
    put_there new_are =
        let same_size = over_size (exchange_at l) bytes x fits in
        let new_long : frame_at ≤ length new = omega (arith, same_size, long) in
        let new_lies : IsPlace (length new - frame_at) l = subst (λ n. IsPlace (n - frame_at) l) (sym same_size) lies in
        record {
          here = λ k h. byte_there new new_long new_are l new_lies k (omega (arith, h, few)) ∙ over_inside (exchange_at l) bytes x fits k h;
          kept = λ k from below. byte_there new new_long new_are l new_lies k below ∙ over_outside (exchange_at l) bytes x fits (exchange_at l + k) (inr (omega (arith, from))) ∙ sym (byte_there x long are l lies k below);
          stays = over_stays;
          whole = λ wide w small is.
              let eight : length bytes ≡ 8 = ap length is in
              let here : part new (exchange_at l) 8 ≡ to_le_bytes w64 w = subst (λ n. part new (exchange_at l) n ≡ bytes) eight (over_part (exchange_at l) bytes x fits) ∙ is in
              word_is new new_long new_are l new_lies wide ∙ ap (from_le_bytes w64) here ∙ from_le_bytes-to_le_bytes_8 w small;
        }
