-- Pieces that are told as one tell the same bytes at the same places.
use Rattle.std.specs.Prelude.{⊤, cond, Bool, true, false}
use Rattle.std.proofs.Common.{◌≡◌, ℕ, zero, suc, ◌+◌, ◌*◌, ◌-◌, ◌<◌, ◌≤◌, List, [], ◌∷◌, ◌++◌, map, refl, ap, sym, ◌∙◌, arith, append_assoc}
use Rattle.std.specs.List.{range_with_len}
use Rattle.std.proofs.lemmas.Bool.{eqb-true, lt-ltb, le-ltb}
use Rattle.ffi3_type_spec.proofs.Tests.{and_left, and_right}
use Rattle.ffi3_type_spec.specs.declared.Isa.{Isa}
use Rattle.ffi3_place_spec.specs.declared.Loc.{Loc}
use Rattle.ffi3_place_spec.specs.declared.Loc.TheVariants.{F, S}
use Rattle.ffi3_place_spec.specs.declared.Piece.{Piece}
use Rattle.ffi3_place_spec.specs.MachineRegisters.{significand, sign_and_exponent, upper_half}
use Rattle.ffi3_capi.specs.declared.codes.TheConstants.{ON_STACK, IN_FLOATING, IN_X87, HOLDS_BYTES}
use Rattle.ffi3_capi.specs.declared.pieces.PlacedPiece.{PlacedPiece}
use Rattle.ffi3_capi.specs.Pieces.{value_piece, goes_on, longer, is_above, is_upper_half, whole_vector, is_x87, whole_x87, joined_to}
use Rattle.ffi3_capi.specs.Carried.{Spot, spot_of_two, spot_in, ByteOf, byte_of, bytes_of, bytes_told, TellsTheSameBytes}

-- ---- items by number, one run behind another

by_number : {A : Type 0} (f g : ℕ → A) (n s t : ℕ) → ((k i j : ℕ) → k < n → i ≡ s + k → j ≡ t + k → f i ≡ g j) → map f (range_with_len s n) ≡ map g (range_with_len t n)
by_number f g zero s t h = refl
by_number {A = A} f g (suc n) s t h =
    ap (λ (x : A). x ∷ map f (range_with_len (s + 1) n)) (h 0 s t (omega arith) (omega arith) (omega arith))
    ∙ ap (λ (xs : List A). g t ∷ xs) (by_number f g n (s + 1) (t + 1) (λ k i j below e e2. h (suc k) i j (omega (arith, below)) (omega (arith, e)) (omega (arith, e2))))

run_behind : {A : Type 0} (f : ℕ → A) (n m s : ℕ) → map f (range_with_len s (n + m)) ≡ map f (range_with_len s n) ++ map f (range_with_len (s + n) m)
run_behind f zero m s =
    let e : s ≡ s + 0 = omega arith in
    let count : 0 + m ≡ m = omega arith in
    ap (λ k. map f (range_with_len s k)) count ∙ ap (λ k. map f (range_with_len k m)) e
run_behind {A = A} f (suc n) m s =
    let count : suc n + m ≡ suc (n + m) = omega arith in
    let start : (s + 1) + n ≡ s + suc n = omega arith in
    ap (λ k. map f (range_with_len s k)) count
    ∙ ap (λ (xs : List A). f s ∷ xs) (run_behind f n m (s + 1))
    ∙ ap (λ k. f s ∷ (map f (range_with_len (s + 1) n) ++ map f (range_with_len k m))) start

-- ---- two pieces as one

abbrev spot : Loc → ℕ → Spot
spot l k = record { loc = l; byte = k }

abbrev byte : ℕ → ℕ → ℕ → Spot → ByteOf
byte part hold at x = record { part = part; holds = hold; offset = at; stands = x }

same_byte : (part hold at part2 hold2 at2 : ℕ) (x y : Spot) → part ≡ part2 → hold ≡ hold2 → at ≡ at2 → x ≡ y → byte part hold at x ≡ byte part2 hold2 at2 y
same_byte part hold at part2 hold2 at2 x y e f g h =
    ap (λ n. byte n hold at x) e ∙ ap (λ n. byte part2 n at x) f
    ∙ ap (λ n. byte part2 hold2 n x) g ∙ ap (λ n. byte part2 hold2 at2 n) h

low_spot : (low high : Loc) (k : ℕ) → k < 8 → spot_of_two low high k ≡ spot low k
low_spot low high k below =
    ap (λ b. cond b (spot low k) (spot high (k - 8))) (lt-ltb k 8 below)

high_spot : (low high : Loc) (i k : ℕ) → i ≡ 8 + k → spot_of_two low high i ≡ spot high k
high_spot low high i k e =
    let past : 8 ≤ i = omega (arith, e) in
    let back : i - 8 ≡ k = omega (arith, e) in
    ap (λ b. cond b (spot low i) (spot high (i - 8))) (le-ltb i 8 past)
    ∙ ap (λ n. spot high n) back

-- what two pieces of one value are told as
record AreBytesOfBoth (p n w : PlacedPiece) : Type 0 where
  counted : w.length ≡ p.length + n.length
  first : (k : ℕ) → k < p.length → byte_of w k ≡ byte_of p k
  then : (i k : ℕ) → i ≡ p.length + k → k < n.length → byte_of w i ≡ byte_of n k

module _ (p n w : PlacedPiece) (both : AreBytesOfBoth p n w) where
  at_first : (k i j : ℕ) → k < p.length → i ≡ 0 + k → j ≡ 0 + k → byte_of w i ≡ byte_of p j
  at_first k i j below e f =
      let here : i ≡ k = omega (arith, e) in
      let there : k ≡ j = omega (arith, f) in
      ap (byte_of w) here ∙ both.first k below ∙ ap (byte_of p) there

  at_then : (k i j : ℕ) → k < n.length → i ≡ 0 + p.length + k → j ≡ 0 + k → byte_of w i ≡ byte_of n j
  at_then k i j below e f =
      let here : i ≡ p.length + k = omega (arith, e) in
      let there : k ≡ j = omega (arith, f) in
      both.then i k here below ∙ ap (byte_of n) there

  both_bytes : bytes_of w ≡ bytes_of p ++ bytes_of n
  both_bytes =
      ap (λ k. map (byte_of w) (range_with_len 0 k)) both.counted ∙ run_behind (byte_of w) p.length n.length 0
      ∙ ap (λ (xs : List ByteOf). xs ++ map (byte_of w) (range_with_len (0 + p.length) n.length)) (by_number (byte_of w) (byte_of p) p.length 0 0 at_first)
      ∙ ap (λ (xs : List ByteOf). bytes_of p ++ xs) (by_number (byte_of w) (byte_of n) n.length (0 + p.length) 0 at_then)

module _ (p n : PlacedPiece) (one_value : p.part ≡ n.part) (one_kind : p.holds ≡ n.holds) where
  module _ (e : goes_on p n ≡ true) where
    stack_p : p.place ≡ ON_STACK
    stack_p = eqb-true p.place ON_STACK (and_left _ _ (and_left _ _ (and_left _ _ e)))

    stack_n : n.place ≡ ON_STACK
    stack_n = eqb-true n.place ON_STACK (and_right _ _ (and_left _ _ (and_left _ _ e)))

    right_behind : p.number + p.length ≡ n.number
    right_behind = eqb-true (p.number + p.length) n.number (and_right _ _ (and_left _ _ e))

    next_bytes : p.offset + p.length ≡ n.offset
    next_bytes = eqb-true (p.offset + p.length) n.offset (and_right _ _ e)

    on_stack : AreBytesOfBoth p n (longer p n)
    on_stack = record {
      counted = refl;
      first = λ k below. refl;
      then = λ i k at below.
          let there : p.number + i ≡ n.number + k = omega (arith, at, right_behind) in
          same_byte p.part p.holds (p.offset + i) n.part n.holds (n.offset + k) (spot_in p.place p.number i) (spot_in n.place n.number k) one_value one_kind (omega (arith, at, next_bytes)) (ap (λ x. spot_in x p.number i) stack_p ∙ ap (λ m. spot (S m 1) 0) there ∙ sym (ap (λ x. spot_in x n.number k) stack_n));
    }

  module _ (above : is_above p n ≡ true) where
    place_p : p.place ≡ IN_FLOATING
    place_p = eqb-true p.place IN_FLOATING (and_left _ _ (and_left _ _ (and_left _ _ above)))

    place_n : n.place ≡ IN_FLOATING
    place_n = eqb-true n.place IN_FLOATING (and_right _ _ (and_left _ _ (and_left _ _ above)))

    eight : p.length ≡ 8
    eight = eqb-true p.length 8 (and_right _ _ (and_left _ _ above))

    follows : p.offset + 8 ≡ n.offset
    follows = eqb-true (p.offset + 8) n.offset (and_right _ _ above)

    -- where a byte of the upper one stands
    upper_spot : (high : Loc) (k : ℕ) → high ≡ F n.number → k < 8 → spot_in n.place n.number k ≡ spot high k
    upper_spot high k e below =
        ap (λ x. spot_in x n.number k) place_n ∙ low_spot (F n.number) (upper_half n.number) k below
        ∙ ap (λ l. spot l k) (sym e)

  in_vector : is_upper_half p n ≡ true → AreBytesOfBoth p n (whole_vector p n)
  in_vector e =
      let above : is_above p n ≡ true = and_left _ _ (and_left _ _ e) in
      let long : n.length ≡ 8 = eqb-true n.length 8 (and_right _ _ (and_left _ _ e)) in
      let number : n.number ≡ 32 + p.number = eqb-true n.number (32 + p.number) (and_right _ _ e) in
      record {
        counted = omega (arith, eight above, long);
        first = λ k below. refl;
        then = λ i k at below.
            let by : i ≡ 8 + k = omega (arith, at, eight above) in
            same_byte p.part p.holds (p.offset + i) n.part n.holds (n.offset + k) (spot_in p.place p.number i) (spot_in n.place n.number k) one_value one_kind (omega (arith, by, follows above)) (ap (λ x. spot_in x p.number i) (place_p above) ∙ high_spot (F p.number) (upper_half p.number) i k by ∙ sym (upper_spot above (upper_half p.number) k (ap F (sym number)) (omega (arith, below, long))));
      }

  in_x87 : (isa : Isa) (r : ℕ) → is_x87 isa r p n ≡ true → AreBytesOfBoth p n (whole_x87 r p n)
  in_x87 isa r e =
      let above : is_above p n ≡ true = and_right _ _ (and_left _ _ (and_left _ _ (and_left _ _ e))) in
      let long : n.length ≡ 2 = eqb-true n.length 2 (and_right _ _ (and_left _ _ (and_left _ _ e))) in
      let low : p.number ≡ 16 + 2 * r = eqb-true p.number (16 + 2 * r) (and_right _ _ (and_left _ _ e)) in
      let number : n.number ≡ 17 + 2 * r = eqb-true n.number (17 + 2 * r) (and_right _ _ e) in
      record {
        counted = omega (arith, eight above, long);
        first = λ k below.
            let short : k < 8 = omega (arith, below, eight above) in
            same_byte p.part p.holds (p.offset + k) p.part p.holds (p.offset + k) (spot_in IN_X87 r k) (spot_in p.place p.number k) refl refl refl (low_spot (significand r) (sign_and_exponent r) k short ∙ ap (λ m. spot (F m) k) (sym low) ∙ sym (ap (λ x. spot_in x p.number k) (place_p above) ∙ low_spot (F p.number) (upper_half p.number) k short));
        then = λ i k at below.
            let by : i ≡ 8 + k = omega (arith, at, eight above) in
            same_byte p.part p.holds (p.offset + i) n.part n.holds (n.offset + k) (spot_in IN_X87 r i) (spot_in n.place n.number k) one_value one_kind (omega (arith, by, follows above)) (high_spot (significand r) (sign_and_exponent r) i k by ∙ sym (upper_spot above (sign_and_exponent r) k (ap F (sym number)) (omega (arith, below, long))));
      }

-- ---- pieces of one value

-- each has bytes of this value
abbrev AreOf : ℕ → List PlacedPiece → Type 0
AreOf part [] = ⊤
AreOf part (p ∷ ps) = (p.part ≡ part) × (p.holds ≡ HOLDS_BYTES) × AreOf part ps

-- a piece and the next, and those behind them
module _ (isa : Isa) (part : ℕ) (p n : PlacedPiece) (ns : List PlacedPiece) (is : p.part ≡ part) (holds : p.holds ≡ HOLDS_BYTES) (next : n.part ≡ part) (next_holds : n.holds ≡ HOLDS_BYTES) (goes : (w : PlacedPiece) → w.part ≡ part → w.holds ≡ HOLDS_BYTES → bytes_told (joined_to isa w ns) ≡ bytes_of w ++ bytes_told ns) where
  value : p.part ≡ n.part
  value = is ∙ sym next

  kind : p.holds ≡ n.holds
  kind = holds ∙ sym next_holds

  as_one : (w : PlacedPiece) → w.part ≡ part → w.holds ≡ HOLDS_BYTES → AreBytesOfBoth p n w → bytes_told (joined_to isa w ns) ≡ bytes_of p ++ bytes_told (n ∷ ns)
  as_one w w_is w_holds both =
      goes w w_is w_holds ∙ ap (λ (xs : List ByteOf). xs ++ bytes_told ns) (both_bytes p n w both) ∙ append_assoc (bytes_of p) (bytes_of n) (bytes_told ns)

  by_tests : (a b c d : Bool) → goes_on p n ≡ a → is_upper_half p n ≡ b → is_x87 isa 0 p n ≡ c → is_x87 isa 1 p n ≡ d → bytes_told (cond a (joined_to isa (longer p n) ns) (cond b (joined_to isa (whole_vector p n) ns) (cond c (joined_to isa (whole_x87 0 p n) ns) (cond d (joined_to isa (whole_x87 1 p n) ns) (p ∷ joined_to isa n ns))))) ≡ bytes_of p ++ bytes_told (n ∷ ns)
  by_tests true b c d e f g h = as_one (longer p n) is holds (on_stack p n value kind e)
  by_tests false true c d e f g h = as_one (whole_vector p n) is holds (in_vector p n value kind f)
  by_tests false false true d e f g h = as_one (whole_x87 0 p n) is holds (in_x87 p n value kind isa 0 g)
  by_tests false false false true e f g h = as_one (whole_x87 1 p n) is holds (in_x87 p n value kind isa 1 h)
  by_tests false false false false e f g h =
      ap (λ (xs : List ByteOf). bytes_of p ++ xs) (goes n next next_holds)

joined_same : (isa : Isa) (part : ℕ) (ns : List PlacedPiece) (p : PlacedPiece) → p.part ≡ part → p.holds ≡ HOLDS_BYTES → AreOf part ns → bytes_told (joined_to isa p ns) ≡ bytes_of p ++ bytes_told ns
joined_same isa part [] p is holds all = refl
joined_same isa part (n ∷ ns) p is holds all =
    by_tests isa part p n ns is holds all.0 all.1 (λ w w_is w_holds. joined_same isa part ns w w_is w_holds all.2) (goes_on p n) (is_upper_half p n) (is_x87 isa 0 p n) (is_x87 isa 1 p n) refl refl refl refl

pieces_of_one : (part : ℕ) (pieces : List Piece) → AreOf part (map (value_piece part) pieces)
pieces_of_one part [] = tt
pieces_of_one part (p ∷ ps) = (refl, refl, pieces_of_one part ps)

pub tells_the_same_bytes : (pieces : List Piece) → TellsTheSameBytes pieces
tells_the_same_bytes [] isa part = refl
tells_the_same_bytes (p ∷ ps) isa part =
    joined_same isa part (map (value_piece part) ps) (value_piece part p) refl refl (pieces_of_one part ps)
