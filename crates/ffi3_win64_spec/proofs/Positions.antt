-- The plan of a call is the one that positions give, and no other is.
use Rattle.std.proofs.Common.{◌≡◌, ℕ, zero, suc, ◌+◌, ◌<◌, ◌≤◌, Bool, true, false, ◌&&◌, ltb, cond, List, [], ◌∷◌, take, length, ap, subst, sym, ◌∙◌, refl, arith}
use Rattle.std.specs.Prelude.{Some, slice_get, is_some}
use Rattle.std.proofs.lemmas.Bool.{lt-ltb}
use Rattle.ffi3_type_spec.specs.Tree.{Tree, void, tree_at}
use Rattle.ffi3_type_spec.specs.Layout.{size_of, least_multiple}
use Rattle.ffi3_type_spec.specs.Signature.{Signature}
use Rattle.ffi3_type_spec.specs.Integer.{is_floating_type}
use Rattle.ffi3_place_spec.specs.declared.Loc.{Loc}
use Rattle.ffi3_place_spec.specs.declared.Piece.{Piece}
use Rattle.ffi3_place_spec.specs.declared.Place.{Place}
use Rattle.ffi3_place_spec.specs.declared.Place.TheVariants.{Direct, ByRef}
use Rattle.ffi3_place_spec.specs.declared.Res.{Res}
use Rattle.ffi3_place_spec.specs.declared.Res.TheVariants.{Nothing, Direct as DirectRes, Hidden}
use Rattle.ffi3_place_spec.specs.declared.Plan.{Plan}
use Rattle.ffi3_place_spec.specs.Standard.{in_result_pieces, in_buffer, in_pieces, by_reference, place_at, places_from, copy_end, copies_end, result_at, buffer_end, copies_start, frame_copies_end, plan_of, round8, round16}
use Rattle.ffi3_place_spec.proofs.Items.{same_items}
use Rattle.ffi3_win64_spec.specs.Win64.{win64, is_copied, position_place, floating_places, argument_pieces, whole, whole_in, result_place, result_spot_of, spot_at, spots_from, first_position, placing_of}
use Rattle.ffi3_win64_spec.specs.Positions.{position, copies_before, buffer_bytes, IsByPosition, IsPlacedByPosition}
use Rattle.ffi3_win64_spec.proofs.Sound.{result_cases}

-- ---- multiples of 16

round_again : (n : ℕ) → round16 (round16 n) ≡ round16 n
unfolding least_multiple
round_again n = omega arith

round_behind : (e n : ℕ) → round16 (round16 e + round8 n) ≡ round16 e + round16 n
unfolding least_multiple
round_behind e n = omega arith

-- what is added where a test holds
more_where : (m n x : ℕ) (b : Bool) → b ≡ true → m ≡ n + x → m ≡ n + cond b x 0
more_where m n x true e h = h
more_where m n x false e h = cc

none_where : (n x : ℕ) (b : Bool) → b ≡ false → n ≡ n + cond b x 0
none_where n x true e = cc
none_where n x false e = omega arith

-- ---- one argument

-- floating-point in one of the first four positions
pub pieces_of_floating : (variadic : Bool) (p : ℕ) (t : Tree) → is_floating_type t ≡ true → p < 4 → argument_pieces variadic p t ≡ whole_in t (floating_places variadic p)
pieces_of_floating variadic p t floats few =
    ap (λ f. whole_in t (cond (f && ltb p 4) (floating_places variadic p) (position_place p ∷ []))) floats ∙ ap (λ l. whole_in t (cond l (floating_places variadic p) (position_place p ∷ []))) (lt-ltb p 4 few)

-- ---- one argument of many

module _ (start : ℕ → Tree → ℕ) (variadic : Bool) where
  abbrev end_of : ℕ → ℕ → List Tree → ℕ
  end_of end p ts = copies_end start end ts (spots_from variadic p ts)

  spots_length : (end p : ℕ) (ts : List Tree) → length (places_from start end ts (spots_from variadic p ts)) ≡ length ts
  spots_length end p [] = refl
  spots_length end p (t ∷ ts) =
      ap suc (spots_length (copy_end start end t (spot_at variadic p t)) (p + 1) ts)

  place_there : (end p : ℕ) (ts : List Tree) (i : ℕ) → i < length ts → slice_get (places_from start end ts (spots_from variadic p ts)) i ≡ Some (place_at start (end_of end p (take i ts)) (tree_at ts i) (spot_at variadic (p + i) (tree_at ts i)))
  place_there end p [] i h = absurd (omega arith)
  place_there end p (t ∷ ts) zero h =
      let same : p ≡ p + 0 = omega arith in
      ap (λ q. Some (place_at start end t (spot_at variadic q t))) same
  place_there end p (t ∷ ts) (suc i) h =
      let same : p + 1 + i ≡ p + suc i = omega arith in
      place_there (copy_end start end t (spot_at variadic p t)) (p + 1) ts i (omega arith) ∙ ap (λ q. Some (place_at start (end_of (copy_end start end t (spot_at variadic p t)) (p + 1) (take i ts)) (tree_at ts i) (spot_at variadic q (tree_at ts i)))) same

  end_next : (end p : ℕ) (ts : List Tree) (i : ℕ) → i < length ts → end_of end p (take (suc i) ts) ≡ copy_end start (end_of end p (take i ts)) (tree_at ts i) (spot_at variadic (p + i) (tree_at ts i))
  end_next end p [] i h = absurd (omega arith)
  end_next end p (t ∷ ts) zero h =
      let same : p ≡ p + 0 = omega arith in
      ap (λ q. copy_end start end t (spot_at variadic q t)) same
  end_next end p (t ∷ ts) (suc i) h =
      let same : p + 1 + i ≡ p + suc i = omega arith in
      end_next (copy_end start end t (spot_at variadic p t)) (p + 1) ts i (omega arith) ∙ ap (λ q. copy_end start (end_of (copy_end start end t (spot_at variadic p t)) (p + 1) (take i ts)) (tree_at ts i) (spot_at variadic q (tree_at ts i))) same

  end_all : (end p : ℕ) (ts : List Tree) → end_of end p (take (length ts) ts) ≡ end_of end p ts
  end_all end p [] = refl
  end_all end p (t ∷ ts) = end_all (copy_end start end t (spot_at variadic p t)) (p + 1) ts

-- a copy begins and ends at multiples of 16, as far as what stands behind it sees
copy_rounds : (e : ℕ) (t : Tree) (at : Loc) (pieces : List Piece) (b : Bool) → round16 (copy_end win64.copy_start e t (cond b (by_reference at) (in_pieces pieces))) ≡ round16 e + cond b (round16 (size_of t)) 0
copy_rounds e t at pieces true = round_behind e (size_of t)
copy_rounds e t at pieces false = omega arith

place_if : (e c : ℕ) (t : Tree) (at : Loc) (pieces : List Piece) (b : Bool) → round16 e ≡ c → place_at win64.copy_start e t (cond b (by_reference at) (in_pieces pieces)) ≡ cond {A = Place} b (ByRef at c) (Direct pieces)
place_if e c t at pieces true h = ap (ByRef at) h
place_if e c t at pieces false h = refl

-- ---- a result

pub spot_of_copied : (t : Tree) → is_copied t ≡ true → result_spot_of t ≡ in_buffer (position_place 0)
spot_of_copied void h = cc
spot_of_copied t h =
    ap (λ b. cond b (in_buffer (position_place 0)) (in_result_pieces (whole (result_place t) t ∷ []))) h

spot_of_register : (t : Tree) → ¬ (t ≡ void) → is_copied t ≡ false → result_spot_of t ≡ in_result_pieces (whole (result_place t) t ∷ [])
spot_of_register void some h = absurd (some refl)
spot_of_register t some h =
    ap (λ b. cond b (in_buffer (position_place 0)) (in_result_pieces (whole (result_place t) t ∷ []))) h

buffer_rounds : (e : ℕ) (t : Tree) → round16 (buffer_end win64.copy_start e t (result_spot_of t)) ≡ round16 e + cond (is_copied t) (round16 (size_of t)) 0
buffer_rounds e t =
    result_cases (λ spot. round16 (buffer_end win64.copy_start e t spot) ≡ round16 e + cond (is_copied t) (round16 (size_of t)) 0) t
    (λ is_void. none_where (round16 e) (round16 (size_of t)) (is_copied t) (ap is_copied is_void))
    (λ copied. more_where _ (round16 e) (round16 (size_of t)) (is_copied t) copied (round_behind e (size_of t)))
    (λ direct. none_where (round16 e) (round16 (size_of t)) (is_copied t) direct)

either_copied : (a b d h : Res) (copied : Bool) → (copied ≡ false → a ≡ d) → (copied ≡ true → a ≡ h) → (copied ≡ false → b ≡ d) → (copied ≡ true → b ≡ h) → a ≡ b
either_copied a b d h true da ha db hb = ha refl ∙ sym (hb refl)
either_copied a b d h false da ha db hb = da refl ∙ sym (db refl)

-- two results that both are as the type says
same_result : (t : Tree) (d : Res) (h : Res) (a b : Res) → (t ≡ void → a ≡ Nothing) → (¬ (t ≡ void) → is_copied t ≡ false → a ≡ d) → (is_copied t ≡ true → a ≡ h) → (t ≡ void → b ≡ Nothing) → (¬ (t ≡ void) → is_copied t ≡ false → b ≡ d) → (is_copied t ≡ true → b ≡ h) → a ≡ b
same_result void d h a b na da ha nb db hb = na refl ∙ sym (nb refl)
same_result t d h a b na da ha nb db hb = either_copied a b d h (is_copied t) (da (λ e. cc)) ha (db (λ e. cc)) hb

-- ---- all of a call

module _ (s : Signature) where
  abbrev base : ℕ
  base = copies_start (placing_of s)

  abbrev end_before : ℕ → ℕ
  end_before i =
      end_of win64.copy_start (is_some s.fixed) base (first_position s.result_type) (take i s.arguments)

  ends_by_sums : (i : ℕ) → i ≤ length s.arguments → round16 (end_before i) ≡ copies_before s i
  ends_by_sums zero h =
      let again = round_again (placing_of s).stack_bytes in
      omega (arith, again)
  ends_by_sums (suc i) h =
      let t = tree_at s.arguments i in
      let before = ends_by_sums i (omega arith) in
      let next = ap round16 (end_next win64.copy_start (is_some s.fixed) base (first_position s.result_type) s.arguments i (omega arith)) in
      let rounds = copy_rounds (end_before i) t (position_place (position s i)) (argument_pieces (is_some s.fixed) (position s i) t) (is_copied t) in
      omega (arith, before, next, rounds)

  all_by_sums : round16 (frame_copies_end win64 s) ≡ copies_before s (length s.arguments)
  all_by_sums =
      ap round16 (sym (end_all win64.copy_start (is_some s.fixed) base (first_position s.result_type) s.arguments)) ∙ ends_by_sums (length s.arguments) (omega arith)

  pub placed_by_position : IsByPosition s (plan_of win64 s)
  placed_by_position = record {
    one_each = spots_length win64.copy_start (is_some s.fixed) base (first_position s.result_type) s.arguments;
    placed = λ i h. place_there win64.copy_start (is_some s.fixed) base (first_position s.result_type) s.arguments i h ∙ ap Some (place_if (end_before i) (copies_before s i) (tree_at s.arguments i) (position_place (position s i)) (argument_pieces (is_some s.fixed) (position s i) (tree_at s.arguments i)) (is_copied (tree_at s.arguments i)) (ends_by_sums i (omega arith)));
    no_result = λ is_void. ap (λ t. result_at win64.copy_start (frame_copies_end win64 s) t (result_spot_of t)) is_void;
    in_register = λ some direct. ap (λ spot. result_at win64.copy_start (frame_copies_end win64 s) s.result_type spot) (spot_of_register s.result_type some direct);
    hidden = λ copied. ap (λ spot. result_at win64.copy_start (frame_copies_end win64 s) s.result_type spot) (spot_of_copied s.result_type copied) ∙ ap (Hidden (position_place 0)) all_by_sums;
    frame_end = buffer_rounds (frame_copies_end win64 s) s.result_type ∙ ap (λ n. n + buffer_bytes s) all_by_sums;
    block_total = refl;
    need_total = refl;
    none_counted = refl;
  }

  pub only : (p : Plan) → IsByPosition s p → p ≡ plan_of win64 s
  only p by =
      let ours = placed_by_position in
      let q = plan_of win64 s in
      let places_are : p.places ≡ q.places = same_items p.places q.places (by.one_each ∙ sym ours.one_each) (λ i h. let below = subst (λ n. i < n) by.one_each h in by.placed i below ∙ sym (ours.placed i below)) in
      let res_is : p.res ≡ q.res = same_result s.result_type (DirectRes (whole (result_place s.result_type) s.result_type ∷ [])) (Hidden (position_place 0) (copies_before s (length s.arguments))) p.res q.res by.no_result by.in_register by.hidden ours.no_result ours.in_register ours.hidden in
      let frame_is : p.frame ≡ q.frame = by.frame_end ∙ sym ours.frame_end in
      let block_is : p.block ≡ q.block = by.block_total ∙ sym ours.block_total in
      let need_is : p.need ≡ q.need = by.need_total ∙ ap (λ n. n + win64.link + win64.save + p.block) frame_is ∙ ap (λ n. q.frame + win64.link + win64.save + n) block_is ∙ sym ours.need_total in
      λ i. record { places = places_are i; res = res_is i; need = need_is i; frame = frame_is i; block = block_is i; vectors = by.none_counted i }

  pub by_position : IsPlacedByPosition s
  by_position = record { placed = placed_by_position; only = only }
