-- The arguments in the block, one after another.
use Rattle.std.specs.Prelude.{slice_get, Some}
use Rattle.std.proofs.Common.{◌≡◌, ℕ, zero, suc, ◌+◌, ◌-◌, ◌<◌, ◌≤◌, ◌⊎◌, inl, inr, List, [], ◌∷◌, drop, get_or, length, refl, ap, sym, ◌∙◌, subst, arith}
use Rattle.std.specs.List.{AllByRecursion}
use Rattle.std.proofs.lemmas.Bool.{cases_lt}
use Rattle.std.proofs.lemmas.List.{drop_more, ext_get_or}
use Rattle.ffi3_type_spec.specs.declared.Target.{Target}
use Rattle.ffi3_type_spec.specs.declared.Target.TheVariants.{Amd64}
use Rattle.ffi3_type_spec.specs.Tree.{Tree, tree_at}
use Rattle.ffi3_type_spec.specs.Layout.{size_of}
use Rattle.ffi3_type_spec.specs.Signature.{Signature, SignatureHasNoFault}
use Rattle.ffi3_type_spec.specs.Value.{ValueTree, void_value, value_in}
use Rattle.ffi3_type_spec.proofs.Layouts.{least_multiple-above}
use Rattle.ffi3_type_spec.proofs.Parts.{index_part, length_part, same_part}
use Rattle.ffi3_place_spec.specs.declared.Loc.{Loc}
use Rattle.ffi3_place_spec.specs.declared.Loc.TheVariants.{G, F, S}
use Rattle.ffi3_place_spec.specs.declared.Place.{Place}
use Rattle.ffi3_place_spec.specs.declared.Place.TheVariants.{Direct, ByRef}
use Rattle.ffi3_place_spec.specs.Image.{Image}
use Rattle.ffi3_place_spec.specs.Standard.{Standard, block_bytes, frame_of, plan_of, round8}
use Rattle.ffi3_place_spec.specs.Holds.{OwnsArgument, OwnsArguments}
use Rattle.ffi3_place_spec.specs.Sound.{IsSound, argument_locs}
use Rattle.ffi3_place_spec.proofs.Elements.{argument_read}
use Rattle.ffi3_type_spec.specs.declared.limits.TheConstants.{STACK, STACK_BYTES, STACK_TOP}
use Rattle.ffi3_machine_spec.specs.State.{State, stack_at, stored}
use Rattle.ffi3_machine_transfer.specs.Stored.{IsWritable, SameAt, WroteOnly, WroteWithin}
use Rattle.ffi3_machine_transfer.specs.Standing.{IsReady, AreReady}
use Rattle.ffi3_marshal.proofs.Arguments.{place_read}
use Rattle.ffi3_machine_transfer.proofs.Composing.{only_nothing, only_then, only_wider}
use Rattle.ffi3_marshal.proofs.Lawful.{all_ready}
use Rattle.ffi3_machine_transfer.proofs.Stepping.{same_word_in}
use Rattle.ffi3_machine_transfer.proofs.Putting.{stored_inside, stored_within}
use Rattle.ffi3_semantics_spec.specs.SeenActivation.{block_offset, arguments_in}
use Rattle.ffi3_body.proofs.Blocks.{offset-turn, whole_within, arguments_by_each}
use Rattle.ffi3_callee.specs.Loaded.{AreFound, IsFound, IsRead, image_from}
use Rattle.ffi3_callee.proofs.Placing.{stack_inside}

-- what was stored stands there
pub stored_there : (to : ℕ) (bytes : List ℕ) (old : State) → STACK ≤ to → to - STACK + length bytes ≤ length old.stack → stack_at to (length bytes) (stored to bytes old) ≡ bytes
stored_there to bytes old low fits =
    let within = stored_within to bytes old low fits to (to + length bytes) (omega arith) (omega arith) in
    let sized = length_part (stored to bytes old).stack (to - STACK) (length bytes) (omega (arith, fits, within.size)) in
    ext_get_or 0 (stack_at to (length bytes) (stored to bytes old)) bytes sized (λ k h.
    let small : k < length bytes = omega (arith, h, sized) in
    let there : to - STACK + k ≡ to + k - STACK = omega (arith, low) in
    index_part (stored to bytes old).stack (to - STACK) (length bytes) k small ∙ ap (λ i. get_or (stored to bytes old).stack i 0) there ∙ stored_inside to bytes old low fits k small)

-- a stretch below or above what is written stays
pub stretch_stays : (low high at size : ℕ) (a b : State) → STACK ≤ at → at - STACK + size ≤ length a.stack → (at + size ≤ low) ⊎ (high ≤ at) → WroteWithin low high a b → stack_at at size b ≡ stack_at at size a
stretch_stays low high at size a b inside room far w =
    same_part b.stack a.stack (at - STACK) size (omega (arith, room, w.size)) room (λ j from to. w.outside j (side j from to far))
  where
    side : (j : ℕ) → at - STACK ≤ j → j < at - STACK + size → (at + size ≤ low) ⊎ (high ≤ at) → (STACK + j < low) ⊎ (high ≤ STACK + j)
    side j from to (inl below) = inl (omega (arith, inside, from, to, below))
    side j from to (inr above) = inr (omega (arith, inside, from, to, above))

pub same_image : (m n : Image) → m.general ≡ n.general → m.floating ≡ n.floating → m.sp ≡ n.sp → m.stack ≡ n.stack → m ≡ n
same_image m n g f s k = λ i. record { general = g i; floating = f i; sp = s i; stack = k i }

-- the image above what is written stays
pub image_stays : (low high base room : ℕ) (a b : State) → STACK ≤ base → base - STACK + room ≤ length a.stack → high ≤ base → WroteOnly low high a b → image_from base room b ≡ image_from base room a
image_stays low high base room a b inside fits above w =
    same_image (image_from base room b) (image_from base room a) w.general w.floating refl (stretch_stays low high base room a b inside fits (inr above) w.within)

-- a place whose stack lies above what is written stays
pub place_above : (low high base : ℕ) (l : Loc) (a b : State) → STACK ≤ base → high ≤ base → WroteOnly low high a b → SameAt base l a b
place_above low high base (G r) a b inside above w = ap (λ xs. get_or xs r 0) w.general
place_above low high base (F r) a b inside above w = ap (λ xs. get_or xs r 0) w.floating
place_above low high base (S n u) a b inside above w =
    λ k h. w.within.outside (base + n + k - STACK) (inr (omega (arith, inside, above)))

pub found_stays : (low high base : ℕ) (p : Place) (a b : State) → STACK ≤ base → high ≤ base → WroteOnly low high a b → IsFound base a p → IsFound base b p
found_stays low high base (Direct pieces) a b inside above w h = tt
found_stays low high base (ByRef at copy) a b inside above w h = same_word_in base at a b (place_above low high base at a b inside above w) ∙ h

-- ---- what the laws say of the argument at i

pub each_writable : (ls : List Loc) → AllByRecursion (IsWritable Amd64) ls
each_writable [] = tt
each_writable (G r ∷ ls) = (refl, each_writable ls)
each_writable (_ ∷ ls) = (tt, each_writable ls)

ready_drop : (target : Target) (room j : ℕ) (ts : List Tree) (ps : List Place) → AreReady target room ts ps → AreReady target room (drop j ts) (drop j ps)
ready_drop target room zero ts ps h = h
ready_drop target room (suc j) [] [] h = tt
ready_drop target room (suc j) (t ∷ ts) (p ∷ ps) h = ready_drop target room j ts ps h.1
ready_drop target room _ _ _ h = absurd h

-- an argument's place, whatever the target writes to
pub ready_at : (std : Standard) (s : Signature) → IsSound std s → SignatureHasNoFault s → (i : ℕ) (t : Tree) (p : Place) → i < length s.arguments → t ≡ tree_at s.arguments i → slice_get (plan_of std s).places i ≡ Some p → IsReady Amd64 (frame_of std s) t p
ready_at std s sound right i t p below type_is place_is =
    let types = argument_read s.arguments i t below type_is in
    let places = place_read (plan_of std s).places i p place_is in
    (subst (λ us. AreReady Amd64 (frame_of std s) us (p ∷ drop (i + 1) (plan_of std s).places)) types (subst (AreReady Amd64 (frame_of std s) (drop i s.arguments)) places (ready_drop Amd64 (frame_of std s) i s.arguments (plan_of std s).places (all_ready std s sound right Amd64 (each_writable (argument_locs (plan_of std s))))))).0

found_drop : (base : ℕ) (m : State) (j : ℕ) (ps : List Place) → AreFound base m ps → AreFound base m (drop j ps)
found_drop base m zero ps h = h
found_drop base m (suc j) [] h = h
found_drop base m (suc j) (p ∷ ps) h = found_drop base m j ps h.1

pub found_at : (base : ℕ) (m : State) (ps : List Place) (i : ℕ) (p : Place) → slice_get ps i ≡ Some p → AreFound base m ps → IsFound base m p
found_at base m ps i p is h = (subst (AreFound base m) (place_read ps i p is) (found_drop base m i ps h)).0

owns_length : (m : Image) (base : ℕ) (ts : List Tree) (ps : List Place) (vs : List ValueTree) → OwnsArguments m base ts ps vs → length vs ≡ length ts
owns_length m base [] [] [] h = refl
owns_length m base (t ∷ ts) (p ∷ ps) (v ∷ vs) h = ap suc (owns_length m base ts ps vs h.1)
owns_length m base _ _ _ h = absurd h

owns_drop : (m : Image) (base j : ℕ) (ts : List Tree) (ps : List Place) (vs : List ValueTree) → OwnsArguments m base ts ps vs → OwnsArguments m base (drop j ts) (drop j ps) (drop j vs)
owns_drop m base zero ts ps vs h = h
owns_drop m base (suc j) [] [] [] h = tt
owns_drop m base (suc j) (t ∷ ts) (p ∷ ps) (v ∷ vs) h = owns_drop m base j ts ps vs h.1
owns_drop m base _ _ _ _ h = absurd h

owns_at : (m : Image) (base : ℕ) (ts : List Tree) (ps : List Place) (vs : List ValueTree) → OwnsArguments m base ts ps vs → (i : ℕ) (t : Tree) (p : Place) → i < length ts → t ≡ tree_at ts i → slice_get ps i ≡ Some p → OwnsArgument m base t p (get_or vs i void_value)
owns_at m base ts ps vs own i t p below type_is place_is =
    let types = argument_read ts i t below type_is in
    let places = place_read ps i p place_is in
    let values = drop_more vs i void_value (omega (arith, below, owns_length m base ts ps vs own)) in
    (subst (λ us. OwnsArguments m base us (p ∷ drop (i + 1) ps) (get_or vs i void_value ∷ drop (i + 1) vs)) types
    (subst (λ qs. OwnsArguments m base (drop i ts) qs (get_or vs i void_value ∷ drop (i + 1) vs)) places
    (subst (OwnsArguments m base (drop i ts) (drop i ps)) values (owns_drop m base i ts ps vs own)))).0

-- ---- the loop

module _ (std : Standard) (s : Signature) (base block : ℕ) (first : State) where
  abbrev pub here_in : ℕ → State → List ℕ
  here_in j m = stack_at (block + block_offset s.arguments j) (size_of (tree_at s.arguments j)) m

  -- before argument i is copied
  pub record AreCopied (i to : ℕ) (m : State) : Type 0 where
    pub to_is : to ≡ block + block_offset s.arguments i
    pub only : WroteOnly block (block + block_bytes s) first m
    pub ends : (j : ℕ) → j < i → block_offset s.arguments j + size_of (tree_at s.arguments j) ≤ block_offset s.arguments i
    pub each : (vs : List ValueTree) → OwnsArguments (image_from base (frame_of std s) first) 0 s.arguments (plan_of std s).places vs → (j : ℕ) → j < i → value_in (tree_at s.arguments j) (here_in j m) ≡ get_or vs j void_value

  pub none_copied : (m : State) → m ≡ first → AreCopied 0 block m
  none_copied m is = record {
    to_is = omega arith;
    only = subst (WroteOnly block (block + block_bytes s) first) (sym is) (only_nothing block (block + block_bytes s) first);
    ends = λ j h. absurd (omega (arith, h));
    each = λ vs own j h. absurd (omega (arith, h));
  }

  pub one_more_copied : (i to next : ℕ) (t : Tree) (p : Place) (a b : State) → STACK ≤ block → block + block_bytes s ≤ base → base + frame_of std s ≤ STACK_TOP → length first.stack ≡ STACK_BYTES → IsSound std s → SignatureHasNoFault s → i < length s.arguments → t ≡ tree_at s.arguments i → slice_get (plan_of std s).places i ≡ Some p → next ≡ to + round8 (size_of t) → IsRead base a t p (stack_at to (size_of t) b) → WroteOnly to (to + size_of t) a b → AreCopied i to a → AreCopied (i + 1) next b
  one_more_copied i to next t p a b low below high sized sound right inside type_is place_is next_is read wrote before =
      record { to_is = to_next; only = only_then block (block + block_bytes s) first a b before.only (only_wider to (to + size_of t) block (block + block_bytes s) a b (omega (arith, before.to_is)) room wrote); ends = ends; each = each }
    where
      turn : block_offset s.arguments i + round8 (size_of t) ≡ block_offset s.arguments (i + 1)
      turn = offset-turn s.arguments i t (block_offset s.arguments i) (size_of t) inside type_is refl refl

      whole : block_offset s.arguments i + round8 (size_of t) ≤ block_bytes s
      whole = subst (λ u. block_offset s.arguments i + round8 (size_of u) ≤ block_bytes s) (sym type_is) (whole_within s i inside)

      room : to + size_of t ≤ block + block_bytes s
      room = omega (arith, whole, before.to_is, least_multiple-above 8 (size_of t))

      to_next : next ≡ block + block_offset s.arguments (i + 1)
      to_next = omega (arith, next_is, before.to_is, turn)

      ends_last : (j : ℕ) → j ≡ i → block_offset s.arguments j + size_of (tree_at s.arguments j) ≤ block_offset s.arguments (i + 1)
      ends_last j is = subst (λ k. block_offset s.arguments k + size_of (tree_at s.arguments k) ≤ block_offset s.arguments (i + 1)) (sym is) (subst (λ u. block_offset s.arguments i + size_of u ≤ block_offset s.arguments (i + 1)) type_is (omega (arith, turn, least_multiple-above 8 (size_of t))))

      ends : (j : ℕ) → j < i + 1 → block_offset s.arguments j + size_of (tree_at s.arguments j) ≤ block_offset s.arguments (i + 1)
      ends j h = elim (cases_lt j i) [
        | inl earlier ↦ omega (arith, before.ends j earlier, turn)
        | inr last ↦ ends_last j (omega (arith, h, last))
      ]

      image : image_from base (frame_of std s) a ≡ image_from base (frame_of std s) first
      image = image_stays block (block + block_bytes s) base (frame_of std s) first a (omega (arith, low, below)) (omega (arith, high, sized, low, below)) below before.only

      last_value : (vs : List ValueTree) → OwnsArguments (image_from base (frame_of std s) first) 0 s.arguments (plan_of std s).places vs → value_in (tree_at s.arguments i) (here_in i b) ≡ get_or vs i void_value
      last_value vs own =
          let ready = ready_at std s sound right i t p inside type_is place_is in
          let one = owns_at (image_from base (frame_of std s) first) 0 s.arguments (plan_of std s).places vs own i t p inside type_is place_is in
          let value = read (frame_of std s) ready.lies high (get_or vs i void_value) (subst (λ m. OwnsArgument m 0 t p (get_or vs i void_value)) (sym image) one) in
          subst (λ u. value_in u (stack_at (block + block_offset s.arguments i) (size_of u) b) ≡ get_or vs i void_value) type_is (subst (λ k. value_in t (stack_at k (size_of t) b) ≡ get_or vs i void_value) before.to_is value)

      kept : (j : ℕ) → j < i → here_in j b ≡ here_in j a
      kept j h =
          let e = before.ends j h in
          stretch_stays to (to + size_of t) (block + block_offset s.arguments j) (size_of (tree_at s.arguments j)) a b (omega (arith, low)) (omega (arith, low, e, whole, below, high, sized, before.only.within.size)) (inl (omega (arith, e, before.to_is))) wrote.within

      each : (vs : List ValueTree) → OwnsArguments (image_from base (frame_of std s) first) 0 s.arguments (plan_of std s).places vs → (j : ℕ) → j < i + 1 → value_in (tree_at s.arguments j) (here_in j b) ≡ get_or vs j void_value
      each vs own j h = elim (cases_lt j i) [
        | inl earlier ↦ ap (value_in (tree_at s.arguments j)) (kept j earlier) ∙ before.each vs own j earlier
        | inr last ↦ (let is : i ≡ j = omega (arith, h, last) in subst (λ k. value_in (tree_at s.arguments k) (here_in k b) ≡ get_or vs k void_value) is (last_value vs own))
      ]

  pub all_copied : (i to : ℕ) (m : State) → STACK ≤ block → length s.arguments ≤ i → i ≤ length s.arguments → AreCopied i to m → (vs : List ValueTree) → OwnsArguments (image_from base (frame_of std s) first) 0 s.arguments (plan_of std s).places vs → arguments_in s.arguments (stack_at block (block_bytes s) m) ≡ vs
  all_copied i to m low end most copied vs own =
      arguments_by_each s.arguments (stack_at block (block_bytes s) m) vs (owns_length (image_from base (frame_of std s) first) 0 s.arguments (plan_of std s).places vs own) (λ j h.
      let t = tree_at s.arguments j in
      let whole = whole_within s j h in
      sym (ap (value_in t) (stack_inside block (block_bytes s) (block_offset s.arguments j) (size_of t) m low (omega (arith, whole, least_multiple-above 8 (size_of t)))) ∙ copied.each vs own j (omega (arith, h, end))))
