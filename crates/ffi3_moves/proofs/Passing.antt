-- The moves of all arguments store them; then the number of vector registers, and the address of a hidden result.
use Rattle.std.specs.Prelude.{◌^◌}
use Rattle.std.proofs.Common.{◌≡◌, ◌⊎◌, inl, inr, ℕ, zero, suc, ◌+◌, ◌-◌, ◌*◌, ◌<◌, ◌≤◌, List, [], ◌∷◌, ◌++◌, drop, length, get_or, refl, ap, sym, ◌∙◌, subst, arith, length-drop}
use Rattle.std.specs.Int.{w64, to_le_bytes, from_le_bytes}
use Rattle.std.specs.List.{AllByRecursion}
use Rattle.std.proofs.lemmas.Bool.{cases_lt}
use Rattle.std.proofs.lemmas.List.{ext_get_or, get_or_append_left, length-append}
use Rattle.ffi3_type_spec.specs.declared.Target.{Target}
use Rattle.ffi3_type_spec.specs.Tree.{Tree}
use Rattle.ffi3_type_spec.specs.Layout.{size_of}
use Rattle.ffi3_type_spec.specs.Value.{part}
use Rattle.ffi3_type_spec.proofs.Parts.{length_part}
use Rattle.ffi3_type_spec.proofs.Widened.{to_le_bytes-below}
use Rattle.ffi3_place_spec.specs.declared.Loc.{Loc}
use Rattle.ffi3_place_spec.specs.declared.Place.{Place}
use Rattle.ffi3_place_spec.specs.declared.Place.TheVariants.{Direct, ByRef}
use Rattle.ffi3_place_spec.specs.Image.{Image}
use Rattle.ffi3_place_spec.specs.Standard.{round8}
use Rattle.ffi3_place_spec.specs.Sound.{place_size, IsWhole, AreApart, IsNoneOf}
use Rattle.ffi3_marshal.specs.Standing.{AreReadyIn, IsReadyIn, PlaceKeeps, PlaceStands, PlacesKeep, all_uses, place_uses}
use Rattle.ffi3_marshal.specs.Stored.{IsWordPut, Stays, stored}
use Rattle.ffi3_marshal.proofs.Composing.{stays_none}
use Rattle.ffi3_marshal.proofs.Copying.{copied, keeps_since, place_keeps, place_stays}
use Rattle.ffi3_marshal.proofs.Puts.{stored_inside, stored_outside, stored_size, word_put}
use Rattle.ffi3_marshal.proofs.Lawful.{across_none, apart_first, apart_rest, apart_across, each_first, each_rest}
use Rattle.ffi3_transfer.specs.Places.{IsPlace}
use Rattle.ffi3_transfer.specs.Packed.{packed_size}
use Rattle.ffi3_transfer.specs.Standing.{AllStand}
use Rattle.ffi3_transfer.proofs.Packing.{behind_drop, in_room}
use Rattle.ffi3_moves.specs.declared.Move.{Move}
use Rattle.ffi3_moves.specs.Play.{frame_at, play, play_one, written_over}
use Rattle.ffi3_moves.specs.Moves.{exchange_at, argument_in, arguments_in}
use Rattle.ffi3_moves.specs.Exchange.{AreBytes, image_at, words_from}
use Rattle.ffi3_moves.proofs.Bytes.{over_inside, over_outside, over_size, over_bytes, over_apart, part_bytes}
use Rattle.ffi3_moves.proofs.Places.{put_there, stack_byte}
use Rattle.ffi3_moves.proofs.Storing.{StaysLong, keeps_both, keeps_none, keeps_over, pieces_played, stays_both}

-- ---- moves one after another

pub play_append : (frame : ℕ) (ms ns : List Move) (source target : List ℕ) → play frame (ms ++ ns) source target ≡ play frame ns source (play frame ms source target)
play_append frame [] ns source target = refl
play_append frame (m ∷ ms) ns source target = play_append frame ms ns source (play_one frame m source target)

-- what places keep of what stood there since a store elsewhere they keep of what stood before it
places_since : (base : ℕ) (ls : List Loc) (o a b : Image) (ts : List Tree) (ps : List Place) → AllByRecursion (IsNoneOf ls) (all_uses ts ps) → Stays base ls o a → PlacesKeep base a b ts ps → PlacesKeep base o b ts ps
places_since base ls o a b (t ∷ ts) (p ∷ ps) none s keep = (
  keeps_since base t p ls o a b (each_first (IsNoneOf ls) (place_uses t p) (all_uses ts ps) none) s keep.0,
  places_since base ls o a b ts ps (each_rest (IsNoneOf ls) (place_uses t p) (all_uses ts ps) none) s keep.1,
)
places_since base ls o a b _ _ none s keep = tt

-- ---- a word

pub record IsWordMoved (base : ℕ) (l : Loc) (w : ℕ) (sp : ℕ) (link x y : List ℕ) : Type 0 where
  pub put : IsWordPut base l w (image_at sp link x) (image_at sp link y)
  pub keeps : StaysLong x y

module _ (sp base : ℕ) (link : List ℕ) (linked : length link ≡ base) where
  pub word_moved : (x : List ℕ) (l : Loc) (w : ℕ) → frame_at ≤ length x → AreBytes x → IsPlace (length x - frame_at) l → IsWhole l → w < 2 ^ 64 → IsWordMoved base l w sp link x (written_over (exchange_at l) (to_le_bytes w64 w) x)
  word_moved x l w long are lies wide small =
      let few : length (to_le_bytes w64 w) ≤ place_size l = omega (arith, wide) in
      let keeps = keeps_over x (to_le_bytes w64 w) l long are lies few (to_le_bytes-below w64 w) in
      record {
        put = word_put base l w (to_le_bytes w64 w) (image_at sp link x) (image_at sp link (written_over (exchange_at l) (to_le_bytes w64 w) x)) wide small refl (put_there sp base link linked x long are l lies (to_le_bytes w64 w) few keeps.are);
        keeps = keeps;
      }

  -- ---- a copy

  module _ (x bytes : List ℕ) (copy : ℕ) (are : AreBytes x) (bytes_are : AreBytes bytes) (fits : frame_at + copy + length bytes ≤ length x) where
    abbrev new : List ℕ
    new = written_over (frame_at + copy) bytes x

    words_same : (n at : ℕ) → at + 8 * n ≤ frame_at → words_from n at new ≡ words_from n at x
    unfolding words_from
    words_same zero at low = refl
    words_same (suc n) at low =
        let here = over_apart (frame_at + copy) bytes x fits at 8 (inl (omega (arith, low))) (omega (arith, low, fits)) in
        let later = words_same n (at + 8) (omega (arith, low)) in
        λ i. from_le_bytes w64 (here i) ∷ later i

    image_long : length (image_at sp link x).stack ≡ base + (length x - frame_at)
    image_long = omega (arith, linked, length-append link (drop frame_at x), length-drop frame_at x)

    fits_there : base + copy + length bytes ≤ length (image_at sp link x).stack
    fits_there = omega (arith, image_long, fits)

    new_long : length (image_at sp link new).stack ≡ length (image_at sp link x).stack
    new_long =
        omega (arith, length-append link (drop frame_at new), length-append link (drop frame_at x), length-drop frame_at new, length-drop frame_at x, over_size (frame_at + copy) bytes x fits)

    stack_same : (k : ℕ) → get_or (image_at sp link new).stack k 0 ≡ get_or (stored (base + copy) bytes (image_at sp link x)).stack k 0
    stack_same k =
        elim (cases_lt k base) [
          | inl low ↦
              get_or_append_left link (drop frame_at new) 0 k (omega (arith, low, linked)) ∙ sym (get_or_append_left link (drop frame_at x) 0 k (omega (arith, low, linked))) ∙ sym (stored_outside (base + copy) bytes (image_at sp link x) fits_there k (inl (omega (arith, low))))
          | inr from ↦
              let there : base + (k - base) ≡ k = omega (arith, from) in
              subst (λ j. get_or (image_at sp link new).stack j 0 ≡ get_or (stored (base + copy) bytes (image_at sp link x)).stack j 0) there (behind_base (k - base))
        ]
      where
        outside : (n : ℕ) → (n < copy) ⊎ (copy + length bytes ≤ n) → get_or (image_at sp link new).stack (base + n) 0 ≡ get_or (stored (base + copy) bytes (image_at sp link x)).stack (base + n) 0
        outside n (inl below) =
            stack_byte sp base link linked new n ∙ over_outside (frame_at + copy) bytes x fits (frame_at + n) (inl (omega (arith, below))) ∙ sym (stack_byte sp base link linked x n) ∙ sym (stored_outside (base + copy) bytes (image_at sp link x) fits_there (base + n) (inl (omega (arith, below))))
        outside n (inr above) =
            stack_byte sp base link linked new n ∙ over_outside (frame_at + copy) bytes x fits (frame_at + n) (inr (omega (arith, above))) ∙ sym (stack_byte sp base link linked x n) ∙ sym (stored_outside (base + copy) bytes (image_at sp link x) fits_there (base + n) (inr (omega (arith, above))))

        inside : (j : ℕ) → j < length bytes → get_or (image_at sp link new).stack (base + (copy + j)) 0 ≡ get_or (stored (base + copy) bytes (image_at sp link x)).stack (base + (copy + j)) 0
        inside j h =
            let one : frame_at + (copy + j) ≡ frame_at + copy + j = omega arith in
            let two : base + copy + j ≡ base + (copy + j) = omega arith in
            stack_byte sp base link linked new (copy + j) ∙ ap (λ k. get_or new k 0) one ∙ over_inside (frame_at + copy) bytes x fits j h ∙ sym (stored_inside (base + copy) bytes (image_at sp link x) fits_there j h) ∙ ap (λ k. get_or (stored (base + copy) bytes (image_at sp link x)).stack k 0) two

        behind_base : (n : ℕ) → get_or (image_at sp link new).stack (base + n) 0 ≡ get_or (stored (base + copy) bytes (image_at sp link x)).stack (base + n) 0
        behind_base n =
            elim (cases_lt n copy) [
              | inl below ↦ outside n (inl below)
              | inr from ↦
                  elim (cases_lt n (copy + length bytes)) [
                    | inl in_it ↦
                        let there : copy + (n - copy) ≡ n = omega (arith, from) in
                        subst (λ j. get_or (image_at sp link new).stack (base + j) 0 ≡ get_or (stored (base + copy) bytes (image_at sp link x)).stack (base + j) 0) there (inside (n - copy) (omega (arith, from, in_it)))
                    | inr above ↦ outside n (inr above)
                  ]
            ]

    pub copy_image : image_at sp link new ≡ stored (base + copy) bytes (image_at sp link x)
    copy_image =
        let general = words_same 32 0 (omega arith) in
        let floating = words_same 40 256 (omega arith) in
        let stack = ext_get_or 0 (image_at sp link new).stack (stored (base + copy) bytes (image_at sp link x)).stack (new_long ∙ sym (stored_size (base + copy) bytes (image_at sp link x) fits_there)) (λ k h. stack_same k) in
        λ i. record { general = general i; floating = floating i; sp = sp; stack = stack i }

    pub copy_keeps : StaysLong x new
    copy_keeps = record {
      size = over_size (frame_at + copy) bytes x fits;
      are = over_bytes (frame_at + copy) bytes x fits bytes_are are;
    }

  -- ---- arguments

  pub record IsArgumentPlayed (t : Tree) (bytes : List ℕ) (p : Place) (x y : List ℕ) : Type 0 where
    pub stands : PlaceStands base (image_at sp link y) t bytes p
    pub kept : PlaceKeeps base (image_at sp link x) (image_at sp link y) t p
    pub stays : Stays base (place_uses t p) (image_at sp link x) (image_at sp link y)
    pub keeps : StaysLong x y

  module _ (target : Target) (values : List ℕ) (values_are : AreBytes values) where
    argument_played : (i at : ℕ) (t : Tree) (p : Place) (x : List ℕ) → at + size_of t ≤ length values → frame_at ≤ length x → AreBytes x → sp + base + (length x - frame_at) < 2 ^ 64 → IsReadyIn 40 target (length x - frame_at) t p → AreApart (place_uses t p) → IsArgumentPlayed t (part values at (size_of t)) p x (play (sp + base) (argument_in i at t p) values x)
    argument_played i at t (Direct pieces) x room long are high ready apart =
        let all = pieces_played sp base link linked (sp + base) values values_are i at t room pieces x long are ready.has_all.each ready.lies apart in
        record { stands = all.stand; kept = all.kept; stays = all.stays; keeps = all.keeps }
    argument_played i at t (ByRef l copy) x room long are high ready apart =
        let bytes = part values at (size_of t) in
        let many = length_part values at (size_of t) room in
        let bytes_are = part_bytes values at (size_of t) room values_are in
        let fits : frame_at + copy + length (part values at (size_of t)) ≤ length x = omega (arith, many, ready.lies.1, long) in
        let y = written_over (frame_at + copy) bytes x in
        let first = copy_keeps x bytes copy are bytes_are fits in
        let same_size : length (written_over (frame_at + copy) (part values at (size_of t)) x) ≡ length x = first.size in
        let lies : IsPlace (length (written_over (frame_at + copy) (part values at (size_of t)) x) - frame_at) l = subst (λ n. IsPlace (n - frame_at) l) (sym first.size) ready.lies.0 in
        let word = word_moved y l (sp + base + copy) (omega (arith, same_size, long)) first.are lies ready.has_all (omega (arith, high, ready.lies.1)) in
        let z = written_over (exchange_at l) (to_le_bytes w64 (sp + base + copy)) y in
        let there : base + copy + size_of t ≤ length (image_at sp link x).stack = omega (arith, fits_there x bytes copy are bytes_are fits, many) in
        let is = copied base t l copy bytes (image_at sp link x) (image_at sp link z) many there apart.0 (subst (λ m. IsWordPut base l (sp + base + copy) m (image_at sp link z)) (copy_image x bytes copy are bytes_are fits) word.put) in
        record { stands = is.stands; kept = is.kept; stays = is.stays; keeps = keeps_both x y z first word.keeps }

    pub record AreArgumentsPlayed (ts : List Tree) (ps : List Place) (bytes x y : List ℕ) : Type 0 where
      pub stand : AllStand base (image_at sp link y) ts ps bytes
      pub kept : PlacesKeep base (image_at sp link x) (image_at sp link y) ts ps
      pub stays : Stays base (all_uses ts ps) (image_at sp link x) (image_at sp link y)
      pub keeps : StaysLong x y

    pub arguments_played : (i at : ℕ) (ts : List Tree) (ps : List Place) (x : List ℕ) → at + packed_size ts ≤ length values → frame_at ≤ length x → AreBytes x → sp + base + (length x - frame_at) < 2 ^ 64 → AreReadyIn 40 target (length x - frame_at) ts ps → AreApart (all_uses ts ps) → AreArgumentsPlayed ts ps (drop at values) x (play (sp + base) (arguments_in i at ts ps) values x)
    arguments_played i at [] [] x room long are high ready apart = record { stand = tt; kept = tt; stays = stays_none base (image_at sp link x); keeps = keeps_none x are }
    arguments_played i at (t ∷ ts) (p ∷ ps) x room long are high ready apart =
        let here : at + size_of t ≤ length values = omega (arith, room, in_room t) in
        let first = argument_played i at t p x here long are high ready.0 (apart_first (place_uses t p) (all_uses ts ps) apart) in
        let y = play (sp + base) (argument_in i at t p) values x in
        let same_size : length (play (sp + base) (argument_in i at t p) values x) ≡ length x = first.keeps.size in
        let still : AreReadyIn 40 target (length (play (sp + base) (argument_in i at t p) values x) - frame_at) ts ps = subst (λ n. AreReadyIn 40 target (n - frame_at) ts ps) (sym same_size) ready.1 in
        let next = at + round8 (size_of t) in
        let rest = arguments_played (i + 1) next ts ps y (omega (arith, room)) (omega (arith, same_size, long)) first.keeps.are (omega (arith, same_size, high)) still (apart_rest (place_uses t p) (all_uses ts ps) apart) in
        let z = play (sp + base) (arguments_in (i + 1) (at + round8 (size_of t)) ts ps) values (play (sp + base) (argument_in i at t p) values x) in
        let clear = apart_across (place_uses t p) (all_uses ts ps) apart in
        let stands = place_stays base t (part values at (size_of t)) p (all_uses ts ps) (image_at sp link y) (image_at sp link z) ready.0.has_all clear rest.stays first.stands in
        let rest_stand = subst (AllStand base (image_at sp link z) ts ps) (sym (behind_drop t at next values refl)) rest.stand in
        let all : AreArgumentsPlayed (t ∷ ts) (p ∷ ps) (drop at values) x z = record {
          stand = (stands, rest_stand);
          kept = (
            place_keeps base t p (all_uses ts ps) (image_at sp link x) (image_at sp link y) (image_at sp link z) clear rest.stays first.kept,
            places_since base (place_uses t p) (image_at sp link x) (image_at sp link y) (image_at sp link z) ts ps (across_none (place_uses t p) (all_uses ts ps) clear) first.stays rest.kept,
          );
          stays = stays_both base (place_uses t p) (all_uses ts ps) (image_at sp link x) (image_at sp link y) (image_at sp link z) first.stays rest.stays;
          keeps = keeps_both x y z first.keeps rest.keeps;
        } in
        subst (AreArgumentsPlayed (t ∷ ts) (p ∷ ps) (drop at values) x) (sym (play_append (sp + base) (argument_in i at t p) (arguments_in (i + 1) (at + round8 (size_of t)) ts ps) values x)) all
    arguments_played i at _ _ x room long are high ready apart = absurd ready
