-- What the loop over a type's leaves keeps, as what stands between them is cleared.
use Rattle.std.proofs.Common.{◌≡◌, ◌⊎◌, inl, inr, ℕ, suc, ◌+◌, ◌-◌, ◌<◌, ◌≤◌, List, [], ◌∷◌, get_or, length, refl, sym, ◌∙◌, subst, arith}
use Rattle.std.specs.Prelude.{slice_index_or}
use Rattle.std.proofs.lemmas.Bool.{cases_lt}
use Rattle.std.proofs.lemmas.List.{get_or-take, length-take-le}
use Rattle.ffi3_type_spec.specs.Tree.{Tree, u8}
use Rattle.ffi3_type_spec.specs.Fault.{IsLaidOut}
use Rattle.ffi3_type_spec.specs.Layout.{Leaf, leaf_at, leaves_of, scalar_size, size_of}
use Rattle.ffi3_type_spec.specs.LayoutLaws.{leaf_end}
use Rattle.ffi3_type_spec.specs.Value.{IsPadding, value_in}
use Rattle.ffi3_type_spec.proofs.Fitting.{value_fits}
use Rattle.ffi3_type_spec.proofs.LayoutLaws.{well_laid_out}
use Rattle.ffi3_place_spec.specs.Holds.{leaf_bytes}
use Rattle.ffi3_place_spec.proofs.Reading.{LeavesRead, leaves_read, reads}
use Rattle.ffi3_transfer.specs.Packed.{IsCleared, first_in}

abbrev no_leaf : Leaf
no_leaf = record { at = 0; kind = u8 }

-- bytes that agree at each leaf
leaves_same : (a b : List ℕ) (ls : List Leaf) (bs : List (List ℕ)) → ((j : ℕ) → j < length ls → (k : ℕ) → k < scalar_size (slice_index_or ls j no_leaf).kind → get_or b ((slice_index_or ls j no_leaf).at + k) 0 ≡ get_or a ((slice_index_or ls j no_leaf).at + k) 0) → LeavesRead a ls bs → LeavesRead b ls bs
leaves_same a b [] [] same r = tt
leaves_same a b (l ∷ ls) (c ∷ cs) same r =
    (λ k h. same 0 (omega arith) k h ∙ r.0 k h, leaves_same a b ls cs (λ j below. same (suc j) (omega (arith, below))) r.1)
leaves_same a b _ _ same r = absurd r

module _ (t : Tree) (old : List ℕ) where
  abbrev count : ℕ
  count = length (leaves_of t)

  -- what is so before the leaf at j - 1 is looked at, with all behind `end` cleared
  pub record AreCleared (j end : ℕ) (out : List ℕ) : Type 0 where
    pub sized : length out ≡ length old
    pub high : end ≤ length old
    pub few : j ≤ length (leaves_of t)
    pub low : (i : ℕ) → i < j → leaf_end (leaf_at t i) ≤ end
    pub behind : (i : ℕ) → j ≤ i → i < length (leaves_of t) → end ≤ (leaf_at t i).at
    pub before : (i : ℕ) → i < end → get_or out i 0 ≡ get_or old i 0
    pub kept : (i : ℕ) → j ≤ i → i < length (leaves_of t) → (k : ℕ) → k < scalar_size (leaf_at t i).kind → get_or out ((leaf_at t i).at + k) 0 ≡ get_or old ((leaf_at t i).at + k) 0
    pub clear : (b : ℕ) → end ≤ b → b < length old → ((i : ℕ) → j ≤ i → i < length (leaves_of t) → (leaf_at t i).at ≤ b → leaf_end (leaf_at t i) ≤ b) → get_or out b 0 ≡ 0

  pub none_cleared : (j end : ℕ) → size_of t ≤ length old → j ≡ length (leaves_of t) → end ≡ length old → AreCleared j end old
  none_cleared j end room all whole = record {
    sized = refl;
    high = omega (arith, whole);
    few = omega (arith, all);
    low = λ i h. omega (arith, (well_laid_out t).inside i (omega (arith, h, all)), room, whole);
    behind = λ i h below. absurd (omega (arith, h, below, all));
    before = λ i h. refl;
    kept = λ i h below k inside. absurd (omega (arith, h, below, all));
    clear = λ b h below out. absurd (omega (arith, h, below, whole));
  }

  -- one more
  pub one_cleared : (j end at after : ℕ) (out new : List ℕ) → j < length (leaves_of t) → at ≡ (leaf_at t j).at → after ≡ at + scalar_size (leaf_at t j).kind → AreCleared (j + 1) end out
      → length new ≡ length out → ((i : ℕ) → after ≤ i → i < end → get_or new i 0 ≡ 0) → ((i : ℕ) → (i < after) ⊎ (end ≤ i) → get_or new i 0 ≡ get_or out i 0) → AreCleared j at new
  one_cleared j end at after out new below at_is after_is are sized zeros beside = record {
    sized = sized ∙ are.sized;
    high = omega (arith, here, are.high, after_is);
    few = omega (arith, below);
    low = λ i h. omega (arith, (well_laid_out t).in_order i j h below, at_is);
    behind = behind_it;
    before = λ i h. beside i (inl (omega (arith, h, after_is))) ∙ are.before i (omega (arith, h, here, after_is));
    kept = kept_it;
    clear = clear_it;
  }
    where
      here : after ≤ end
      here = omega (arith, are.low j (omega arith), at_is, after_is)

      behind_it : (i : ℕ) → j ≤ i → i < length (leaves_of t) → at ≤ (leaf_at t i).at
      behind_it i h top =
          elim (cases_lt j i) [
            | inl later ↦ omega (arith, are.behind i (omega (arith, later)) top, here, after_is)
            | inr same ↦
                let is : j ≡ i = omega (arith, h, same) in
                subst (λ n. at ≤ (leaf_at t n).at) is (omega (arith, at_is))
          ]

      kept_here : (k : ℕ) → k < scalar_size (leaf_at t j).kind → get_or new ((leaf_at t j).at + k) 0 ≡ get_or old ((leaf_at t j).at + k) 0
      kept_here k inside =
          let low : (leaf_at t j).at + k < after = omega (arith, inside, at_is, after_is) in
          beside ((leaf_at t j).at + k) (inl low) ∙ are.before ((leaf_at t j).at + k) (omega (arith, low, here))

      kept_it : (i : ℕ) → j ≤ i → i < length (leaves_of t) → (k : ℕ) → k < scalar_size (leaf_at t i).kind → get_or new ((leaf_at t i).at + k) 0 ≡ get_or old ((leaf_at t i).at + k) 0
      kept_it i h top =
          elim (cases_lt j i) [
            | inl later ↦ λ k inside.
                let next : j + 1 ≤ i = omega (arith, later) in
                beside ((leaf_at t i).at + k) (inr (omega (arith, are.behind i next top))) ∙ are.kept i next top k inside
            | inr same ↦
                let is : j ≡ i = omega (arith, h, same) in
                subst (λ n. (k : ℕ) → k < scalar_size (leaf_at t n).kind → get_or new ((leaf_at t n).at + k) 0 ≡ get_or old ((leaf_at t n).at + k) 0) is kept_here
          ]

      clear_it : (b : ℕ) → at ≤ b → b < length old → ((i : ℕ) → j ≤ i → i < length (leaves_of t) → (leaf_at t i).at ≤ b → leaf_end (leaf_at t i) ≤ b) → get_or new b 0 ≡ 0
      clear_it b h top out_of =
          let own = out_of j (omega arith) below (omega (arith, h, at_is)) in
          let from : after ≤ b = omega (arith, own, at_is, after_is) in
          elim (cases_lt b end) [
            | inl inside ↦ zeros b from inside
            | inr above ↦ beside b (inr above) ∙ are.clear b above top (λ i later. out_of i (omega (arith, later)))
          ]

  -- all
  pub all_cleared : (j end : ℕ) (out new : List ℕ) → IsLaidOut t → size_of t ≤ length old → j ≡ 0 → AreCleared j end out
      → length new ≡ length out → ((i : ℕ) → 0 ≤ i → i < end → get_or new i 0 ≡ 0) → ((i : ℕ) → (i < 0) ⊎ (end ≤ i) → get_or new i 0 ≡ get_or out i 0) → IsCleared t old new
  all_cleared j end out new right room none are sized zeros beside = record {
    sized = sized ∙ are.sized;
    clear = clear_it;
    value = reads t (value_in t (first_in t old)) (first_in t new) (value_fits t (first_in t old) right (length-take-le (size_of t) old room)) (length-take-le (size_of t) new (omega (arith, room, sized, are.sized)))
        (leaves_same (first_in t old) (first_in t new) (leaves_of t) (leaf_bytes (value_in t (first_in t old))) same (leaves_read t (first_in t old)));
  }
    where
      same : (i : ℕ) → i < length (leaves_of t) → (k : ℕ) → k < scalar_size (leaf_at t i).kind → get_or (first_in t new) ((leaf_at t i).at + k) 0 ≡ get_or (first_in t old) ((leaf_at t i).at + k) 0
      same i below k inside =
          let from : j ≤ i = omega (arith, none) in
          let within : (leaf_at t i).at + k < size_of t = omega (arith, (well_laid_out t).inside i below, inside) in
          get_or-take (size_of t) new ((leaf_at t i).at + k) 0 within
          ∙ beside ((leaf_at t i).at + k) (inr (omega (arith, are.behind i from below)))
          ∙ are.kept i from below k inside
          ∙ sym (get_or-take (size_of t) old ((leaf_at t i).at + k) 0 within)

      clear_it : (b : ℕ) → b < length old → IsPadding t b → get_or new b 0 ≡ 0
      clear_it b top padding =
          elim (cases_lt b end) [
            | inl below ↦ zeros b (omega arith) below
            | inr above ↦ beside b (inr above) ∙ are.clear b above top (λ i later under. padding i no_leaf under)
          ]
