-- The names of natives, one after another.
use Rattle.std.proofs.Common.{◌≡◌, ℕ, ◌+◌, ◌≤◌, List, [], ◌∷◌, ◌++◌, length, map, take, Some, get_or, ap, ap₂, ◌∙◌, subst, sym, arith}
use Rattle.std.specs.Prelude.{slice_get, option_map}
use Rattle.std.proofs.lemmas.List.{length-map, take_all, take_more}
use Rattle.std.proofs.lemmas.Option.{get_or_from_slice_get, slice_get-map, slice_get_within}
use Rattle.ffi3_script_spec.specs.Natives.{NamedNative, names_of}

module _ (ns : List NamedNative) where
  pub one_name_more : (i : ℕ) (names names' : List (List ℕ)) (name name' : List ℕ) → names ≡ take i (names_of ns) → slice_get (names_of ns) i ≡ Some name → name' ≡ name → names' ≡ names ++ name' ∷ [] → names' ≡ take (i + 1) (names_of ns)
  one_name_more i names names' name name' are at same pushed =
      let here : get_or (names_of ns) i name ≡ name = get_or_from_slice_get (names_of ns) i name name at in
      pushed ∙ ap₂ (λ (ms : List (List ℕ)) (m : List ℕ). ms ++ m ∷ []) are (same ∙ sym here) ∙ sym (take_more (names_of ns) i name (slice_get_within (names_of ns) i name at))

  -- the name of native i
  pub name_here : (i : ℕ) (n : NamedNative) (name : List ℕ) → slice_get ns i ≡ Some n → name ≡ n.name → slice_get (names_of ns) i ≡ Some name
  name_here i n name at is =
      slice_get-map (λ (m : NamedNative). m.name) ns i ∙ ap (option_map (λ (m : NamedNative). m.name)) at ∙ ap (λ (m : List ℕ). Some m) (sym is)

  pub all_names : (i : ℕ) (names : List (List ℕ)) → length ns ≤ i → names ≡ take i (names_of ns) → names ≡ names_of ns
  all_names i names past are =
      let within : length (names_of ns) ≤ i = omega (arith, past, length-map ns (λ (n : NamedNative). n.name)) in
      are ∙ take_all i (names_of ns) within

  pub count_of_names : (names : List (List ℕ)) → names ≡ names_of ns → length names ≡ length ns
  count_of_names names are =
      ap (λ (ms : List (List ℕ)). length ms) are ∙ length-map ns (λ (n : NamedNative). n.name)

-- a list that was made of another is no longer
pub mapped_below : {A B : Type 0} (f : A → B) (xs : List A) (i : ℕ) → length xs ≤ i → length (map f xs) ≤ i
mapped_below f xs i past = subst (λ (n : ℕ). n ≤ i) (sym (length-map xs f)) past
