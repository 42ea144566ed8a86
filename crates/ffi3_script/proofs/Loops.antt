-- Arrays, item by item: after i items, what was read of them and what the rest is read as make the whole.
use Rattle.std.proofs.Common.{◌≡◌, ℕ, ◌+◌, ◌<◌, ◌≤◌, List, [], ◌∷◌, ◌++◌, map, refl, sym, ap, ◌∙◌, append_assoc, append-nil}
use Rattle.std.proofs.lemmas.List.{map-append}
use Rattle.serde_json.specs.Data.{Data, Items, no_items, item}
use Rattle.serde_json.specs.Events.{items_len}
use Rattle.ffi3_json.specs.Parts.{item_at, items_from}
use Rattle.ffi3_json.proofs.Items.{item_next, items_none_left}
use Rattle.ffi3_script_spec.specs.Language.{JsonPath, Reason, Read, read, fault, read_map, and_then}

pub next_item : (ds : Items) (i : ℕ) (x : Data) → i < items_len ds → x ≡ item_at ds i → items_from i ds ≡ item x (items_from (i + 1) ds)
next_item ds i x below is = item_next ds i below ∙ ap (λ d. item d (items_from (i + 1) ds)) (sym is)

-- these, and then those of the rest
abbrev pub before : {X : Type 0} → List X → Read (List X) → Read (List X)
before done rest = read_map (λ xs. done ++ xs) rest

-- the first, and then those of the rest, which may speak of the first
abbrev pub first_and : {X : Type 0} → (X → Read (List X)) → Read X → Read (List X)
first_and more first = and_then (λ x. read_map (λ xs. x ∷ xs) (more x)) first

pub before-none : {X : Type 0} (r : Read (List X)) → r ≡ before [] r
before-none (read xs) = refl
before-none (fault p r) = refl

joined : {X : Type 0} (done : List X) (x : X) (r : Read (List X)) → before done (read_map (λ xs. x ∷ xs) r) ≡ before (done ++ x ∷ []) r
joined done x (read xs) = ap read (sym (append_assoc done (x ∷ []) xs))
joined done x (fault p r) = refl

module _ {X : Type 0} (whole : Read (List X)) (done : List X) (more : X → Read (List X)) (first : Read X) (so_far : whole ≡ before done (first_and more first)) where
  pub one_more : (x : X) → first ≡ read x → whole ≡ before (done ++ x ∷ []) (more x)
  one_more x e = so_far ∙ ap (λ r. before done (first_and more r)) e ∙ joined done x (more x)

  pub one_fault : (p : JsonPath) (r : Reason) → first ≡ fault p r → whole ≡ fault p r
  one_fault p r e = so_far ∙ ap (λ s. before done (first_and more s)) e

-- at the end none is left
pub all_read : {X : Type 0} (rest : Items → Read (List X)) (whole : Read (List X)) (done : List X) (ds : Items) (i : ℕ) → items_len ds ≤ i → rest no_items ≡ read [] → whole ≡ before done (rest (items_from i ds)) → whole ≡ read done
all_read rest whole done ds i end none so_far =
    so_far ∙ ap (λ es. before done (rest es)) (items_none_left ds i end) ∙ ap (before done) none ∙ ap read (append-nil done)

-- in the language's own words
pub mapped-more : {X Y : Type 0} (f : X → Y) (old : List X) (x : X) (new : List X) → new ≡ old ++ x ∷ [] → map f new ≡ map f old ++ f x ∷ []
mapped-more f old x new e = ap (map f) e ∙ map-append f old (x ∷ [])
