-- Items of an array, one by one, and arrays of types.
use Rattle.std.proofs.Common.{◌≡◌, ℕ, zero, suc, ◌+◌, ◌<◌, ◌≤◌, List, [], ◌∷◌, ◌++◌, length, get_or, codes, refl, sym, ap, ◌∙◌, append_assoc, append-nil, arith}
use Rattle.std.specs.Prelude.{slice_index_or}
use Rattle.serde_json.specs.Data.{Data, array, Items, no_items, item, depth, items_depth}
use Rattle.serde_json.specs.Events.{items_len}
use Rattle.serde_json.specs.View.{view, items_view}
use Rattle.serde_json.specs.declared.value.Value.{Value}
use Rattle.ffi3_type_spec.specs.Tree.{Tree, array_of}
use Rattle.ffi3_script_spec.specs.Language.{JsonPath, Reason, Read, read, fault, read_map, and_then, under, at_item, read_type, read_array, read_count, read_each, HasShortArrays, HaveShortArrays}
use Rattle.ffi3_json.specs.Parts.{item_at, items_from}

-- ---- an item, and those after it

next : (ds : Items) (i : ℕ) → i < items_len ds → items_from i ds ≡ item (item_at ds i) (items_from (suc i) ds)
next no_items i below = absurd (omega arith)
next (item d ds) zero below = refl
next (item d ds) (suc i) below = next ds i (omega arith)

pub item_next : (ds : Items) (i : ℕ) → i < items_len ds → items_from i ds ≡ item (item_at ds i) (items_from (i + 1) ds)
item_next ds i below =
    let one : suc i ≡ i + 1 = omega arith in
    next ds i below ∙ ap (λ k. item (item_at ds i) (items_from k ds)) one

pub items_none_left : (ds : Items) (i : ℕ) → items_len ds ≤ i → items_from i ds ≡ no_items
items_none_left no_items zero end = refl
items_none_left no_items (suc i) end = refl
items_none_left (item d ds) zero end = absurd (omega arith)
items_none_left (item d ds) (suc i) end = items_none_left ds i (omega arith)

pub item-short : (ds : Items) (i : ℕ) → HaveShortArrays ds → HasShortArrays (item_at ds i)
item-short no_items i short = tt
item-short (item d ds) zero short = short.0
item-short (item d ds) (suc i) short = item-short ds i short.1

pub item-depth : (ds : Items) (i : ℕ) → depth (item_at ds i) ≤ items_depth ds
item-depth no_items i = omega arith
item-depth (item d ds) zero = omega arith
item-depth (item d ds) (suc i) = omega (arith, item-depth ds i)

view_at : (vs : List Value) (i : ℕ) (v : Value) → i < length vs → view (get_or vs i v) ≡ item_at (items_view vs) i
view_at [] i v below = absurd (omega arith)
view_at (x ∷ vs) zero v below = refl
view_at (x ∷ vs) (suc i) v below = view_at vs i v (omega arith)

pub item_is : (vs : List Value) (i : ℕ) (x : Value) → i < length vs → x ≡ slice_index_or vs i x → view x ≡ item_at (items_view vs) i
item_is vs i x below is = ap view is ∙ view_at vs i x below

-- ---- arrays of types

joined : (done : List Tree) (t : Tree) (r : Read (List Tree)) → read_map (λ ts. done ++ ts) (read_map (λ ts. t ∷ ts) r) ≡ read_map (λ ts. (done ++ t ∷ []) ++ ts) r
joined done t (read ts) = ap read (sym (append_assoc done (t ∷ []) ts))
joined done t (fault path reason) = refl

-- after i items these types were read
abbrev pub Done : (version : ℕ) → Items → JsonPath → ℕ → List Tree → Type 0
Done version ds path i done = read_each version ds path 0 ≡ read_map (λ ts. done ++ ts) (read_each version (items_from i ds) path i)

pub done-none : (version : ℕ) (ds : Items) (path : JsonPath) → Done version ds path 0 []
done-none version ds path = none (read_each version ds path 0) where
  none : (r : Read (List Tree)) → r ≡ read_map (λ ts. ts) r
  none (read ts) = refl
  none (fault place reason) = refl

here : (version : ℕ) (ds : Items) (path : JsonPath) (i : ℕ) (done : List Tree) → i < items_len ds → Done version ds path i done
    → read_each version ds path 0 ≡ read_map (λ ts. done ++ ts) (and_then (λ t. read_map (λ ts. t ∷ ts) (read_each version (items_from (i + 1) ds) path (i + 1))) (read_type version (item_at ds i) (at_item path i)))
here version ds path i done below so_far = so_far ∙ ap (λ es. read_map (λ ts. done ++ ts) (read_each version es path i)) (item_next ds i below)

pub done-more : (version : ℕ) (ds : Items) (path : JsonPath) (i : ℕ) (done : List Tree) (t : Tree) → i < items_len ds → Done version ds path i done
    → read_type version (item_at ds i) (at_item path i) ≡ read t → Done version ds path (i + 1) (done ++ t ∷ [])
done-more version ds path i done t below so_far e =
    let more : Read (List Tree) = read_each version (items_from (i + 1) ds) path (i + 1) in
    here version ds path i done below so_far ∙ ap (λ r. read_map (λ ts. done ++ ts) (and_then (λ u. read_map (λ ts. u ∷ ts) more) r)) e ∙ joined done t more

pub done-fault : (version : ℕ) (ds : Items) (path : JsonPath) (i : ℕ) (done : List Tree) (place : JsonPath) (reason : Reason) → i < items_len ds → Done version ds path i done
    → read_type version (item_at ds i) (at_item path i) ≡ fault place reason → read_each version ds path 0 ≡ fault place reason
done-fault version ds path i done place reason below so_far e =
    let more : Read (List Tree) = read_each version (items_from (i + 1) ds) path (i + 1) in
    here version ds path i done below so_far ∙ ap (λ r. read_map (λ ts. done ++ ts) (and_then (λ u. read_map (λ ts. u ∷ ts) more) r)) e

pub done-all : (version : ℕ) (ds : Items) (path : JsonPath) (i : ℕ) (done : List Tree) → items_len ds ≤ i → Done version ds path i done → read_each version ds path 0 ≡ read done
done-all version ds path i done end so_far = so_far ∙ ap (λ es. read_map (λ ts. done ++ ts) (read_each version es path i)) (items_none_left ds i end) ∙ ap read (append-nil done)

-- ---- an array's type and count

module _ (version : ℕ) (d : Data) (ds : Items) (path : JsonPath) (is : d ≡ array ds) (two : items_len ds ≡ 2) where
  abbrev element_place : JsonPath
  element_place = at_item (under path (codes "array")) 0

  abbrev count_place : JsonPath
  count_place = at_item (under path (codes "array")) 1

  parts_read : read_array version d path ≡ and_then (λ t. read_map (array_of t) (read_count (item_at ds 1) count_place)) (read_type version (item_at ds 0) element_place)
  parts_read = ap (λ x. read_array version x path) is ∙ both ds two
    where
      both : (es : Items) → items_len es ≡ 2 → read_array version (array es) path ≡ and_then (λ t. read_map (array_of t) (read_count (item_at es 1) count_place)) (read_type version (item_at es 0) element_place)
      both no_items h = absurd (omega (arith, h))
      both (item x no_items) h = absurd (omega (arith, h))
      both (item x (item y no_items)) h = refl
      both (item x (item y (item z es))) h = absurd (omega (arith, h))

  pub no_element : (place : JsonPath) (reason : Reason) → read_type version (item_at ds 0) element_place ≡ fault place reason → read_array version d path ≡ fault place reason
  no_element place reason e =
      parts_read ∙ ap (and_then (λ t. read_map (array_of t) (read_count (item_at ds 1) count_place))) e

  element_read : (t : Tree) → read_type version (item_at ds 0) element_place ≡ read t → read_array version d path ≡ read_map (array_of t) (read_count (item_at ds 1) count_place)
  element_read t e =
      parts_read ∙ ap (and_then (λ u. read_map (array_of u) (read_count (item_at ds 1) count_place))) e

  pub no_count : (t : Tree) (place : JsonPath) (reason : Reason) → read_type version (item_at ds 0) element_place ≡ read t → read_count (item_at ds 1) count_place ≡ fault place reason → read_array version d path ≡ fault place reason
  no_count t place reason e f = element_read t e ∙ ap (read_map (array_of t)) f

  pub array_read : (t : Tree) (n : ℕ) → read_type version (item_at ds 0) element_place ≡ read t → read_count (item_at ds 1) count_place ≡ read n → read_array version d path ≡ read (array_of t n)
  array_read t n e f = element_read t e ∙ ap (read_map (array_of t)) f
