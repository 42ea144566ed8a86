-- Arrays of two items.
use Rattle.std.proofs.Common.{◌≡◌, Some, None, refl, sym, ap, ◌∙◌, arith}
use Rattle.serde_json.specs.Data.{Data, Items, no_items, item}
use Rattle.serde_json.specs.Find.{as_array}
use Rattle.serde_json.specs.Events.{items_len}
use Rattle.ffi3_json.specs.Parts.{item_at}
use Rattle.ffi3_json.proofs.Objects.{array_is}
use Rattle.ffi3_script.specs.Shapes.{two_in, two_items}

not_two : (ds : Items) → (items_len ds ≡ 2 → ⊥) → None ≡ two_in ds
not_two no_items h = refl
not_two (item d no_items) h = refl
not_two (item d (item e no_items)) h = absurd (h refl)
not_two (item d (item e (item f ds))) h = refl

pub no_two_items : (d : Data) (ds : Items) → as_array d ≡ Some ds → (items_len ds ≡ 2 → ⊥) → None ≡ two_items d
no_two_items d ds e h = not_two ds h ∙ ap two_items (sym (array_is d ds e))

two_here : (ds : Items) → items_len ds ≡ 2 → Some (item_at ds 0, item_at ds 1) ≡ two_in ds
two_here no_items h = absurd (omega (arith, h))
two_here (item d no_items) h = absurd (omega (arith, h))
two_here (item d (item e no_items)) h = refl
two_here (item d (item e (item f ds))) h = absurd (omega (arith, h))

pub both_items_of : (d : Data) (ds : Items) (a b : Data) → as_array d ≡ Some ds → items_len ds ≡ 2 → a ≡ item_at ds 0 → b ≡ item_at ds 1 → Some (a, b) ≡ two_items d
both_items_of d ds a b e two a_is b_is =
    (λ i. Some (a_is i, b_is i)) ∙ two_here ds two ∙ ap two_items (sym (array_is d ds e))
