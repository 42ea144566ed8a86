-- The data that a reference leads to.
use Rattle.json.specs.Value as in_text
use Rattle.serde_json.specs.Data.{Data, Items}
use Rattle.serde_json.specs.View.{view, items_view}
use Rattle.ffi3_json.specs.InText.{data_in, items_in, HasNumbers, HaveNumbers}
use Rattle.ffi3_json.specs.declared.json_ref.JsonRef.{JsonRef}
use Rattle.ffi3_json.specs.declared.json_ref.JsonRef.TheVariants as one
use Rattle.ffi3_json.specs.declared.json_ref.ItemsRef.{ItemsRef}
use Rattle.ffi3_json.specs.declared.json_ref.ItemsRef.TheVariants as some

abbrev pub data_of : JsonRef → Data
data_of (one.Owned v) = view v.now
data_of (one.Borrowed v) = data_in (in_text.value_view v.now)

abbrev pub IsInRange : JsonRef → Type 0
IsInRange (one.Owned v) = Unit {0}
IsInRange (one.Borrowed v) = HasNumbers (in_text.value_view v.now)

abbrev pub items_of : ItemsRef → Items
items_of (some.Owned vs) = items_view vs.now.items
items_of (some.Borrowed vs) = items_in (in_text.items_view vs.now.items)

abbrev pub AreInRange : ItemsRef → Type 0
AreInRange (some.Owned vs) = Unit {0}
AreInRange (some.Borrowed vs) = HaveNumbers (in_text.items_view vs.now.items)
