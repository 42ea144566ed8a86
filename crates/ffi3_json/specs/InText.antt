-- JSON data as it stands in a text.
use Rattle.std.specs.Prelude.{◌≡◌, ◌&&◌, List, Bool, true, Some, unwrap_or}
use Rattle.json.specs.Json as json
use Rattle.serde_json.specs.Data.{Data, null, Items, no_items, Members, no_members}
use Rattle.serde_json.specs.Read.{of_json, of_items, of_members}
use Rattle.ffi3_script_spec.specs.Language.{Key, is_key_of}

-- the data that a value of the grammar is
abbrev pub data_in : json.Json → Data
data_in j = unwrap_or (of_json j) null

abbrev pub items_in : json.Items → Items
items_in js = unwrap_or (of_items js) no_items

abbrev pub members_in : json.Members → Members
members_in ms = unwrap_or (of_members ms no_members) no_members

-- no number is too large for a float
abbrev pub HasNumbers : json.Json → Type 0
HasNumbers j = of_json j ≡ Some (data_in j)

abbrev pub HaveNumbers : json.Items → Type 0
HaveNumbers js = of_items js ≡ Some (items_in js)

-- each member has one of these keys
abbrev pub each_is_key : List Key → json.Members → Bool
each_is_key keys json.no_members = true
each_is_key keys (json.member k j ms) = is_key_of keys k && each_is_key keys ms
