-- Parts of a JSON value: items by their numbers, and the one member of an object that has no other.
use Rattle.std.specs.Prelude.{ℕ, zero, suc, List, Option, Some, None}
use Rattle.serde_json.specs.Data.{Data, null, boolean, number, string, array, object, Items, no_items, item, Members}
use Rattle.serde_json.specs.Data.{no_members, member}

-- item number i, and null past the end
abbrev pub item_at : Items → ℕ → Data
item_at no_items i = null
item_at (item d ds) zero = d
item_at (item d ds) (suc i) = item_at ds i

-- the items from number i on
abbrev pub items_from : ℕ → Items → Items
items_from zero ds = ds
items_from (suc i) no_items = no_items
items_from (suc i) (item d ds) = items_from i ds

-- the one member of an object that has no other
abbrev pub member_in : Members → Option (List ℕ × Data)
member_in no_members = None
member_in (member name d no_members) = Some (name, d)
member_in (member name d (member other e ms)) = None

-- key and value of that member, where the value is an object
abbrev pub only_member : Data → Option (List ℕ × Data)
only_member null = None
only_member (boolean b) = None
only_member (number n) = None
only_member (string s) = None
only_member (array ds) = None
only_member (object ms) = member_in ms
