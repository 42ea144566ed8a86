-- How many items the arrays of a value have.
use Rattle.std.specs.Prelude.{ℕ, ◌≤◌}
use Rattle.serde_json.specs.Data.{Data, null, boolean, number, string, array, object, Items, no_items, item, Members}
use Rattle.serde_json.specs.Data.{no_members, member}
use Rattle.serde_json.specs.Events.{items_len}

-- each array has at most n items
abbrev mutual
  pub HasArraysWithin : ℕ → Data → Type 0
  HasArraysWithin n null = Unit {0}
  HasArraysWithin n (boolean b) = Unit {0}
  HasArraysWithin n (number x) = Unit {0}
  HasArraysWithin n (string s) = Unit {0}
  HasArraysWithin n (array ds) = (items_len ds ≤ n) × HaveArraysWithin n ds
  HasArraysWithin n (object ms) = HaveMembersWithin n ms

  pub HaveArraysWithin : ℕ → Items → Type 0
  HaveArraysWithin n no_items = Unit {0}
  HaveArraysWithin n (item d ds) = HasArraysWithin n d × HaveArraysWithin n ds

  pub HaveMembersWithin : ℕ → Members → Type 0
  HaveMembersWithin n no_members = Unit {0}
  HaveMembersWithin n (member name d ms) = HasArraysWithin n d × HaveMembersWithin n ms
