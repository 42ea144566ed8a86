-- The first fault of nodes: where no nodes of a signature go on as they do.
use Rattle.std.specs.Prelude.{ℕ, zero, suc, ◌+◌, ◌-◌, ◌==◌, Bool, cond, not, ◌&&◌, List, [], ◌∷◌, length}
use Rattle.std.specs.Prelude.{Option, Some, None, nat_le}
use Rattle.ffi3_nodes.specs.declared.Node.{Node}
use Rattle.ffi3_nodes.specs.declared.TheConstants.{STRUCT, ARRAY, DEEPEST}

-- ---- the structs and arrays that are open, the innermost first, by how many types each still wants

-- a type begins: the innermost wants one fewer
abbrev pub begun : List ℕ → List ℕ
begun [] = []
begun (k ∷ ks) = (k - 1) ∷ ks

-- structs and arrays open
abbrev pub opened : Node → List ℕ → List ℕ
opened n ks = cond (n.kind == STRUCT) (n.count ∷ ks) (cond (n.kind == ARRAY) (1 ∷ ks) ks)

-- those that want no more are closed, from the innermost on
abbrev pub closed : List ℕ → List ℕ
closed [] = []
closed (zero ∷ ks) = closed ks
closed (suc k ∷ ks) = suc k ∷ ks

abbrev pub open_after : List ℕ → Node → List ℕ
open_after ks n = closed (opened n (begun ks))

-- ---- faults

pub data NodeFault : Type 0 where
  -- the nodes end where a type is wanted
  ended : NodeFault
  -- behind so many nodes stands one whose kind has no such number; one that has no count, and counts
  unknown_kind : ℕ → NodeFault
  bad_count : ℕ → NodeFault
  -- behind so many nodes a struct or an array begins inside 16 of them
  too_deep : ℕ → NodeFault

-- what the list `leaves` has, and structs and arrays
abbrev pub is_kind : ℕ → Bool
is_kind kind = nat_le kind ARRAY

abbrev pub has_count : ℕ → Bool
has_count kind = nat_le STRUCT kind

-- behind `at` nodes, with so many structs and arrays open
abbrev pub fault_at : ℕ → ℕ → Node → Option NodeFault
fault_at depth at n =
    cond (not (is_kind n.kind)) (Some (unknown_kind at))
    (cond (not (has_count n.kind) && not (n.count == 0)) (Some (bad_count at))
    (cond (has_count n.kind && nat_le DEEPEST depth) (Some (too_deep at)) None))

abbrev pub or_else : Option NodeFault → Option NodeFault → Option NodeFault
or_else (Some f) later = Some f
or_else None later = later

-- where they end, no struct and no array may be open
abbrev pub fault_at_end : List ℕ → Option NodeFault
fault_at_end [] = None
fault_at_end (k ∷ ks) = Some ended

abbrev pub fault_from : List ℕ → ℕ → List Node → Option NodeFault
fault_from ks at [] = fault_at_end ks
fault_from ks at (n ∷ ns) = or_else (fault_at (length ks) at n) (fault_from (open_after ks n) (at + 1) ns)

-- THE FIRST FAULT of nodes, if they have one. A signature has a result.
abbrev pub first_node_fault : List Node → Option NodeFault
first_node_fault [] = Some ended
first_node_fault (n ∷ ns) = fault_from [] 0 (n ∷ ns)
