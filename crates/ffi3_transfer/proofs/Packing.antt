-- Where in a buffer the values of arguments begin.
use Rattle.std.proofs.Common.{◌≡◌, ℕ, suc, zero, ◌+◌, ◌-◌, ◌<◌, ◌≤◌, List, [], ◌∷◌, ◌++◌, drop, take, length, refl, ap, sym, ◌∙◌, subst, arith, length-drop}
use Rattle.std.proofs.lemmas.List.{drop-drop, length-append}
use Rattle.ffi3_type_spec.specs.Tree.{Tree, tree_at}
use Rattle.ffi3_type_spec.specs.Layout.{size_of}
use Rattle.ffi3_type_spec.proofs.Layouts.{least_multiple-above}
use Rattle.ffi3_place_spec.specs.Standard.{round8}
use Rattle.ffi3_place_spec.proofs.Elements.{argument_read}
use Rattle.ffi3_transfer.specs.Packed.{packed_size, behind}

-- a value lies in its room
pub in_room : (t : Tree) → size_of t ≤ round8 (size_of t)
in_room t = least_multiple-above 8 (size_of t)

pub packed_drop : (j : ℕ) (ts : List Tree) → packed_size (drop j ts) ≤ packed_size ts
packed_drop (suc j) (t ∷ ts) = omega (arith, packed_drop j ts)
packed_drop _ _ = omega arith

-- that of an argument, and those behind it
pub packed_open : (ts us : List Tree) (t : Tree) → ts ≡ t ∷ us → packed_size ts ≡ round8 (size_of t) + packed_size us
packed_open ts us t e = ap packed_size e

pub behind_drop : (t : Tree) (at next : ℕ) (bytes : List ℕ) → next ≡ at + round8 (size_of t) → behind t (drop at bytes) ≡ drop next bytes
behind_drop t at next bytes e = drop-drop (round8 (size_of t)) at bytes ∙ ap (λ n. drop n bytes) (sym e)

-- there is room in the buffer for an argument before those behind it
pub room_before : (ts : List Tree) (j : ℕ) (t : Tree) (at total : ℕ) → drop j ts ≡ t ∷ drop (j + 1) ts → total ≡ packed_size ts → at + packed_size (drop (j + 1) ts) ≡ total → round8 (size_of t) ≤ at
room_before ts j t at total types sized left =
    omega (arith, packed_open (drop j ts) (drop (j + 1) ts) t types, packed_drop j ts, sized, left)

-- as a loop has it that has come down to number i
pub room_here : (ts us : List Tree) (i : ℕ) (t : Tree) (at total : ℕ) → us ≡ ts → i - 1 < length ts → i ≡ i - 1 + 1 → t ≡ tree_at us (i - 1) → total ≡ packed_size ts → at + packed_size (drop i ts) ≡ total → round8 (size_of t) ≤ at
room_here ts us i t at total same below back type_is sized left =
    room_before ts (i - 1) t at total (argument_read ts (i - 1) t below (type_is ∙ ap (λ vs. tree_at vs (i - 1)) same)) sized (subst (λ n. at + packed_size (drop n ts) ≡ total) back left)

-- a value that stands before other bytes
pub front : (n : ℕ) (bytes rest : List ℕ) → length bytes ≡ n → take n (bytes ++ rest) ≡ bytes
front zero [] rest e = refl
front (suc n) (b ∷ bytes) rest e = ap (λ bs. b ∷ bs) (front n bytes rest (omega (arith, e)))
front _ _ rest e = absurd (omega (arith, e))

pub front_size : (n : ℕ) (bytes out : List ℕ) → length bytes ≡ n → n ≤ length out → length (bytes ++ drop n out) ≡ length out
front_size n bytes out e room = omega (arith, length-append bytes (drop n out), length-drop n out, e, room)
