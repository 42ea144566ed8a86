-- Values in one buffer, argument after argument, each from a multiple of 8 on. (No standard has such a buffer: it is this library's.)
use Rattle.std.specs.Prelude.{◌≡◌, ℕ, ◌+◌, ◌<◌, ⊤, List, [], ◌∷◌, take, drop, get_or, length}
use Rattle.ffi3_type_spec.specs.Tree.{Tree}
use Rattle.ffi3_type_spec.specs.Layout.{size_of}
use Rattle.ffi3_type_spec.specs.Value.{ValueTree, IsPadding, value_in}
use Rattle.ffi3_place_spec.specs.Standard.{round8}

-- how many bytes they take
abbrev pub packed_size : List Tree → ℕ
packed_size [] = 0
packed_size (t ∷ ts) = round8 (size_of t) + packed_size ts

-- the bytes of the first, and those behind it
abbrev pub first_in : Tree → List ℕ → List ℕ
first_in t bytes = take (size_of t) bytes

abbrev pub behind : Tree → List ℕ → List ℕ
behind t bytes = drop (round8 (size_of t)) bytes

-- THE VALUES that a buffer has
abbrev pub values_packed : List Tree → List ℕ → List ValueTree
values_packed [] bytes = []
values_packed (t ∷ ts) bytes = value_in t (first_in t bytes) ∷ values_packed ts (behind t bytes)

-- what lies in no leaf is 0, inside a value and behind it up to where the next begins
abbrev pub HasZeroPadding : Tree → List ℕ → Type 0
HasZeroPadding t bytes = (i : ℕ) → i < round8 (size_of t) → IsPadding t i → get_or bytes i 0 ≡ 0

-- PADDING IS 0 in and between all values
abbrev pub HaveZeroPadding : List Tree → List ℕ → Type 0
HaveZeroPadding [] bytes = ⊤
HaveZeroPadding (t ∷ ts) bytes = HasZeroPadding t bytes × HaveZeroPadding ts (behind t bytes)

-- what lies in no leaf of the type is cleared, and the value stays
pub record IsCleared (t : Tree) (old new : List ℕ) : Type 0 where
  pub sized : length new ≡ length old
  pub clear : (i : ℕ) → i < length old → IsPadding t i → get_or new i 0 ≡ 0
  pub value : value_in t (first_in t new) ≡ value_in t (first_in t old)
