-- What an array of the caller holds once items were written into it.
use Rattle.std.specs.Prelude.{ℕ, Bool, true, false, cond, List, [], ◌∷◌, ◌++◌, length, drop, nat_le}
use Rattle.ffi3_capi.specs.declared.codes.TheConstants.{DONE, TOO_SMALL}

-- all of the items have room
abbrev pub has_room : {A : Type 0} → List A → List A → Bool
has_room items old = nat_le (length items) (length old)

-- the items in front, or nothing of them where they have no room
abbrev pub filled : {A : Type 0} → List A → List A → List A
filled items old = cond (has_room items old) (items ++ drop (length items) old) old

abbrev pub room_status : Bool → ℕ
room_status true = DONE
room_status false = TOO_SMALL

-- a text with its terminating NUL
abbrev pub with_end : List ℕ → List ℕ
with_end text = text ++ 0 ∷ []
