-- Places that are there.
use Rattle.std.proofs.Common.{◌≡◌, ℕ, ◌+◌, ◌-◌, ◌≤◌, subst, length, arith}
use Rattle.std.specs.List.{AllByRecursion}
use Rattle.ffi3_type_spec.specs.Signature.{Signature}
use Rattle.ffi3_place_spec.specs.declared.Loc.{Loc}
use Rattle.ffi3_place_spec.specs.declared.Loc.TheVariants.{S}
use Rattle.ffi3_place_spec.specs.declared.Res.{Res}
use Rattle.ffi3_place_spec.specs.declared.Res.TheVariants.{Hidden}
use Rattle.ffi3_place_spec.specs.Image.{Image}
use Rattle.ffi3_place_spec.specs.Standard.{Standard, plan_of}
use Rattle.ffi3_place_spec.specs.Sound.{IsSound, IsWhole, hidden_locs}
use Rattle.ffi3_explain_spec.specs.Arguments.{stack_end}
use Rattle.ffi3_transfer.specs.Places.{HasPlace, HiddenIsThere}
use Rattle.ffi3_transfer.proofs.Ready.{hidden_reached}
use Rattle.ffi3_transfer.specs.Places.{IsPlace}
use Rattle.ffi3_marshal.specs.Read.{HiddenLiesIn}
use Rattle.ffi3_transfer.specs.Stored.{floating_words}

-- a whole place that is there is one of the memory's
pub place_lies : (m : Image) (base : ℕ) (l : Loc) → base ≤ length m.stack → IsWhole l → HasPlace m base l → IsPlace (length m.stack - base) l
place_lies m base (S n w) low whole there = (omega (arith, there.0), omega (arith, whole), there.1)
place_lies m base _ low whole there = there

-- the place of a hidden result's address is there, where the stack reaches so far
pub hidden_there : (std : Standard) (s : Signature) → IsSound std s → (m : Image) (base : ℕ) (at : Loc) (buffer : ℕ) → (plan_of std s).res ≡ Hidden at buffer → base + stack_end (hidden_locs (plan_of std s).res) ≤ length m.stack → HasPlace m base at
hidden_there std s sound m base at buffer is room =
    (subst (λ r. AllByRecursion (HasPlace m base) (hidden_locs r)) is (hidden_reached std s sound m base room)).0

-- and so that of a hidden result's address lies there
pub hidden_lies : (m : Image) (base : ℕ) (res : Res) → base ≤ length m.stack → AllByRecursion IsWhole (hidden_locs res) → HiddenIsThere m base res → HiddenLiesIn floating_words base m res
hidden_lies m base (Hidden at buffer) low whole there = (place_lies m base at low whole.0 there.0, whole.0, there.1)
hidden_lies m base _ low whole there = tt
