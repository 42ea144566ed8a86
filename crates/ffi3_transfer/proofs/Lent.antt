-- What the core asks of registers and stack that are lent to it.
use Rattle.std.specs.Prelude.{⊤}
use Rattle.std.proofs.Common.{◌≡◌, ℕ, ◌-◌, List, length, sym, subst}
use Rattle.std.specs.List.{AllByRecursion}
use Rattle.ffi3_place_spec.specs.declared.Loc.{Loc}
use Rattle.ffi3_place_spec.specs.declared.Loc.TheVariants.{G}
use Rattle.ffi3_place_spec.specs.declared.Piece.{Piece}
use Rattle.ffi3_place_spec.specs.declared.Res.{Res}
use Rattle.ffi3_place_spec.specs.declared.Res.TheVariants.{Hidden}
use Rattle.ffi3_place_spec.specs.Sound.{hidden_locs}
use Rattle.ffi3_place_spec.specs.Image.{Image}
use Rattle.ffi3_explain.specs.Places.{IsPieceRead}
use Rattle.ffi3_marshal.specs.Read.{HiddenLiesIn, IsPieceRead as IsRead}
use Rattle.ffi3_marshal.specs.Stored.{TakesAt}
use Rattle.ffi3_transfer.specs.Places.{IsPlace}
use Rattle.ffi3_marshal.proofs.Taking.{all_take}
use Rattle.ffi3_transfer.specs.declared.Registers.{Registers}
use Rattle.ffi3_transfer.specs.Stored.{floating_words, image_in}

-- no register drops a write
pub one_takes : (l : Loc) → TakesAt (λ k. ⊤) l
one_takes (G r) = tt
one_takes _ = tt

pub each_takes : (ls : List Loc) → AllByRecursion (TakesAt (λ k. ⊤)) ls
each_takes ls = all_take (λ k. ⊤) (λ k. tt) ls

pub is_read : (m : Image) (base : ℕ) (p : Piece) (old new : List ℕ) → IsRead base m p old new → IsPieceRead m base p old new
is_read m base p old new h = record { sized = h.sized; here = h.here; others = h.others }

-- what holds of the image that was lent holds of what is given back
pub gave_back : (P : Image → Type 0) (r s : Registers) (xs ys : List ℕ) → r ≡ s → xs ≡ ys → P (image_in s ys) → P (image_in r xs)
gave_back P r s xs ys registers stack h =
    subst (λ q. P (image_in q xs)) (sym registers) (subst (λ zs. P (image_in s zs)) (sym stack) h)

pub hidden_places : (base : ℕ) (m : Image) (res : Res) → HiddenLiesIn floating_words base m res → AllByRecursion (IsPlace (length m.stack - base)) (hidden_locs res)
hidden_places base m (Hidden at buffer) h = (h.0, tt)
hidden_places base m _ h = tt
