-- A value that is packed on the stack: its pieces have all of it, rise, are filled, and are a chain of places.
use Rattle.std.proofs.Common.{◌≡◌, ℕ, zero, suc, ◌+◌, ◌-◌, ◌*◌, ◌/◌, ◌≤◌, min, true, false, refl, arith}
use Rattle.std.specs.List.{AllByRecursion}
use Rattle.ffi3_type_spec.specs.Tree.{Tree}
use Rattle.ffi3_type_spec.specs.Layout.{size_of}
use Rattle.ffi3_place_spec.specs.declared.Loc.{Loc}
use Rattle.ffi3_place_spec.specs.declared.Loc.TheVariants.{S}
use Rattle.ffi3_place_spec.specs.declared.Ext.TheVariants.{Free}
use Rattle.ffi3_place_spec.specs.declared.Taken.{Taken}
use Rattle.ffi3_place_spec.specs.Doublewords.{doublewords, doublewords_at}
use Rattle.ffi3_place_spec.specs.Standard.{Standard}
use Rattle.ffi3_place_spec.specs.Sound.{AreRising, HaveAll, IsFilled, piece_locs}
use Rattle.ffi3_place_spec.proofs.Chain.{Chain}
use Rattle.ffi3_place_spec.proofs.Doublewords.{ArePieces, doublewords_have_all}
use Rattle.ffi3_place_spec.proofs.Rising.{PlacesRise, stack_at, doublewords_rise}
use Rattle.ffi3_apple_spec.specs.Apple.{packed_pieces}

-- the place of doubleword j
abbrev pub packed_place : ℕ → ℕ → ℕ → Loc
packed_place first size j = S (first + 8 * j) (min 8 (size - 8 * j))

pub packed_have_all : (first : ℕ) (t : Tree) → HaveAll t (packed_pieces first t)
packed_have_all first t = doublewords_have_all (packed_place first (size_of t)) t Free are
  where
    are : ArePieces (packed_place first (size_of t)) t Free
    are j h = record { short = omega arith; within = omega arith; fits = omega arith; extended = tt }

pub packed_rise : (first : ℕ) (t : Tree) → AreRising (packed_pieces first t)
packed_rise first t =
    doublewords_rise (packed_place first (size_of t)) (size_of t) Free rise 0 (doublewords t)
  where
    rise : PlacesRise (packed_place first (size_of t))
    rise j k low v high w h at there =
        omega (arith, h, stack_at (first + 8 * j) (min 8 (size_of t - 8 * j)) low v at, stack_at (first + 8 * k) (min 8 (size_of t - 8 * k)) high w there)

-- no place has bytes that its piece does not fill
doublewords_packed : (std : Standard) (t : Tree) (first size j count : ℕ) → AllByRecursion (IsFilled std t) (doublewords_at (packed_place first size) size Free j count)
doublewords_packed std t first size j zero = tt
doublewords_packed std t first size j (suc count) =
    (record { narrow = λ narrow below. absurd (omega (arith, below)); single = λ floating four. absurd (no_register floating); narrow_place = λ _. refl }, doublewords_packed std t first size (j + 1) count)
  where
    no_register : false ≡ true → ⊥
    no_register e = cc

pub packed_filled : (std : Standard) (first : ℕ) (t : Tree) → AllByRecursion (IsFilled std t) (packed_pieces first t)
packed_filled std first t = doublewords_packed std t first (size_of t) 0 (doublewords t)

module _ (general floating : ℕ → ℕ) (generals floatings : ℕ) where
  doublewords_chain : (a : Taken) (first size j count : ℕ) (b : Taken) → a.stack ≤ first + 8 * j → a.stack ≤ b.stack → j + count ≤ (size + 7) / 8 → first + size ≤ b.stack → a.general ≤ b.general → a.vector ≤ b.vector → Chain general floating generals floatings a (piece_locs (doublewords_at (packed_place first size) size Free j count)) b
  doublewords_chain a first size j zero b low less few room g f =
      record { general = g; vector = f; stack = less }
  doublewords_chain a first size j (suc count) b low less few room g f =
      let mid : Taken = record { general = a.general; vector = a.vector; stack = first + 8 * j + min 8 (size - 8 * j) } in (
        mid,
        low,
        (omega arith, omega (arith, few), omega arith),
        record { general = omega arith; vector = omega arith; stack = omega (arith, low) },
        doublewords_chain mid first size (j + 1) count b (omega arith) (omega (arith, few, room)) (omega (arith, few)) room g f,
      )

  pub packed_chain : (a : Taken) (first : ℕ) (t : Tree) (b : Taken) → a.stack ≤ first → first + size_of t ≤ b.stack → a.general ≤ b.general → a.vector ≤ b.vector → Chain general floating generals floatings a (piece_locs (packed_pieces first t)) b
  packed_chain a first t b low room g f =
      doublewords_chain a first (size_of t) 0 (doublewords t) b (omega (arith, low)) (omega (arith, low, room)) (omega arith) room g f
