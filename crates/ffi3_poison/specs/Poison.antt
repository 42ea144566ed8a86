-- Which bytes of a call's places carry something, and the machine once all others are overwritten. What these hold is free. (System V psABI AMD64, "Parameter Passing"; Arm AAPCS64, "Parameter passing"; RISC-V ELF psABI, "Integer Calling Convention")
use Rattle.std.specs.Prelude.{◌≡◌, ℕ, ◌+◌, ◌-◌, ◌<◌, ◌≤◌, ◌⊎◌, ◌==◌, nat_lt, if◌then◌else◌, Bool, true, false, not}
use Rattle.std.specs.Prelude.{◌&&◌, ◌||◌, List, ◌∷◌, Option, Some, None}
use Rattle.std.specs.List.{AllByRecursion, list_any}
use Rattle.ffi3_type_spec.specs.Tree.{Tree}
use Rattle.ffi3_type_spec.specs.Layout.{Leaf, leaves_of, scalar_size}
use Rattle.ffi3_type_spec.specs.Signature.{Signature}
use Rattle.ffi3_place_spec.specs.declared.Loc.{Loc}
use Rattle.ffi3_place_spec.specs.declared.Loc.TheVariants.{G, F, S}
use Rattle.ffi3_place_spec.specs.declared.Piece.{Piece}
use Rattle.ffi3_place_spec.specs.declared.Place.{Place}
use Rattle.ffi3_place_spec.specs.declared.Place.TheVariants.{Direct, ByRef}
use Rattle.ffi3_place_spec.specs.declared.Res.{Res}
use Rattle.ffi3_place_spec.specs.declared.Res.TheVariants.{Nothing, Direct as DirectRes, Hidden}
use Rattle.ffi3_place_spec.specs.Standard.{Standard, frame_of, plan_of}
use Rattle.ffi3_place_spec.specs.Sound.{closed_to_arguments}
use Rattle.ffi3_machine_spec.specs.State.{State}
use Rattle.ffi3_machine_transfer.specs.Stored.{IsPlace, WroteWithin, byte_of, stack_byte, word_in}

-- ---- a byte of a place: byte k of a register, or of the stack from an offset of the frame on

-- which byte of the second place byte k of the first is, if it is one
abbrev pub byte_number : Loc → ℕ → Loc → Option ℕ
byte_number (G a) k (G b) = if a == b then Some k else None
byte_number (F a) k (F b) = if a == b then Some k else None
byte_number (S a v) k (S b w) = if nat_lt (a + k) b then None else Some (a + k - b)
byte_number _ k _ = None

-- there is a number, and it passes
abbrev pub passes : (ℕ → Bool) → Option ℕ → Bool
passes test (Some n) = test n
passes test None = false

-- the leaf has the byte at offset o
abbrev pub leaf_has : ℕ → Leaf → Bool
leaf_has o l = not (nat_lt o l.at) && nat_lt o (l.at + scalar_size l.kind)

-- a leaf of the type has the byte at offset o; all others are padding
abbrev pub is_leaf_byte : Tree → ℕ → Bool
is_leaf_byte t o = list_any (leaf_has o) (leaves_of t)

-- ---- what carries something

-- byte k of the place is a leaf's, by way of the piece
abbrev pub piece_has : Tree → Loc → ℕ → Piece → Bool
piece_has t l k p =
    passes (λ j. nat_lt j p.len && is_leaf_byte t (p.off + j)) (byte_number l k p.loc)

-- it is of an address at `at`
abbrev pub address_has : Loc → ℕ → Loc → Bool
address_has l k at = passes (λ j. nat_lt j 8) (byte_number l k at)

-- it is a leaf's of a copy that begins so many bytes from the frame's start
abbrev pub copy_has : Tree → Loc → ℕ → ℕ → Bool
copy_has t l k copy = passes (is_leaf_byte t) (byte_number l k (S copy 8))

abbrev pub place_has : Tree → Loc → ℕ → Place → Bool
place_has t l k (Direct pieces) = list_any (piece_has t l k) pieces
place_has t l k (ByRef at copy) = address_has l k at || copy_has t l k copy

abbrev pub places_have : Loc → ℕ → List Tree → List Place → Bool
places_have l k (t ∷ ts) (p ∷ ps) = place_has t l k p || places_have l k ts ps
places_have l k _ _ = false

abbrev pub hidden_has : Loc → ℕ → Res → Bool
hidden_has l k (Hidden at buffer) = address_has l k at
hidden_has l k Nothing = false
hidden_has l k (DirectRes pieces) = false

-- BYTE k OF THE PLACE CARRIES SOMETHING: it is a leaf's of an argument, or of the address of a copy or of a hidden result
abbrev pub carries : Standard → Signature → Loc → ℕ → Bool
carries std s l k =
    hidden_has l k (plan_of std s).res || places_have l k s.arguments (plan_of std s).places

-- ---- what belongs to a call

abbrev pub is_register : Loc → Loc → Bool
is_register (G a) (G b) = a == b
is_register (F a) (F b) = a == b
is_register _ _ = false

-- arguments, or the address of a hidden result, are passed in the register
abbrev pub is_argument_register : Standard → Loc → Bool
is_argument_register std l = list_any (is_register l) std.argument_registers

-- the byte is of such a register or of the frame
abbrev pub belongs : Standard → Signature → Loc → ℕ → Bool
belongs std s (G r) k = is_argument_register std (G r)
belongs std s (F r) k = is_argument_register std (F r)
belongs std s (S n w) k = nat_lt (n + k) (frame_of std s)

-- it is, and carries nothing
abbrev pub is_free : Standard → Signature → Loc → ℕ → Bool
is_free std s l k = belongs std s l k && not (carries std s l k)

-- ---- the machine after

-- the mark falls to each lower stack address that is written, of these bytes of the frame at `base`
pub record MarkFalls (written : ℕ → Bool) (base old new : ℕ) : Type 0 where
  pub falls : (n : ℕ) → written n ≡ true → new ≤ base + n
  pub no_higher : new ≤ old
  pub no_lower : (new ≡ old) ⊎ ((n : ℕ) × (written n ≡ true) × (new ≡ base + n))

-- EACH FREE BYTE BECOMES `byte`, AND ALL ELSE STAYS. The frame begins at `base`.
pub record IsPoisoned (std : Standard) (s : Signature) (base byte : ℕ) (old new : State) : Type 0 where
  pub register_free : (l : Loc) (k : ℕ) → IsPlace 0 l → k < 8 → is_free std s l k ≡ true → byte_of base new l k ≡ byte
  pub register_kept : (l : Loc) (k : ℕ) → IsPlace 0 l → k < 8 → is_free std s l k ≡ false
      → byte_of base new l k ≡ byte_of base old l k
  pub frame_free : (n : ℕ) → is_free std s (S n 1) 0 ≡ true → stack_byte new (base + n) ≡ byte
  pub frame_kept : (n : ℕ) → is_free std s (S n 1) 0 ≡ false → stack_byte new (base + n) ≡ stack_byte old (base + n)
  -- a register without a free byte, whole; those that are no argument registers are among them, and so those that are closed to arguments
  pub whole : (l : Loc) → IsPlace 0 l → ((k : ℕ) → k < 8 → is_free std s l k ≡ false)
      → word_in base new l ≡ word_in base old l
  pub others : (l : Loc) → IsPlace 0 l → is_argument_register std l ≡ false → word_in base new l ≡ word_in base old l
  pub closed : AllByRecursion (λ l. word_in base new l ≡ word_in base old l) (closed_to_arguments std)
  pub sp : new.sp ≡ old.sp
  -- of the stack the frame alone, and nothing of pc, code, journal and target
  pub within : WroteWithin base (base + frame_of std s) old new
  pub mark : MarkFalls (λ n. is_free std s (S n 1) 0) base old.mark new.mark
