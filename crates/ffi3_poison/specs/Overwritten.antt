-- What holds while the bytes that carry nothing are overwritten: register by register, then the frame byte by byte.
use Rattle.std.specs.Prelude.{◌≡◌, ℕ, ◌+◌, ◌<◌, ◌≤◌, ◌⊎◌, true, false, take}
use Rattle.std.specs.List.{list_any}
use Rattle.ffi3_type_spec.specs.Signature.{Signature}
use Rattle.ffi3_place_spec.specs.declared.Loc.{Loc}
use Rattle.ffi3_place_spec.specs.declared.Loc.TheVariants.{S}
use Rattle.ffi3_place_spec.specs.Standard.{Standard, frame_of}
use Rattle.ffi3_machine_spec.specs.State.{State}
use Rattle.ffi3_machine_transfer.specs.Stored.{IsPlace, WroteOnly, WroteWithin, byte_of, stack_byte, word_in}
use Rattle.ffi3_poison.specs.Poison.{is_free, is_register}

-- a register's byte stays, or it is free and becomes `byte`
abbrev pub IsLeftOrFree : Standard → Signature → ℕ → ℕ → State → State → Loc → ℕ → Type 0
IsLeftOrFree std s base byte old new l k =
    (byte_of base new l k ≡ byte_of base old l k) ⊎ ((is_free std s l k ≡ true) × (byte_of base new l k ≡ byte))

-- what is true of every register while some are overwritten
pub record RegistersKeep (std : Standard) (s : Signature) (base byte : ℕ) (old new : State) : Type 0 where
  pub each : (l : Loc) (k : ℕ) → IsPlace 0 l → k < 8 → IsLeftOrFree std s base byte old new l k
  pub whole : (l : Loc) → IsPlace 0 l → ((k : ℕ) → k < 8 → is_free std s l k ≡ false)
      → word_in base new l ≡ word_in base old l
  pub sp : new.sp ≡ old.sp
  pub mark : new.mark ≡ old.mark
  pub within : WroteWithin base base old new

-- the free bytes of one register are overwritten
pub record IsRegisterDone (std : Standard) (s : Signature) (base byte : ℕ) (at : Loc) (old new : State) : Type 0 where
  pub free : (k : ℕ) → k < 8 → is_free std s at k ≡ true → byte_of base new at k ≡ byte
  pub keep : RegistersKeep std s base byte old new

-- those of the first argument registers are
pub record AreRegistersDone (std : Standard) (s : Signature) (base byte count : ℕ) (old new : State) : Type 0 where
  pub free : (l : Loc) (k : ℕ)
      → IsPlace 0 l → list_any (is_register l) (take count std.argument_registers) ≡ true → k < 8
      → is_free std s l k ≡ true
      → byte_of base new l k ≡ byte
  pub keep : RegistersKeep std s base byte old new

-- those of the first bytes of the frame are
pub record IsFrameDone (std : Standard) (s : Signature) (base byte count : ℕ) (old new : State) : Type 0 where
  pub free : (n : ℕ) → n < count → is_free std s (S n 1) 0 ≡ true → stack_byte new (base + n) ≡ byte
  pub kept : (n : ℕ) → is_free std s (S n 1) 0 ≡ false → stack_byte new (base + n) ≡ stack_byte old (base + n)
  pub only : WroteOnly base (base + frame_of std s) old new
  -- the mark falls to each lower byte of these that is free, and no further
  pub falls : (n : ℕ) → n < count → is_free std s (S n 1) 0 ≡ true → new.mark ≤ base + n
  pub no_higher : new.mark ≤ old.mark
  pub no_lower : (new.mark ≡ old.mark) ⊎ ((n : ℕ) × (is_free std s (S n 1) 0 ≡ true) × (new.mark ≡ base + n))
