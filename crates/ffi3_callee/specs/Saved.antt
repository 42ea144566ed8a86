-- The words of a save area: what each is to hold, and what is given back from it.
use Rattle.std.specs.Prelude.{◌≡◌, ℕ, suc, ◌+◌, ◌*◌, ◌<◌, ⊤, List, [], ◌∷◌, get_or, length, Option, Some, None}
use Rattle.std.specs.Int.{w64, to_le_bytes}
use Rattle.ffi3_type_spec.specs.declared.Target.{Target}
use Rattle.ffi3_type_spec.specs.declared.limits.TheConstants.{STACK_TOP}
use Rattle.ffi3_place_spec.specs.declared.Loc.{Loc}
use Rattle.ffi3_place_spec.specs.declared.Loc.TheVariants.{G, F, S}
use Rattle.ffi3_place_spec.specs.declared.SaveWord.{SaveWord}
use Rattle.ffi3_place_spec.specs.declared.SaveWord.TheVariants.{Register, Hidden, Spare}
use Rattle.ffi3_machine_spec.specs.State.{State, stored, with_floating, with_general}
use Rattle.ffi3_machine_transfer.specs.Stored.{IsPlace, IsWritable, word_in}

-- word i of those that stand one behind the other from an address on
abbrev pub saved_word : ℕ → ℕ → State → ℕ
saved_word from i m = word_in from m (S (8 * i) 8)

abbrev pub HiddenLies : ℕ → Option Loc → Type 0
HiddenLies room (Some at) = IsPlace room at
HiddenLies room None = ⊤

abbrev pub hidden_word : ℕ → State → Option Loc → ℕ
hidden_word base m (Some at) = word_in base m at
hidden_word base m None = 0

-- a register that is saved is one of the machine's
abbrev pub IsSaveable : ℕ → SaveWord → Type 0
IsSaveable room (Register at) = IsPlace room at
IsSaveable room Hidden = ⊤
IsSaveable room Spare = ⊤

-- what is stored in a word
abbrev pub word_to_save : ℕ → State → Option Loc → SaveWord → ℕ
word_to_save base m hidden (Register at) = word_in base m at
word_to_save base m hidden Hidden = hidden_word base m hidden
word_to_save base m hidden Spare = 0

-- where there is a hidden result, the number is its address: else any
abbrev pub IsHiddenWord : ℕ → State → Option Loc → ℕ → Type 0
IsHiddenWord base m (Some at) n = n ≡ word_in base m at
IsHiddenWord base m None n = ⊤

-- what a word is to hold: a register's value, or a hidden result's address. A spare word may hold any.
abbrev pub IsToSave : ℕ → State → Option Loc → SaveWord → ℕ → Type 0
IsToSave base m hidden (Register at) n = n ≡ word_in base m at
IsToSave base m hidden Hidden n = IsHiddenWord base m hidden n
IsToSave base m hidden Spare n = ⊤

-- EACH WORD HOLDS WHAT IT IS TO HOLD of the machine `entry`
abbrev pub AreSaved : ℕ → ℕ → Option Loc → List SaveWord → State → State → Type 0
AreSaved from base hidden words entry m =
    (i : ℕ) (w : SaveWord) → i < length words → w ≡ get_or words i w
    → IsToSave base entry hidden w (saved_word from i m)

-- a register that is given back is a register, and writes to it are not dropped
abbrev pub IsRestorable : Target → SaveWord → Type 0
IsRestorable target (Register at) = IsPlace 0 at × IsWritable target at
IsRestorable target Hidden = ⊤
IsRestorable target Spare = ⊤

-- the words of registers hold these values
abbrev pub HoldRegisters : ℕ → List SaveWord → (Loc → ℕ) → State → Type 0
HoldRegisters from words value m =
    (i : ℕ) (at : Loc) → i < length words → Register at ≡ get_or words i (Register at) → saved_word from i m ≡ value at

-- EACH REGISTER OF THE WORDS HAS ITS VALUE, where the words hold these values. A register may stand there twice.
abbrev pub AreGivenBack : ℕ → List SaveWord → (Loc → ℕ) → State → State → Type 0
AreGivenBack from words value old new =
    HoldRegisters from words value old → (i : ℕ) (at : Loc) → i < length words
    → Register at ≡ get_or words i (Register at)
    → word_in STACK_TOP new at ≡ value at

-- EACH REGISTER OF THE WORDS HAS WHAT IT HAD in the machine `entry`
abbrev pub HaveRegisters : List SaveWord → ℕ → State → State → Type 0
HaveRegisters words base entry m =
    (i : ℕ) (at : Loc) → i < length words → Register at ≡ get_or words i (Register at)
    → word_in STACK_TOP m at ≡ word_in base entry at

-- ---- the machine itself, where no stub saves and loads

-- the words are stored one behind the other, word i first, where word 0 stands at an address
abbrev pub with_saved : ℕ → ℕ → Option Loc → ℕ → List SaveWord → State → State
with_saved from base hidden i [] s = s
with_saved from base hidden i (w ∷ ws) s =
    with_saved from base hidden (suc i) ws (stored (from + 8 * i) (to_le_bytes w64 (word_to_save base s hidden w)) s)

abbrev pub with_register : Loc → ℕ → State → State
with_register (G k) value s = with_general k value s
with_register (F k) value s = with_floating k value s
with_register (S n w) value s = s

-- a register gets what its word holds
abbrev pub with_word : SaveWord → ℕ → State → State
with_word (Register at) value s = with_register at value s
with_word Hidden value s = s
with_word Spare value s = s

-- the registers of the words get what these hold, that of word i first
abbrev pub with_given_back : ℕ → ℕ → List SaveWord → State → State
with_given_back from i [] s = s
with_given_back from i (w ∷ ws) s = with_given_back from (suc i) ws (with_word w (saved_word from i s) s)
