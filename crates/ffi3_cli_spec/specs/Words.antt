-- The words that ask for something, and those that clap takes and refuses.
use Rattle.std.specs.Prelude.{◌≡◌, ◌⊎◌, ◌<◌, ◌≤◌, ◌^◌, true, false, List, [], ◌∷◌, codes, decimal, Some}
use Rattle.clap.specs.Words.{Text, fault_of, subcommand_of}
use Rattle.ffi3_type_spec.specs.declared.limits.TheConstants.{MOST_CALLS}
use Rattle.ffi3_type_spec.specs.declared.Target.{Target}
use Rattle.ffi3_type_spec.specs.declared.Target.TheVariants.{Amd64, Aapcs64, Riscv, Win64, Apple}
use Rattle.ffi3_cli_spec.specs.declared.words.InputCommand.{InputCommand}
use Rattle.ffi3_cli_spec.specs.declared.words.InputCommand.TheVariants.{Layout, Place, Run, Cdecl, Cplace, Explain, Arguments}
use Rattle.ffi3_cli_spec.specs.declared.words.Request.{Request}
use Rattle.ffi3_cli_spec.specs.declared.words.Request.TheVariants.{OnInput, Bench}
use Rattle.ffi3_cli_spec.specs.WordCommands.{Addresses, LacksNumbers, program, asked}

abbrev pub target_word : Target → Text
target_word Amd64 = codes "amd64"
target_word Aapcs64 = codes "aapcs64"
target_word Riscv = codes "riscv"
target_word Win64 = codes "win64"
target_word Apple = codes "apple"

-- the words after the program's name ask for this command
abbrev pub StatesCommand : List Text → InputCommand → Type 0
StatesCommand rest Layout = rest ≡ codes "layout" ∷ []
StatesCommand rest (Place t) = rest ≡ codes "place" ∷ codes "--target" ∷ target_word t ∷ []
StatesCommand rest (Run t false) = rest ≡ codes "run" ∷ codes "--target" ∷ target_word t ∷ []
StatesCommand rest (Run t true) =
    (rest ≡ codes "run" ∷ codes "--trace" ∷ codes "--target" ∷ target_word t ∷ [])
    ⊎ (rest ≡ codes "run" ∷ codes "--target" ∷ target_word t ∷ codes "--trace" ∷ [])
StatesCommand rest Cdecl = rest ≡ codes "cdecl" ∷ []
StatesCommand rest Cplace = rest ≡ codes "cplace" ∷ []
StatesCommand rest Explain = rest ≡ codes "explain" ∷ []
StatesCommand rest Arguments = rest ≡ codes "arguments" ∷ []

-- the words after the program's name ask for this
abbrev pub StatesAfterName : List Text → Request → Type 0
StatesAfterName rest (OnInput command) = StatesCommand rest command
StatesAfterName rest (Bench seed calls) =
    (seed < 2 ^ 32)
    × (1 ≤ calls)
    × (calls ≤ MOST_CALLS)
    × ((rest ≡ codes "bench" ∷ codes "--seed" ∷ decimal seed ∷ codes "--calls" ∷ decimal calls ∷ [])
    ⊎ (rest ≡ codes "bench" ∷ codes "--calls" ∷ decimal calls ∷ codes "--seed" ∷ decimal seed ∷ []))

-- THE STATED WORDS of what is asked for: the program's name, and then `layout`, `place --target T`, `run --target T`, where `--trace` stands before the target or after it, `cdecl`, `cplace`, `explain`, `arguments`, or `bench --seed N --calls M` in either order, N below 2 to the 32, M from 1 to 1000
abbrev pub IsStated : List Text → Request → Type 0
IsStated [] r = ⊥
IsStated (name ∷ rest) r = StatesAfterName rest r

-- CLAP TAKES the words, for want of memory at most refuses them, and reads them as this, wherever the program's texts lie
pub record Takes (words : List Text) (r : Request) : Type 0 where
  pub passes : (placing running : Addresses) → fault_of (program placing running) words ≡ []
  pub means : (placing running : Addresses) → asked (subcommand_of (program placing running) words) ≡ Some r

-- CLAP REFUSES the words for another cause than memory, wherever the program's texts lie; a request for help or the version counts
pub record IsRefusedByClap (words : List Text) : Type 0 where
  pub fails : (placing running : Addresses) → fault_of (program placing running) words ≡ [] → ⊥

-- clap takes the words for `bench`, wherever the program's texts lie, with values that are no seed and number of calls
pub record IsRefusedForNumbers (words : List Text) : Type 0 where
  pub passes : (placing running : Addresses) → fault_of (program placing running) words ≡ []
  pub lacks : (placing running : Addresses) → LacksNumbers (subcommand_of (program placing running) words)

-- THE WORDS ARE REFUSED, by clap or for the numbers of `bench`
abbrev pub IsRefused : List Text → Type 0
IsRefused words = IsRefusedByClap words ⊎ IsRefusedForNumbers words
