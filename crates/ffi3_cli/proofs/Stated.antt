-- Stated words are taken, and read as what they state.
use Rattle.std.proofs.Common.{◌≡◌, true, false, List, [], ◌∷◌, codes, Some, inl, inr, refl, sym, subst}
use Rattle.clap.specs.Words.{Text, fault_of, subcommand_of}
use Rattle.clap.proofs.OnLiterals.{clap_on_literals}
use Rattle.ffi3_type_spec.specs.declared.Target.{Target}
use Rattle.ffi3_type_spec.specs.declared.Target.TheVariants.{Amd64, Aapcs64, Riscv, Win64, Apple}
use Rattle.ffi3_cli_spec.specs.declared.words.InputCommand.{InputCommand}
use Rattle.ffi3_cli_spec.specs.declared.words.InputCommand.TheVariants.{Layout, Place, Run, Cdecl, Cplace, Explain, Arguments}
use Rattle.ffi3_cli_spec.specs.declared.words.Request.{Request}
use Rattle.ffi3_cli_spec.specs.declared.words.Request.TheVariants.{OnInput, Bench}
use Rattle.ffi3_cli_spec.specs.WordCommands.{Addresses, asked, program}
use Rattle.ffi3_cli.proofs.BenchWords.{calls_first, seed_first}
use Rattle.ffi3_cli_spec.specs.Words.{IsStated, StatesAfterName, StatesCommand, Takes, target_word}

module _ (at at' : Addresses) (name : Text) where
  -- clap takes the words after the name, and reads them as this
  abbrev pub Reads : List Text → Request → Type 0
  Reads rest r =
      (fault_of (program at at') (name ∷ rest) ≡ []) × (asked (subcommand_of (program at at') (name ∷ rest)) ≡ Some r)

  -- the words of each command with a target
  with_target : (t : Target) → Reads (codes "place" ∷ codes "--target" ∷ target_word t ∷ []) (OnInput (Place t)) × Reads (codes "run" ∷ codes "--target" ∷ target_word t ∷ []) (OnInput (Run t false)) × Reads (codes "run" ∷ codes "--trace" ∷ codes "--target" ∷ target_word t ∷ []) (OnInput (Run t true)) × Reads (codes "run" ∷ codes "--target" ∷ target_word t ∷ codes "--trace" ∷ []) (OnInput (Run t true))
  unfolding clap_on_literals
  with_target Amd64 = ((refl, refl), (refl, refl), (refl, refl), (refl, refl))
  with_target Aapcs64 = ((refl, refl), (refl, refl), (refl, refl), (refl, refl))
  with_target Riscv = ((refl, refl), (refl, refl), (refl, refl), (refl, refl))
  with_target Win64 = ((refl, refl), (refl, refl), (refl, refl), (refl, refl))
  with_target Apple = ((refl, refl), (refl, refl), (refl, refl), (refl, refl))

  read_as : (rest ws : List Text) (command : InputCommand) → rest ≡ ws → Reads ws (OnInput command) → Reads rest (OnInput command)
  read_as rest ws command is reads = subst (λ ws. Reads ws (OnInput command)) (sym is) reads

  states_command : (rest : List Text) (command : InputCommand) → StatesCommand rest command → Reads rest (OnInput command)
  unfolding clap_on_literals
  states_command rest Layout is = read_as rest _ Layout is (refl, refl)
  states_command rest Cdecl is = read_as rest _ Cdecl is (refl, refl)
  states_command rest Cplace is = read_as rest _ Cplace is (refl, refl)
  states_command rest Explain is = read_as rest _ Explain is (refl, refl)
  states_command rest Arguments is = read_as rest _ Arguments is (refl, refl)
  states_command rest (Place t) is = read_as rest _ (Place t) is (with_target t).0
  states_command rest (Run t false) is = read_as rest _ (Run t false) is (with_target t).1
  states_command rest (Run t true) (inl is) = read_as rest _ (Run t true) is (with_target t).2
  states_command rest (Run t true) (inr is) = read_as rest _ (Run t true) is (with_target t).3

  states : (rest : List Text) (r : Request) → StatesAfterName rest r → Reads rest r
  states rest (OnInput command) is = states_command rest command is
  states rest (Bench seed calls) (few, some, not_many, inl is) =
      subst (λ ws. Reads ws (Bench seed calls)) (sym is) (seed_first at at' name seed calls few some not_many)
  states rest (Bench seed calls) (few, some, not_many, inr is) =
      subst (λ ws. Reads ws (Bench seed calls)) (sym is) (calls_first at at' name seed calls few some not_many)

-- STATED WORDS ARE TAKEN, and read as what they state
pub stated_is_read : (at at' : Addresses) (words : List Text) (r : Request) → IsStated words r → (fault_of (program at at') words ≡ []) × (asked (subcommand_of (program at at') words) ≡ Some r)
stated_is_read at at' [] r stated = absurd stated
stated_is_read at at' (name ∷ rest) r stated = states at at' name rest r stated

pub stated_is_taken : (words : List Text) (r : Request) → IsStated words r → Takes words r
stated_is_taken words r stated =
    record {
      passes = λ at at'. (stated_is_read at at' words r stated).0;
      means = λ at at'. (stated_is_read at at' words r stated).1;
    }
