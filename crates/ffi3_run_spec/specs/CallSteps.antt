-- How many instructions a run's calls take, by what happens in it.
use Rattle.std.specs.Prelude.{◌≡◌, ℕ, suc, ◌+◌, List, [], ◌∷◌, refl}
use Rattle.ffi3_type_spec.specs.declared.Target.{Target}
use Rattle.ffi3_type_spec.specs.declared.Target.TheVariants.{Amd64, Aapcs64, Riscv, Win64, Apple}
use Rattle.ffi3_semantics_spec.specs.Trace.{TraceItem, Enter, Line, Leave, StopLine}

-- an entry: the stub Call, the trampoline, the stub Entry; where calls go by no stubs the trampoline alone
abbrev pub entry_steps : Target → ℕ
entry_steps Amd64 = 18 + 3 + 25
entry_steps Aapcs64 = 22 + 3 + 43
entry_steps Riscv = 21 + 3 + 47
entry_steps Win64 = 3
entry_steps Apple = 22 + 3 + 43

-- a return: the stubs Exit and Return
abbrev pub return_steps : Target → ℕ
return_steps Amd64 = 14 + 6
return_steps Aapcs64 = 31 + 9
return_steps Riscv = 34 + 7
return_steps Win64 = 0
return_steps Apple = 31 + 9

-- a call that has returned
abbrev pub call_steps : Target → ℕ
call_steps target = entry_steps target + return_steps target

pub call_steps_are :
    (call_steps Amd64 ≡ 66) × (call_steps Aapcs64 ≡ 108) × (call_steps Riscv ≡ 112) × (call_steps Win64 ≡ 3)
call_steps_are = (refl, refl, refl, refl)

-- one item: lines take none
abbrev pub steps_of_item : Target → TraceItem → ℕ
steps_of_item target (Enter ptr sig args) = entry_steps target
steps_of_item target (Line t v) = 0
steps_of_item target (Leave sig r) = return_steps target
steps_of_item target (StopLine stop) = 0

-- THE INSTRUCTIONS OF A TRACE: the sum over its items
abbrev pub steps_in : Target → List TraceItem → ℕ
steps_in target [] = 0
steps_in target (h ∷ later) = steps_of_item target h + steps_in target later

-- how many entries there are
abbrev pub entries_in : List TraceItem → ℕ
entries_in [] = 0
entries_in (Enter ptr sig args ∷ later) = suc (entries_in later)
entries_in (Line t v ∷ later) = entries_in later
entries_in (Leave sig r ∷ later) = entries_in later
entries_in (StopLine stop ∷ later) = entries_in later

-- and how many returns
abbrev pub returns_in : List TraceItem → ℕ
returns_in [] = 0
returns_in (Enter ptr sig args ∷ later) = returns_in later
returns_in (Line t v ∷ later) = returns_in later
returns_in (Leave sig r ∷ later) = suc (returns_in later)
returns_in (StopLine stop ∷ later) = returns_in later
