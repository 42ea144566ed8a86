-- The entries of the calls that were open as a run began.
use Rattle.std.specs.Prelude.{◌≡◌, List, [], ◌∷◌}
use Rattle.ffi3_place_spec.specs.Event.{Event}
use Rattle.ffi3_small_step_spec.specs.Remainder.{Bottom, as_main, served}

-- that of the call that is served, and none where main runs
abbrev pub AreEntriesOf : Bottom → List Event → Type 0
AreEntriesOf as_main entries = entries ≡ []
AreEntriesOf (served sig) entries = (entry : Event) × (entries ≡ entry ∷ [])
