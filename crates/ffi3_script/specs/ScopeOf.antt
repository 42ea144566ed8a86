-- The scope and surroundings of a script that the Rust ones stand for.
use Rattle.std.specs.Prelude.{◌≡◌, ℕ, List, [], ◌∷◌, Option, length}
use Rattle.ffi3_type_spec.specs.Tree.{Tree}
use Rattle.ffi3_type_spec.specs.Signature.{Signature}
use Rattle.ffi3_script_spec.specs.Values as values
use Rattle.ffi3_script_spec.specs.Values.{Given}
use Rattle.ffi3_script_spec.specs.Bodies.{Surroundings}
use Rattle.ffi3_script.specs.declared.scope.Scope.{Scope}
use Rattle.ffi3_script.specs.declared.scope.Globals.{Globals}

-- names and types, one of each for each move
abbrev pub given_of : List (Option (List ℕ)) → List Tree → List Given
given_of [] types = []
given_of (name ∷ names) [] = []
given_of (name ∷ names) (t ∷ types) = record { name = name; type = t } ∷ given_of names types

abbrev pub given_in : Scope → List Given
given_in s = given_of s.names.now s.types.now

abbrev pub scope_of : Scope → values.Scope
scope_of s = record { version = s.version; arguments = s.own.now.arguments; given = given_of s.names.now s.types.now }

abbrev pub surroundings_of : Globals → Scope → Surroundings
surroundings_of g s =
    record { version = s.version; signatures = g.sigs.now; functions = g.functions.now; own = s.own.now }

-- the same in a body of this signature
abbrev pub surroundings_in : Globals → Signature → Surroundings
surroundings_in g own =
    record { version = g.version; signatures = g.sigs.now; functions = g.functions.now; own = own }

-- as many names as types
abbrev pub IsEven : Scope → Type 0
IsEven s = length s.names.now ≡ length s.types.now
