-- The spots and names that the Rust ones stand for.
use Rattle.std.specs.Prelude.{ℕ, List, [], ◌∷◌, map, Option, Some, None}
use Rattle.ffi3_names_spec.specs.Scan as scan
use Rattle.ffi3_names.specs.declared.spot.Bracket.{Bracket}
use Rattle.ffi3_names.specs.declared.spot.Bracket.TheVariants as b
use Rattle.ffi3_names.specs.declared.spot.Spot.{Spot}
use Rattle.ffi3_names.specs.declared.spot.Spot.TheVariants as s
use Rattle.ffi3_names.specs.declared.names.Name.{Name}

abbrev pub bracket_of : Bracket → scan.Bracket
bracket_of b.Opens = scan.opens
bracket_of b.Closes = scan.closes
bracket_of b.Neither = scan.neither

abbrev pub spot_of : Spot → scan.Spot
spot_of (s.Base l) = scan.base l
spot_of (s.Words l) = scan.words l
spot_of (s.Tag l) = scan.tag l
spot_of (s.Tagged l) = scan.tagged l
spot_of (s.Members l n) = scan.members l n
spot_of (s.Declarator n) = scan.declarator n
spot_of (s.Behind n) = scan.behind n
spot_of s.Function = scan.function
spot_of s.Called = scan.called
spot_of s.Opened = scan.opened
spot_of s.SoleVoid = scan.sole_void
spot_of s.Over = scan.over

abbrev pub name_of : Name → List ℕ
name_of name = name.bytes.now

abbrev pub names_of : List Name → List (List ℕ)
names_of names = map name_of names

-- one name, or none
abbrev pub told_of : Option Name → List (List ℕ)
told_of None = []
told_of (Some name) = name_of name ∷ []
