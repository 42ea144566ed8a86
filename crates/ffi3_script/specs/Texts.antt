-- The list of names of things that all have one.
use Rattle.std.specs.Prelude.{ℕ, List, [], Option, map, unwrap_or}

abbrev pub texts_of : List (Option (List ℕ)) → List (List ℕ)
texts_of names = map (λ name. unwrap_or name []) names
