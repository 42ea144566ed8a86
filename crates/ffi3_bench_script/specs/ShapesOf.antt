-- The types that are drawn.
use Rattle.std.specs.Prelude.{List, [], ◌∷◌}
use Rattle.ffi3_type_spec.specs.Tree.{Tree}
use Rattle.ffi3_bench_script.specs.KindOf.{types_of}
use Rattle.ffi3_bench_script.specs.declared.shapes.Shapes.{Shapes}

-- the argument types of the four functions, but the last of each
abbrev pub types_in : Shapes → List (List Tree)
types_in s =
    types_of s.first.items ∷ types_of s.second.items ∷ types_of s.third.items ∷ types_of s.fourth.items ∷ []
