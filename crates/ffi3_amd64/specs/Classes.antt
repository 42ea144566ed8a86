-- The classes found for a value, as the definitions have them, and the register of one.
use Rattle.std.specs.Prelude.{ℕ, Bool, true, false, cond, List, [], ◌∷◌}
use Rattle.ffi3_place_spec.specs.declared.Loc.{Loc}
use Rattle.ffi3_place_spec.specs.declared.Loc.TheVariants.{G, F}
use Rattle.ffi3_amd64_spec.specs.declared.Class.{Class}
use Rattle.ffi3_amd64_spec.specs.declared.Class.TheVariants.{Integer, Sse}
use Rattle.ffi3_amd64.specs.declared.Classes.{Classes}
use Rattle.ffi3_amd64.specs.declared.Classes.TheVariants.{Memory, X87, Nothing, One, Two}

-- those of its eightbytes in registers, in a list
abbrev pub class_list : Classes → List Class
class_list Memory = []
class_list X87 = []
class_list Nothing = []
class_list (One first) = first ∷ []
class_list (Two first second) = first ∷ second ∷ []

-- whether the value has the class MEMORY
abbrev pub is_memory : Classes → Bool
is_memory Memory = true
is_memory X87 = false
is_memory Nothing = false
is_memory (One first) = false
is_memory (Two first second) = false

-- whether it has the classes X87 and X87UP, or COMPLEX_X87
abbrev pub is_x87 : Classes → Bool
is_x87 Memory = false
is_x87 X87 = true
is_x87 Nothing = false
is_x87 (One first) = false
is_x87 (Two first second) = false

-- whether it is passed in memory
abbrev pub is_in_memory : Classes → Bool
is_in_memory Memory = true
is_in_memory X87 = true
is_in_memory Nothing = false
is_in_memory (One first) = false
is_in_memory (Two first second) = false

-- 1 for a class of this kind, otherwise 0
abbrev pub one_if : (Class → Bool) → Class → ℕ
one_if p c = cond (p c) 1 0

-- the register of an eightbyte of a class, where g and f are the numbers of the next general and vector register
abbrev pub register_at : (ℕ → ℕ) → ℕ → ℕ → Class → Loc
register_at general g f Integer = G (general g)
register_at general g f Sse = F f
