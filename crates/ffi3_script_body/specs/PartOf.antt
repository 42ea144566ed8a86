-- An element of an element of a value: the whole that it is a part of, and the way down to it.
use Rattle.std.specs.Prelude.{◌<◌, ⊤, length}
use Rattle.ffi3_type_spec.specs.Value.{ValueTree, elements_of, list_of_values}
use Rattle.ffi3_script_spec.specs.Script.{Expression, element}
use Rattle.ffi3_script_spec.specs.Meaning.{element_value}

-- the expression of whose value this is a part: itself where it is no element
abbrev pub whole_of : Expression → Expression
whole_of (element e i) = whole_of e
whole_of e = e

-- the part of a whole that an expression is
abbrev pub part_of : Expression → ValueTree → ValueTree
part_of (element e i) whole = element_value (part_of e whole) i
part_of _ whole = whole

-- each element on the way down is there
abbrev pub IsPart : Expression → ValueTree → Type 0
IsPart (element e i) whole =
    IsPart e whole × (i < length (list_of_values (elements_of (part_of e whole))))
IsPart _ whole = ⊤
