-- The types of the elements of a struct or an array, for values of scripts.
use Rattle.std.specs.Prelude.{List, Option, Some, None, if◌then◌else◌}
use Rattle.ffi3_type_spec.specs.Tree.{Tree, elements_of}
use Rattle.ffi3_script_spec.specs.Values.{is_list_type}

-- those of the elements of a type whose values are lists
abbrev pub element_types : Tree → Option (List Tree)
element_types t = if is_list_type t then Some (elements_of t) else None
