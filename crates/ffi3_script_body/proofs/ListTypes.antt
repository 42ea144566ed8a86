-- Types whose values are lists.
use Rattle.std.proofs.Common.{◌≡◌, Bool, true, false, List, Some, None, refl, ap, sym}
use Rattle.std.specs.Prelude.{if◌then◌else◌}
use Rattle.ffi3_type_spec.specs.Tree.{Tree, struct_of, elements_of, list_of-trees_of}
use Rattle.ffi3_script_spec.specs.Values.{is_list_type}
use Rattle.ffi3_script_body.specs.ListTypes.{element_types}

pub of_a_struct : (ts : List Tree) → Some ts ≡ element_types (struct_of ts)
of_a_struct ts = ap Some (sym (list_of-trees_of ts))

some_if : (b : Bool) (us ts : List Tree) → Some us ≡ (if b then Some ts else None) → (b ≡ true) × (us ≡ ts)
some_if true us ts h = (refl, cc)
some_if false us ts h = cc

none_if : (b : Bool) (ts : List Tree) → None ≡ (if b then Some ts else None) → b ≡ false
none_if true ts h = cc
none_if false ts h = refl

pub some_types : (t : Tree) (ts : List Tree) → Some ts ≡ element_types t → (is_list_type t ≡ true) × (ts ≡ elements_of t)
some_types t ts h = some_if (is_list_type t) ts (elements_of t) h

pub no_types : (t : Tree) → None ≡ element_types t → is_list_type t ≡ false
no_types t h = none_if (is_list_type t) (elements_of t) h
