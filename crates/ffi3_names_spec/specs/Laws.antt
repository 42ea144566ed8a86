-- What `name_laws` says: one list of names, one of each parameter, found in one pass.
use Rattle.std.specs.Prelude.{◌≡◌, ℕ, List, length}
use Rattle.ffi3_cdecl_spec.specs.Tokens.{wide, Sign, signed, unsigned}
use Rattle.ffi3_cdecl_spec.specs.Grammar.{Declaration}
use Rattle.ffi3_cdecl_spec.specs.Reading.{IsReadingIn, reads}
use Rattle.ffi3_names_spec.specs.Names.{AreNames}
use Rattle.ffi3_names_spec.specs.Scan.{names_in}

pub record NameLaws : Type 0 where
  -- one pass over the bytes of a text that is read as a prototype finds its names
  pub found_in_one_pass : (c : Sign) (text : List ℕ) (d : Declaration) → IsReadingIn wide c text (reads d)
      → AreNames c text d (names_in c text)
  -- and there is no other list
  pub one_list : (c : Sign) (text : List ℕ) (d : Declaration) (ns : List (List ℕ)) → AreNames c text d ns
      → ns ≡ names_in c text
  -- a name of each parameter
  pub one_of_each : (c : Sign) (text : List ℕ) (d : Declaration) (ns : List (List ℕ)) → AreNames c text d ns
      → length ns ≡ length d.signature.arguments
  -- the same whether `char` is signed or not
  pub by_either_sign : (text : List ℕ) → names_in signed text ≡ names_in unsigned text
