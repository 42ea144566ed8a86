use Rattle.ffi3_cdecl.specs.TokenOf.{sign_of}
use Rattle.ffi3_names.specs.NamesOf.{names_of}
use Rattle.ffi3_names.proofs.Turns.{are_named}
use Rattle.ffi3_names.proofs.names.names_in.Goals as goal

pub returns-clause-named : goal.returns-clause-named
returns-clause-named c =
    are_named (sign_of c.args.char_sign) c.args.text.now (names_of c.in_ok-names.names.items) c.in_ok-names.ensures
