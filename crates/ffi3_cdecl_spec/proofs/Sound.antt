-- What is accepted is in the grammar.
use Rattle.std.proofs.Common.{List}
use Rattle.ffi3_cdecl_spec.specs.Tokens.{Dialect, plain, wide, Token}
use Rattle.ffi3_cdecl_spec.specs.Grammar.{Declaration, IsDeclarationIn}
use Rattle.ffi3_cdecl_spec.specs.Machine.{begun, Accepts}
use Rattle.ffi3_cdecl_spec.proofs.PlainSound.{plain_declaration_of}
use Rattle.ffi3_cdecl_spec.proofs.WideSound.{wide_declaration_of}

pub declaration_of : (r : Dialect) (d : Declaration) (xs : List Token) → Accepts r begun xs d → IsDeclarationIn r xs d
declaration_of plain d xs p = plain_declaration_of d xs p
declaration_of wide d xs p = wide_declaration_of d xs p
