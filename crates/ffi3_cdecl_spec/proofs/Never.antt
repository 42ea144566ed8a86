-- Nothing is accepted from the dead state.
use Rattle.std.proofs.Common.{◌≡◌, List, [], ◌∷◌, Some, None}
use Rattle.ffi3_cdecl_spec.specs.Tokens.{Dialect, Token}
use Rattle.ffi3_cdecl_spec.specs.Grammar.{Declaration}
use Rattle.ffi3_cdecl_spec.specs.Machine.{dead, Accepts}

pub none_some : {d : Declaration} → None ≡ Some d → ⊥
none_some e = cc

pub never : (r : Dialect) (d : Declaration) (ts : List Token) → Accepts r dead ts d → ⊥
never r d [] h = none_some h
never r d (x ∷ xs) h = never r d xs h
