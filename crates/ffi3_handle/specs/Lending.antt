-- What a handle keeps after a write through the reference that it lent.
use Rattle.std.specs.declared.option.Option.TheVariants.{Some}
use Rattle.std.specs.Borrow.{Lends, MutBor, Fml}
use Rattle.ffi3_handle.specs.declared.kept.Kept.{Kept}
use Rattle.ffi3_handle.specs.declared.Handle.{Handle}
use Rattle.ffi3_handle.specs.contracts.Handle.{the_row as handle_row}
use Rattle.ffi3_handle.specs.contracts.kept.Kept.{the_row as kept_row}

-- h with x in its block
abbrev pub with_kept : Handle → Kept → Handle
with_kept h x = record h { kept = Some x }

-- h ends with the last value behind r in its block
abbrev pub LendsKept : MutBor Handle → MutBor Kept → Fml
LendsKept h r = Lends handle_row kept_row h r (with_kept h.now)
