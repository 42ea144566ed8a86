-- The brackets round a declarator that the Rust ones stand for.
use Rattle.std.specs.Prelude.{zero, suc, Option, Some, None}
use Rattle.ffi3_cdecl_spec.specs.Machine as machine
use Rattle.ffi3_cdecl.specs.declared.round.Round.{Round}
use Rattle.ffi3_cdecl.specs.declared.round.Round.TheVariants.{Unstarred, Starred}

abbrev pub round_of : Round → machine.Round
round_of (Unstarred n) = machine.unstarred n
round_of (Starred n m) = machine.starred n m

-- the brackets behind a ")" that stands inside of the innermost star, if one was open there
abbrev pub bracket_closed : machine.Round → Option machine.Round
bracket_closed (machine.unstarred zero) = None
bracket_closed (machine.unstarred (suc n)) = Some (machine.unstarred n)
bracket_closed (machine.starred zero m) = None
bracket_closed (machine.starred (suc n) m) = Some (machine.starred n m)
