-- How a run of main is traced.
use Rattle.std.specs.Prelude.{Bool, true, false}
use Rattle.ffi3_place_spec.specs.Scribble.{scribble}
use Rattle.ffi3_place_spec.specs.Standard.{Standard}
use Rattle.ffi3_semantics_spec.specs.Journal.{stack_top}
use Rattle.ffi3_semantics_spec.specs.Lines.{Tracing, untraced, traced}

-- not at all; or by its standard, from the top of the stack, where each caller leaves what `scribble` leaves
abbrev pub main_tracing : Bool → Standard → Tracing
main_tracing false std = untraced
main_tracing true std = traced std stack_top scribble
