-- Which format a long double has in a call on the target with a number.
use Rattle.std.specs.Prelude.{ℕ, Option, Some, None, slice_get}
use Rattle.ffi3_type_spec.specs.declared.Target.{Target}
use Rattle.ffi3_format_spec.specs.declared.Format.{Format}
use Rattle.ffi3_format_spec.specs.declared.Format.TheVariants.{Double}
use Rattle.ffi3_format_spec.specs.Format.{format_of}
use Rattle.ffi3_capi.specs.Placed.{targets}

abbrev pub format_by : Option Target → Format
format_by (Some to) = format_of to
format_by None = Double

abbrev pub long_double_on : ℕ → Format
long_double_on target = format_by (slice_get targets target)
