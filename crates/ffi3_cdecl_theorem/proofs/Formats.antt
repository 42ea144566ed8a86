-- Each text has one reading with each format, and one with all.
use Rattle.std.proofs.Common.{refl}
use Rattle.ffi3_cdecl_spec.specs.ReadingFor.{read_for, read_everywhere}
use Rattle.ffi3_cdecl.proofs.Judging.{is_reading_for, one_reading_for, is_reading_everywhere, one_reading_everywhere}
use Rattle.ffi3_cdecl_theorem.specs.Laws.{FormatLaws}

pub format_laws : FormatLaws
format_laws = record {
  reading_for = λ f c text. is_reading_for f c text (read_for f c text) refl;
  one_reading_for = one_reading_for;
  reading_everywhere = λ c text. is_reading_everywhere c text (read_everywhere c text) refl;
  one_reading_everywhere = one_reading_everywhere;
}
