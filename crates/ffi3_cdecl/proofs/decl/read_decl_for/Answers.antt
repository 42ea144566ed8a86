use Rattle.std.proofs.Common.{◌≡◌, ◌∙◌, ap, refl, sym}
use Rattle.ffi3_cdecl.specs.PassOf.{outcome_of}
use Rattle.ffi3_cdecl_spec.specs.Reading.{reads}
use Rattle.ffi3_cdecl_spec.specs.ReadingFor.{read_for}
use Rattle.ffi3_cdecl.specs.TokenOf.{sign_of}
use Rattle.ffi3_cdecl.proofs.Judging.{is_reading_for, read_is_placed}
use Rattle.ffi3_cdecl.proofs.decl.read_decl_for.Goals as goal

pub returns-in-Reads-clause-placed : goal.returns-in-Reads-clause-placed
returns-in-Reads-clause-placed c =
    let read : reads c.in-Reads.d ≡ read_for c.args.format (sign_of c.args.char_sign) c.args.text.now = sym (ap outcome_of c.in-Reads.is) ∙ c.in_ok-d.ensures in
    read_is_placed c.args.format (sign_of c.args.char_sign) c.args.text.now (reads c.in-Reads.d) (is_reading_for c.args.format (sign_of c.args.char_sign) c.args.text.now (reads c.in-Reads.d) read) c.in-Reads.d refl
