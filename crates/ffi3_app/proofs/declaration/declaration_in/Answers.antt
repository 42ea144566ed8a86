use Rattle.std.proofs.Common.{rules, ◌≤◌, ◌<◌, length, refl, subst}
use Rattle.ffi3_cdecl.specs.Tells.{Tells}
use Rattle.ffi3_cdecl_spec.specs.Reading.{IsReading}
use Rattle.std.specs.Prelude.{codes}
use Rattle.ffi3_semantics_spec.specs.Lines.{a_line}
use Rattle.ffi3_script_spec.specs.Reading.{max_length}
use Rattle.ffi3_app_spec.specs.Declarations.{too_many_bytes, not_utf8, IsReadPlainly}
use Rattle.ffi3_app_spec.specs.Outcome.{outcome_of_input}
use Rattle.ffi3_app.proofs.Working.{refused_input, refused_fault, read_is_writable}
use Rattle.ffi3_app.proofs.declaration.declaration_in.Goals as goal

pub returns-then-bytes-gt-MAX_LENGTH-clause-refused : goal.returns-then-bytes-gt-MAX_LENGTH-clause-refused
returns-then-bytes-gt-MAX_LENGTH-clause-refused c =
    let long : max_length < length c.args.bytes.now = search rules in
    refused_input IsReadPlainly outcome_of_input c.args.bytes.now too_many_bytes (a_line (codes "ffi3: input too long")) c.refused.result long (λ outcome. refl) (c.refused.ensures (a_line (codes "ffi3: input too long")) c.words.ensures)

pub returns-in_default-clause-refused : goal.returns-in_default-clause-refused
returns-in_default-clause-refused c =
    let short : length c.args.bytes.now ≤ max_length = search rules in
    refused_input IsReadPlainly outcome_of_input c.args.bytes.now not_utf8 (a_line (codes "ffi3: not UTF-8")) c.refused-in_default.result (short, c.in_default.ensures.cases.0) (λ outcome. refl) (c.refused-in_default.ensures (a_line (codes "ffi3: not UTF-8")) c.words-in_default.ensures)

pub returns-in-Ok-read_decl-clause-writable : goal.returns-in-Ok-read_decl-clause-writable
returns-in-Ok-read_decl-clause-writable c =
    read_is_writable c.in-Ok.text.now c.in-Ok-read_decl.declaration c.in-Ok-read_decl.ensures.ok

pub returns-in-Err-clause-refused : goal.returns-in-Err-clause-refused
returns-in-Err-clause-refused c =
    let short : length c.args.bytes.now ≤ max_length = search rules in
    refused_fault IsReadPlainly c.args.bytes.now c.in-Err.fault c.refusal.result short c.in-Ok.ensures.cases.1 (subst (λ b. Tells (IsReading b) c.in-Err.fault) c.in-Ok.ensures.cases.0 c.in-Err.ensures.err) c.refusal.ensures
