use Rattle.std.proofs.Common.{rules, ◌≤◌, ◌<◌, length, refl}
use Rattle.std.specs.Prelude.{codes}
use Rattle.std.proofs.lemmas.Result.{IfOk-weaker, IfErr-weaker}
use Rattle.ffi3_semantics_spec.specs.Lines.{a_line}
use Rattle.ffi3_script_spec.specs.Reading.{max_length}
use Rattle.ffi3_cdecl_spec.specs.Prototype.{read_as}
use Rattle.ffi3_cdecl_spec.specs.Reading.{reads}
use Rattle.ffi3_app_spec.specs.Declarations.{too_many_bytes, not_utf8, IsPrototypeEverywhere}
use Rattle.ffi3_app_spec.specs.Outcome.{outcome_of_prototype}
use Rattle.ffi3_app.proofs.Working.{refused_input, no_prototype, a_prototype, prototype_is_right}
use Rattle.ffi3_app.proofs.prototype.prototype_in.Goals as goal

pub returns-then-bytes-gt-MAX_LENGTH-clause-refused : goal.returns-then-bytes-gt-MAX_LENGTH-clause-refused
returns-then-bytes-gt-MAX_LENGTH-clause-refused c =
    let long : max_length < length c.args.bytes.now = search rules in
    refused_input IsPrototypeEverywhere (outcome_of_prototype c.args.bytes.now) c.args.bytes.now too_many_bytes (a_line (codes "ffi3: input too long")) c.refused.result long (λ outcome. refl) (c.refused.ensures (a_line (codes "ffi3: input too long")) c.words.ensures)

pub returns-in_default-clause-refused : goal.returns-in_default-clause-refused
returns-in_default-clause-refused c =
    let short : length c.args.bytes.now ≤ max_length = search rules in
    refused_input IsPrototypeEverywhere (outcome_of_prototype c.args.bytes.now) c.args.bytes.now not_utf8 (a_line (codes "ffi3: not UTF-8")) c.refused-in_default.result (short, c.in_default.ensures.cases.0) (λ outcome. refl) (c.refused-in_default.ensures (a_line (codes "ffi3: not UTF-8")) c.words-in_default.ensures)

pub returns-clause-read : goal.returns-clause-read
returns-clause-read c =
    let short : length c.args.bytes.now ≤ max_length = search rules in
    IfOk-weaker c.by_both_signs.result _ _ (λ d is. a_prototype c.args.bytes.now c.in-Ok.text.now (read_as (reads d)) short c.in-Ok.ensures.cases.1 c.in-Ok.ensures.cases.0 is) c.by_both_signs.ensures.read

pub returns-clause-placed : goal.returns-clause-placed
returns-clause-placed c =
    IfOk-weaker c.by_both_signs.result _ _ (λ d is. prototype_is_right c.in-Ok.text.now d is) c.by_both_signs.ensures.read

pub returns-clause-refused : goal.returns-clause-refused
returns-clause-refused c =
    let short : length c.args.bytes.now ≤ max_length = search rules in
    IfErr-weaker c.by_both_signs.result _ _ (λ e is. no_prototype c.args.bytes.now c.in-Ok.text.now e short c.in-Ok.ensures.cases.1 c.in-Ok.ensures.cases.0 is) c.by_both_signs.ensures.refused
