use Rattle.std.proofs.Common.{[], ◌∷◌, sym, subst, ◌∙◌}
use Rattle.ffi3_types.specs.TreeOf.{tree_of}
use Rattle.ffi3_cdecl_spec.specs.Tokens.{name, open_round, semicolon}
use Rattle.ffi3_cdecl_spec.specs.Canonical.{parameter_tokens}
use Rattle.ffi3_cdecl_spec.specs.Reading.{IsReading, reads}
use Rattle.ffi3_cdecl_spec.proofs.SpokenTexts.{text_reads}
use Rattle.ffi3_cdecl.proofs.Writing.{all_written, declaration_is}
use Rattle.ffi3_cdecl.proofs.text.decl_text.Goals as goal

pub returns-clause-text : goal.returns-clause-text
returns-clause-text c =
    let end = parameter_tokens c.args-2.result.now c.is_some.result (semicolon ∷ []) in
    sym (all_written c.put.new.self) ∙ c.in_ok-put.ensures [] ∙ c.in_ok-put_parameters.ensures (semicolon ∷ []) ∙ c.in_ok-put_two.ensures end ∙ c.in_ok-put_type.ensures (name c.args.name.now ∷ open_round ∷ end) ∙ declaration_is c.new.result c.args.name.now c.args.sig.now (tree_of c.ret.result.now) c.args-2.result.now c.is_some.result c.fixed.result c.new.ensures c.ret.ensures c.args-2.ensures c.is_some.ensures c.fixed.ensures

pub returns-clause-read_back : goal.returns-clause-read_back
returns-clause-read_back c =
    subst (λ text. IsReading text (reads (record { called = c.args.name.now; signature = c.args.sig.now }))) (sym (returns-clause-text c)) (text_reads c.args.name.now c.args.sig.now c.requires.identifier c.requires.faultless c.requires.all_fixed)
