use Rattle.std.proofs.Common.{[], ◌∷◌, ◌≤◌, length, sym, subst, ◌∙◌}
use Rattle.ffi3_types.specs.TreeOf.{tree_of}
use Rattle.ffi3_cdecl_spec.specs.Tokens.{name, open_round, semicolon}
use Rattle.ffi3_cdecl_spec.specs.Prototype.{fixed_tokens}
use Rattle.ffi3_cdecl.proofs.Writing.{all_written, prototype_is}
use Rattle.ffi3_cdecl.proofs.text.prototype_text.Goals as goal

pub put_list-requires : goal.put_list-requires
put_list-requires c n e =
    let some = c.requires n (sym c.fixed.ensures ∙ e) in
    (some.0, subst (λ ts. n ≤ length ts) (sym c.args-2.ensures) some.1)

pub returns : goal.returns
returns c =
    let end = fixed_tokens c.args-2.result.now c.fixed.result (semicolon ∷ []) in
    sym (all_written c.put.new.self) ∙ c.in_ok-put.ensures [] ∙ c.in_ok-put_list.ensures (semicolon ∷ []) ∙ c.in_ok-put_two.ensures end ∙ c.in_ok-put_type.ensures (name c.args.name.now ∷ open_round ∷ end) ∙ prototype_is c.new.result c.args.name.now c.args.sig.now (tree_of c.ret.result.now) c.args-2.result.now c.fixed.result c.new.ensures c.ret.ensures c.args-2.ensures c.fixed.ensures
