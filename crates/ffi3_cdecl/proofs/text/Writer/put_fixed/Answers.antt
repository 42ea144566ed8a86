use Rattle.std.proofs.Common.{◌∷◌, ◌∙◌, ap}
use Rattle.std.specs.Prelude.{slice_range}
use Rattle.std.proofs.lemmas.Result.{on_ok_weaker}
use Rattle.ffi3_types.specs.TreeOf.{tree_of}
use Rattle.ffi3_cdecl_spec.specs.Tokens.{comma, dots, close_round}
use Rattle.ffi3_cdecl_spec.specs.Prototype.{behind_commas}
use Rattle.ffi3_cdecl.specs.Going.{going}
use Rattle.ffi3_cdecl.proofs.Writing.{fixed_is}
use Rattle.ffi3_cdecl.proofs.text.Writer.put_fixed.Goals as goal

pub returns : goal.returns
returns c =
    let ts = c.args.args.now in
    let n = c.args.fixed in
    let m = c.len.result in
    on_ok_weaker c.put.result (λ q rest. q rest ∙ c.in_ok-put_more-2.ensures (close_round ∷ rest) ∙ c.in_ok-put_two.ensures (behind_commas (slice_range ts n m) (close_round ∷ rest)) ∙ c.in_ok-put_more.ensures (comma ∷ dots ∷ behind_commas (slice_range ts n m) (close_round ∷ rest)) ∙ c.in_ok-put_type.ensures (behind_commas (slice_range ts 1 n) (comma ∷ dots ∷ behind_commas (slice_range ts n m) (close_round ∷ rest))) ∙ ap (going c.args.self.now) (fixed_is ts n m (tree_of c.get.result.now) c.requires.some c.requires.within c.get.ensures.element c.len.ensures.count rest)) c.put.ensures
