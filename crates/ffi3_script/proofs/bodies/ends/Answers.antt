use Rattle.std.proofs.Common.{◌-◌, length, sym, ap, ◌∙◌}
use Rattle.ffi3_script_spec.specs.Bodies.{always_returns}
use Rattle.ffi3_script_body.specs.ExprOf.{script_move_of}
use Rattle.ffi3_script.proofs.BodyParts.{ends-last, last-index}
use Rattle.ffi3_script.proofs.bodies.ends.Goals as goal

pub returns : goal.returns
returns c =
    let ms = c.args.moves.now in
    let last = c.index-moves-moves.result in
    c.always_returns.ensures ∙ ap (λ m. always_returns (script_move_of m)) c.index-moves-moves.is ∙ sym (ends-last ms (length ms - 1) last (last-index (length ms) c.if-is_empty.ensures))
