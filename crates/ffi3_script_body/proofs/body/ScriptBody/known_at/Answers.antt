use Rattle.std.proofs.Common.{◌-◌, length, take, drop, ap, ◌∙◌}
use Rattle.ffi3_script_body.specs.KnownOf.{pasts_of, kinds_from, known_from}
use Rattle.ffi3_script_body.proofs.Agreed.{pasts_are}
use Rattle.ffi3_script_body.proofs.body.ScriptBody.known_at.Goals as goal

pub returns-clause-kinds : goal.returns-clause-kinds
returns-clause-kinds c =
    let b = c.args.self.now in
    let a = c.args.seen.now in
    let cursor = c.args.cursor.now in
    let pasts = pasts_are b cursor c.deref.result.now c.deref-2.result.now c.as_slice.result.now c.deref.ensures.value c.deref-2.ensures.value c.as_slice.ensures.value in
    c.new.ensures.kinds ∙ ap (λ ss. kinds_from ss a (pasts_of (take cursor.first c.deref.result.now) (take (length c.deref-2.result.now - cursor.first) (drop cursor.first c.deref-2.result.now)) c.as_slice.result.now)) c.deref-3.ensures ∙ ap (kinds_from b.sigs.value a) pasts

pub returns-clause-is : goal.returns-clause-is
returns-clause-is c =
    let b = c.args.self.now in
    let a = c.args.seen.now in
    let cursor = c.args.cursor.now in
    let pasts = pasts_are b cursor c.deref.result.now c.deref-2.result.now c.as_slice.result.now c.deref.ensures.value c.deref-2.ensures.value c.as_slice.ensures.value in
    c.new.ensures.is ∙ ap (λ ss. known_from ss a (pasts_of (take cursor.first c.deref.result.now) (take (length c.deref-2.result.now - cursor.first) (drop cursor.first c.deref-2.result.now)) c.as_slice.result.now)) c.deref-3.ensures ∙ ap (known_from b.sigs.value a) pasts
