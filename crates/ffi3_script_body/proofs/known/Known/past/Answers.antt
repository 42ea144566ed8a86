use Rattle.std.proofs.Common.{◌≡◌, ◌+◌, ◌-◌, ◌<◌, length, Some, None, ap, sym, ◌∙◌, arith}
use Rattle.std.specs.Prelude.{slice_index_or}
use Rattle.std.proofs.lemmas.List.{length-map, get_or-map, get_or_default}
use Rattle.ffi3_type_spec.specs.Value.{void_value}
use Rattle.ffi3_script_body.specs.ExprOf.{act_of}
use Rattle.ffi3_script_body.specs.KnownOf.{Past, pasts_of, past_type, past_value, is_there}
use Rattle.ffi3_script_body.proofs.Pasts.{done-at, later-at, pasts-count, holds-at}
use Rattle.ffi3_script_body.proofs.known.Known.past.Goals as goal

pub bounds-self-j : goal.bounds-self-j
bounds-self-j c =
    let k = c.args.self.now in
    omega (arith, c.requires, length-map (pasts_of k.done.now k.later.now k.marks.now) (past_type k.sigs.now), (pasts-count k.done.now k.later.now k.marks.now).0, c.if-i-self.false)

pub bounds-self-j-else-i-self : goal.bounds-self-j-else-i-self
bounds-self-j-else-i-self c =
    let k = c.args.self.now in
    omega (arith, c.requires, length-map (pasts_of k.done.now k.later.now k.marks.now) (past_type k.sigs.now), (pasts-count k.done.now k.later.now k.marks.now).1, c.if-i-self.false)

pub returns-then-i-self-clause-there : goal.returns-then-i-self-clause-there
returns-then-i-self-clause-there c =
    let k = c.args.self.now in
    let ps = pasts_of k.done.now k.later.now k.marks.now in
    let m = slice_index_or k.done.now c.args.i c.index-self-i.result in
    let p : Past = record { act = act_of m.act; result = Some c.args.i } in
    let there = is_there (length k.sigs.now) (length k.seen.now.results) in
    let below : c.args.i < length ps = omega (arith, c.requires, length-map ps (past_type k.sigs.now)) in
    holds-at there ps c.args.i p k.there below (done-at k.done.now k.later.now k.marks.now c.args.i m p c.if-i-self.true (get_or_default k.done.now c.args.i c.index-self-i.result m c.if-i-self.true))

pub returns-then-i-self-clause-value : goal.returns-then-i-self-clause-value
returns-then-i-self-clause-value c =
    let k = c.args.self.now in
    let ps = pasts_of k.done.now k.later.now k.marks.now in
    let m = slice_index_or k.done.now c.args.i c.index-self-i.result in
    let p : Past = record { act = act_of m.act; result = Some c.args.i } in
    let value_of_past = past_value k.sigs.now k.seen.now.results in
    let below : c.args.i < length ps = omega (arith, c.requires, length-map ps (past_type k.sigs.now)) in
    let at = done-at k.done.now k.later.now k.marks.now c.args.i m p c.if-i-self.true (get_or_default k.done.now c.args.i c.index-self-i.result m c.if-i-self.true) in
    ap value_of_past (sym at) ∙ sym (get_or-map value_of_past ps c.args.i p void_value below)

pub returns-else-i-self-clause-there : goal.returns-else-i-self-clause-there
returns-else-i-self-clause-there c =
    let k = c.args.self.now in
    let ps = pasts_of k.done.now k.later.now k.marks.now in
    let j = c.args.i - length k.done.now in
    let m = slice_index_or k.later.now j c.index-self-j.result in
    let r = slice_index_or k.marks.now j None in
    let p : Past = record { act = act_of m.act; result = r } in
    let there = is_there (length k.sigs.now) (length k.seen.now.results) in
    let below : c.args.i < length ps = omega (arith, c.requires, length-map ps (past_type k.sigs.now)) in
    let after : c.args.i ≡ length k.done.now + j = omega (arith, c.if-i-self.false) in
    let few = pasts-count k.done.now k.later.now k.marks.now in
    let within : j < length k.later.now = omega (arith, below, after, few.0) in
    let marked : j < length k.marks.now = omega (arith, below, after, few.1) in
    holds-at there ps c.args.i p k.there below (later-at k.done.now k.later.now k.marks.now c.args.i j m r p after within marked (get_or_default k.later.now j c.index-self-j.result m within) (get_or_default k.marks.now j None r marked))

pub returns-else-i-self-clause-value : goal.returns-else-i-self-clause-value
returns-else-i-self-clause-value c =
    let k = c.args.self.now in
    let ps = pasts_of k.done.now k.later.now k.marks.now in
    let j = c.args.i - length k.done.now in
    let m = slice_index_or k.later.now j c.index-self-j.result in
    let r = slice_index_or k.marks.now j None in
    let p : Past = record { act = act_of m.act; result = r } in
    let value_of_past = past_value k.sigs.now k.seen.now.results in
    let below : c.args.i < length ps = omega (arith, c.requires, length-map ps (past_type k.sigs.now)) in
    let after : c.args.i ≡ length k.done.now + j = omega (arith, c.if-i-self.false) in
    let few = pasts-count k.done.now k.later.now k.marks.now in
    let within : j < length k.later.now = omega (arith, below, after, few.0) in
    let marked : j < length k.marks.now = omega (arith, below, after, few.1) in
    let at = later-at k.done.now k.later.now k.marks.now c.args.i j m r p after within marked (get_or_default k.later.now j c.index-self-j.result m within) (get_or_default k.marks.now j None r marked) in
    ap value_of_past (sym at) ∙ sym (get_or-map value_of_past ps c.args.i p void_value below)
