use Rattle.std.proofs.Common.{◌≡◌, ◌<◌, [], length, All, sym, ap, refl, subst, ◌∙◌, arith}
use Rattle.std.proofs.lemmas.List.{length_push}
use Rattle.std.proofs.lemmas.List.Elements.{All-push}
use Rattle.ffi3_script_spec.specs.Language.{read, at_item}
use Rattle.ffi3_script_spec.specs.Bodies.{read_heading, read_headings}
use Rattle.ffi3_json.proofs.Tellings.{part_handed_on}
use Rattle.ffi3_script.specs.PartsOf.{heading_of, headings_of}
use Rattle.ffi3_script.specs.declared.functions.Heading.{Heading}
use Rattle.ffi3_script.proofs.Loops.{all_read}
use Rattle.ffi3_script.proofs.FunctionParts.{headings-turn, headings-fault, names-more}
use Rattle.ffi3_script.proofs.functions.read_headings.Goals as goal

pub returns-in_err-heading-clause-err : goal.returns-in_err-heading-clause-err
returns-in_err-heading-clause-err c =
    let count = length c.args.sigs.now in
    let ds = c.args.items.now in
    let i = c.loop-i.i in
    let x = c.get.result in
    let whole = read_headings count [] ds c.args.at.now 0 in
    part_handed_on whole (read_heading count c.loop-i.names x c.item.result)
    (λ p r e. headings-fault count c.loop-i.names ds c.args.at.now i x whole (headings_of c.loop-i.list.items) p r (omega arith) c.get.ensures.item c.loop-i.invariant.so_far (ap (read_heading count c.loop-i.names x) (sym c.item.ensures) ∙ e))
    c.from_residual.result c.in_err-heading.field-0.0 c.from_residual.ensures.1 c.in_err-heading.ensures.err

pub loop-i-preserved : goal.loop-i-preserved
loop-i-preserved c =
    let count = length c.args.sigs.now in
    let ds = c.args.items.now in
    let i = c.loop-i.i in
    let x = c.get.result in
    let one = c.in_ok-heading.heading in
    let before = c.loop-i.invariant in
    let named = c.in_ok-push_heading.ensures.named in
    let added = c.in_ok-push_heading.ensures.pushed in
    let was : read_heading count c.loop-i.names x (at_item c.args.at.now i) ≡ read (heading_of one) = ap (read_heading count c.loop-i.names x) (sym c.item.ensures) ∙ c.in_ok-heading.ensures.ok in
    record {
      count = omega (arith, ap length added, length_push c.loop-i.list.items one, before.count);
      within = subst (All (λ (h : Heading). h.sig < count)) (sym added) (All-push (λ h. h.sig < count) c.loop-i.list.items one before.within c.in_ok-heading.ensures.within);
      named = names-more c.loop-i.list.items one c.push_heading.new.list.items c.loop-i.names c.push_heading.new.names before.named added named;
      so_far = headings-turn count c.loop-i.names c.push_heading.new.names ds c.args.at.now i x (read_headings count [] ds c.args.at.now 0) c.loop-i.list.items c.push_heading.new.list.items one
          (omega arith) c.get.ensures.item before.so_far was named added;
    }

pub returns-clause-ok : goal.returns-clause-ok
returns-clause-ok c =
    let count = length c.args.sigs.now in
    let ds = c.args.items.now in
    all_read (λ es. read_headings count c.loop-i.names es c.args.at.now c.loop-i.i) (read_headings count [] ds c.args.at.now 0) (headings_of c.loop-i.list.items) ds c.loop-i.i (omega arith) refl c.loop-i.invariant.so_far
