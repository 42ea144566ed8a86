use Rattle.std.proofs.Common.{◌≡◌, [], Some, sym, ◌∙◌, arith, rules}
use Rattle.json.specs.Value.{value_view}
use Rattle.serde_json.specs.Read.{read}
use Rattle.ffi3_json.specs.InText.{data_in, HasNumbers}
use Rattle.ffi3_json.proofs.InTexts.{all_numbers, document_read}
use Rattle.ffi3_json.proofs.Short.{within-read, short-within}
use Rattle.ffi3_json.proofs.document.Document.read.Goals as goal

pub invariant_of-result : goal.invariant_of-result
invariant_of-result c =
    let j = value_view c.in-Ok-read.value in
    let numbers : HasNumbers j = all_numbers j (sym c.has_numbers.ensures ∙ c.if-not-has_numbers.false) in
    let same : c.in-Ok.text.now ≡ c.args.bytes.now = search rules in
    let none : c.read.new.reader ≡ [] = search rules in
    let e : read c.args.bytes.now ≡ Some (data_in j) = document_read c.args.bytes.now c.in-Ok.text.now j c.in-Ok-new.reader c.read.new.reader same c.in-Ok-new.ensures.ok c.in-Ok-read.ensures.ok none numbers in
    (numbers, short-within 1048577 (omega arith) (data_in j) (within-read 1048577 c.args.bytes.now (data_in j) (omega arith) e))

pub returns-clause-few : goal.returns-clause-few
returns-clause-few c =
    let j = value_view c.in-Ok-read.value in
    let numbers : HasNumbers j = all_numbers j (sym c.has_numbers.ensures ∙ c.if-not-has_numbers.false) in
    let same : c.in-Ok.text.now ≡ c.args.bytes.now = search rules in
    let none : c.read.new.reader ≡ [] = search rules in
    let e : read c.args.bytes.now ≡ Some (data_in j) = document_read c.args.bytes.now c.in-Ok.text.now j c.in-Ok-new.reader c.read.new.reader same c.in-Ok-new.ensures.ok c.in-Ok-read.ensures.ok none numbers in
    within-read 1048577 c.args.bytes.now (data_in j) (omega arith) e
