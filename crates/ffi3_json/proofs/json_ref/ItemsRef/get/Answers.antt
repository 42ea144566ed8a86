use Rattle.std.proofs.Common.{◌<◌, length, sym, ap, ◌∙◌, subst, arith}
use Rattle.serde_json.specs.Events.{items_len}
use Rattle.serde_json.proofs.Views.{items_len-items_view}
use Rattle.json.specs.Value.{value_view}
use Rattle.ffi3_json.specs.Parts.{item_at}
use Rattle.ffi3_json.specs.RefOf.{items_of, AreInRange}
use Rattle.ffi3_json.proofs.Items.{item_is}
use Rattle.ffi3_json.proofs.InTexts.{is_data, has_numbers, items_len-in, item_read}
use Rattle.ffi3_json.proofs.json_ref.ItemsRef.get.Goals as goal

pub index-requires : goal.index-requires
index-requires c =
    omega (arith, c.requires.within, items_len-items_view c.in-Owned.items.now.items, ap (λ r. items_len (items_of r)) c.in-Owned.is)

pub index-requires-in-Borrowed : goal.index-requires-in-Borrowed
index-requires-in-Borrowed c =
    omega (arith, c.requires.within, items_len-in c.in-Borrowed.items.now.items (subst AreInRange c.in-Borrowed.is c.requires.range), ap (λ r. items_len (items_of r)) c.in-Borrowed.is)

pub returns-in-Owned-clause-item : goal.returns-in-Owned-clause-item
returns-in-Owned-clause-item c =
    let vs = c.in-Owned.items.now.items in
    let below : c.args.i < length vs = omega (arith, c.requires.within, items_len-items_view vs, ap (λ r. items_len (items_of r)) c.in-Owned.is) in
    item_is vs c.args.i c.index.result.now below c.index.ensures ∙ ap (λ r. item_at (items_of r) c.args.i) (sym c.in-Owned.is)

pub returns-in-Borrowed-clause-item : goal.returns-in-Borrowed-clause-item
returns-in-Borrowed-clause-item c =
    let vs = c.in-Borrowed.items.now.items in
    let numbers = subst AreInRange c.in-Borrowed.is c.requires.range in
    let below : c.args.i < length vs = omega (arith, c.requires.within, items_len-in vs numbers, ap (λ r. items_len (items_of r)) c.in-Borrowed.is) in
    let x = c.index-in-Borrowed.result.now in
    is_data (value_view x) _ (item_read vs c.args.i x below c.index-in-Borrowed.ensures numbers) ∙ ap (λ r. item_at (items_of r) c.args.i) (sym c.in-Borrowed.is)

pub returns-in-Borrowed-clause-range : goal.returns-in-Borrowed-clause-range
returns-in-Borrowed-clause-range c =
    let vs = c.in-Borrowed.items.now.items in
    let numbers = subst AreInRange c.in-Borrowed.is c.requires.range in
    let below : c.args.i < length vs = omega (arith, c.requires.within, items_len-in vs numbers, ap (λ r. items_len (items_of r)) c.in-Borrowed.is) in
    let x = c.index-in-Borrowed.result.now in
    has_numbers (value_view x) _ (item_read vs c.args.i x below c.index-in-Borrowed.ensures numbers)
