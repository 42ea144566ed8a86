use Rattle.std.proofs.Common.{ap, subst, arith}
use Rattle.serde_json.specs.Events.{items_len}
use Rattle.serde_json.proofs.Views.{items_len-items_view}
use Rattle.ffi3_json.specs.RefOf.{items_of, AreInRange}
use Rattle.ffi3_json.proofs.InTexts.{items_len-in}
use Rattle.ffi3_json.proofs.json_ref.ItemsRef.len.Goals as goal

pub returns-in-Owned : goal.returns-in-Owned
returns-in-Owned c =
    omega (arith, c.len.ensures, items_len-items_view c.in-Owned.items.now.items, ap (λ r. items_len (items_of r)) c.in-Owned.is)

pub returns-in-Borrowed : goal.returns-in-Borrowed
returns-in-Borrowed c =
    omega (arith, c.len-in-Borrowed.ensures, items_len-in c.in-Borrowed.items.now.items (subst AreInRange c.in-Borrowed.is c.requires), ap (λ r. items_len (items_of r)) c.in-Borrowed.is)
