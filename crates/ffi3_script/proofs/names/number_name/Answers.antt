use Rattle.std.proofs.Common.{◌≡◌, ℕ, List, Some, bytes_eq, string_bytes, subst, sym, ◌∙◌}
use Rattle.std.specs.BTreeMap.{get_by_text}
use Rattle.std.specs.Map.{update}
use Rattle.std.proofs.lemmas.Map.Text.{btree_map_updates_text}
use Rattle.ffi3_script.proofs.Numbering.{number-anew, absent}
use Rattle.ffi3_script.proofs.names.number_name.Goals as goal

pub returns-clause-ok : goal.returns-clause-ok
returns-clause-ok c =
    let old = get_by_text c.args.numbers.now in
    let new = get_by_text c.insert.new.self in
    let sets : (q : List ℕ) → new q ≡ update bytes_eq old (string_bytes c.in_ok-key.key) (Some c.args.number) q = btree_map_updates_text (string_bytes c.in_ok-key.key) c.args.numbers.now c.insert.new.self _ c.in_ok-insert.ensures.updates in
    number-anew old c.args.name.now c.args.number new (absent (old c.args.name.now) (sym c.contains_key.ensures ∙ c.if-contains_key.false)) (subst (λ name. (q : List ℕ) → new q ≡ update bytes_eq old name (Some c.args.number) q) c.in_ok-key.ensures.ok sets)
