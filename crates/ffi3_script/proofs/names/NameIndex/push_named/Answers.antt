use Rattle.std.proofs.Common.{◌≡◌, ℕ, List, map, option_map, string_bytes, Option, bytes_eq, sym, subst, ◌∙◌}
use Rattle.std.specs.BTreeMap.{get_by_text}
use Rattle.ffi3_script.specs.Finds.{FindsFirst, first_or}
use Rattle.ffi3_script.proofs.Numbering.{finds-named, pushed-name, same-length}
use Rattle.ffi3_script.proofs.names.NameIndex.push_named.Goals as goal

pub invariant_of-self-in_default : goal.invariant_of-self-in_default
invariant_of-self-in_default c =
    let names : List (Option (List ℕ)) = map (option_map string_bytes) c.self.inside.names.items in
    let pushed = pushed-name c.self.inside.names.items c.in_ok-copy.copy c.push.new.self.items c.args.name.now c.in_ok-push.ensures.items c.in_ok-copy.ensures.ok in
    let count = same-length c.self.inside.names.items c.len-number.result (c.len-number.ensures ∙ c.self.inside.names.ok.0) in
    subst (FindsFirst c.number_name.new.numbers) (sym pushed)
    (finds-named c.self.inside.numbers c.number_name.new.numbers names c.self.invariant c.args.name.now
    (subst (λ n. (q : List ℕ) → get_by_text c.number_name.new.numbers q ≡ first_or (get_by_text c.self.inside.numbers q) (bytes_eq q c.args.name.now) n) count c.in_default.ensures.ok))
