-- The lines of arguments, one after another.
use Rattle.std.proofs.Common.{◌≡◌, ℕ, suc, ◌+◌, ◌<◌, ◌≤◌, List, [], ◌++◌, length, drop, sym, ap, ap₂, ◌∙◌, append_assoc, append-nil, arith}
use Rattle.std.proofs.lemmas.List.{drop_more}
use Rattle.std.proofs.Math.ListN.{drop_of_length-le}
use Rattle.ffi3_type_spec.specs.Tree.{Tree, tree_at, void}
use Rattle.ffi3_type_spec.specs.Value.{ValueTree, void_value}
use Rattle.ffi3_type_spec.proofs.Values.{value_at}
use Rattle.ffi3_image_spec.specs.Lines.{argument_line, argument_lines}

module _ (ts : List Tree) (vs : List ValueTree) (same : length vs ≡ length ts) where
  -- that of argument i, and those after it
  lines_at : (i : ℕ) → i < length ts → argument_lines i (drop i ts) (drop i vs) ≡ argument_line i (tree_at ts i) (value_at vs i) ++ argument_lines (i + 1) (drop (i + 1) ts) (drop (i + 1) vs)
  lines_at i below =
      let next : suc i ≡ i + 1 = omega arith in
      ap₂ (argument_lines i) (drop_more ts i void below) (drop_more vs i void_value (omega (arith, same))) ∙ ap (λ j. argument_line i (tree_at ts i) (value_at vs i) ++ argument_lines j (drop (i + 1) ts) (drop (i + 1) vs)) next

  pub lines_turn : (i : ℕ) (t : Tree) (v : ValueTree) (now next all : List ℕ) → i < length ts → t ≡ tree_at ts i → v ≡ value_at vs i → now ++ argument_lines i (drop i ts) (drop i vs) ≡ all → next ≡ now ++ argument_line i t v → next ++ argument_lines (i + 1) (drop (i + 1) ts) (drop (i + 1) vs) ≡ all
  lines_turn i t v now next all below is_t is_v before on =
      let rest : List ℕ = argument_lines (i + 1) (drop (i + 1) ts) (drop (i + 1) vs) in
      let line : List ℕ = argument_line i (tree_at ts i) (value_at vs i) in
      let here : argument_line i t v ≡ line = ap₂ (argument_line i) is_t is_v in
      ap (λ l. l ++ rest) (on ∙ ap (λ l. now ++ l) here) ∙ append_assoc now line rest ∙ ap (λ l. now ++ l) (sym (lines_at i below)) ∙ before

  pub lines_end : (i : ℕ) (now all : List ℕ) → length ts ≤ i → now ++ argument_lines i (drop i ts) (drop i vs) ≡ all → now ≡ all
  lines_end i now all past before =
      let none : argument_lines i (drop i ts) (drop i vs) ≡ [] = ap₂ (argument_lines i) (drop_of_length-le ts {i = i} past) (drop_of_length-le vs {i = i} (omega (arith, same, past))) in
      sym (append-nil now) ∙ ap (λ l. now ++ l) (sym none) ∙ before
