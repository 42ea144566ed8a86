-- The arguments in a block fit their types.
use Rattle.std.proofs.Common.{◌≡◌, ℕ, suc, ◌<◌, true, List, [], ◌∷◌, length, drop, refl, ap, arith}
use Rattle.ffi3_type_spec.specs.Tree.{Tree, trees_of, tree_at}
use Rattle.ffi3_type_spec.specs.Layout.{size_of}
use Rattle.ffi3_type_spec.specs.Signature.{Signature, SignatureHasNoFault}
use Rattle.ffi3_type_spec.specs.Value.{values_of, part, fits, all_fit}
use Rattle.ffi3_type_spec.proofs.Fitting.{value_fits}
use Rattle.ffi3_type_spec.proofs.Layouts.{least_multiple-above}
use Rattle.ffi3_type_spec.proofs.Parts.{length_part}
use Rattle.ffi3_type_spec.proofs.Right.{argument_is_laid_out}
use Rattle.ffi3_type_spec.proofs.Values.{value_at}
use Rattle.ffi3_type_spec.proofs.ValueElements.{fit_by_elements}
use Rattle.ffi3_place_spec.specs.Standard.{block_bytes, round8}
use Rattle.ffi3_semantics_spec.specs.SeenActivation.{block_offset, arguments_in}
use Rattle.ffi3_body.proofs.Blocks.{argument_here, whole_within}

pub arguments_count : (ts : List Tree) (block : List ℕ) → length (arguments_in ts block) ≡ length ts
arguments_count [] block = refl
arguments_count (t ∷ ts) block =
    ap suc (arguments_count ts (drop (round8 (size_of t)) block))

pub arguments_fit : (s : Signature) (block : List ℕ) → SignatureHasNoFault s → length block ≡ block_bytes s → all_fit (trees_of s.arguments) (values_of (arguments_in s.arguments block)) ≡ true
arguments_fit s block right sized =
    let ts = s.arguments in
    let each : (i : ℕ) → i < length (arguments_in ts block) → fits (tree_at ts i) (value_at (arguments_in ts block) i) ≡ true = λ i below'. let below : i < length ts = omega (arith, arguments_count ts block) in
    let t = tree_at ts i in
    let whole = whole_within s i below in
    let rounded = least_multiple-above 8 (size_of t) in
    let n = length_part block (block_offset ts i) (size_of t) (omega (arith, whole, rounded, sized)) in
    rw (argument_here ts block i below) (value_fits t (part block (block_offset ts i) (size_of t)) (argument_is_laid_out s right i below) n) in
    fit_by_elements ts (arguments_in ts block) (arguments_count ts block) each
