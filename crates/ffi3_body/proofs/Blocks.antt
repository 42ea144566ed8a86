-- Where the arguments stand in a block, and which values they have.
use Rattle.std.proofs.Common.{◌≡◌, ℕ, zero, suc, ◌+◌, ◌<◌, ◌≤◌, ◌^◌, List, [], ◌∷◌, ◌++◌, length, take, drop, refl, ap, sym, ◌∙◌, arith, All}
use Rattle.std.specs.List.{sum_by}
use Rattle.std.proofs.Math.Seq.{take-suc}
use Rattle.std.proofs.lemmas.List.{drop-drop, get_or_default}
use Rattle.std.proofs.lemmas.List.Sums.{sum_by_more_le, sum_by-cons, sum_by_push, sum_by-le}
use Rattle.ffi3_type_spec.specs.declared.limits.TheConstants.{LARGEST_TYPE}
use Rattle.ffi3_type_spec.specs.declared.Role.TheVariants.{AsArgument}
use Rattle.ffi3_type_spec.specs.Tree.{Tree, void, tree_at}
use Rattle.ffi3_type_spec.specs.Layout.{size_of, least_multiple}
use Rattle.ffi3_type_spec.specs.Signature.{Signature, SignatureHasNoFault}
use Rattle.ffi3_type_spec.specs.Value.{ValueTree, value_in, part}
use Rattle.ffi3_type_spec.proofs.Layouts.{least_multiple-above, least_multiple-below}
use Rattle.ffi3_type_spec.proofs.Faults.{right_is_small}
use Rattle.ffi3_type_spec.proofs.Right.{argument_is_right, few_arguments}
use Rattle.ffi3_type_spec.proofs.Values.{value_at}
use Rattle.ffi3_place_spec.specs.Standard.{round8, block_bytes}
use Rattle.ffi3_semantics_spec.specs.SeenActivation.{block_offset, arguments_in}

abbrev whole_size : Tree → ℕ
whole_size t = round8 (size_of t)

-- one more argument
pub offset-turn : (ts : List Tree) (i : ℕ) (t : Tree) (offset size : ℕ) → i < length ts → t ≡ tree_at ts i → offset ≡ block_offset ts i → size ≡ size_of t → offset + least_multiple 8 size ≡ block_offset ts (i + 1)
offset-turn ts i t offset size below is o s =
    let taken : take (suc i) ts ≡ take i ts ++ tree_at ts i ∷ [] = take-suc ts i void below in
    let step : i + 1 ≡ suc i = omega arith in
    let sums : block_offset ts (i + 1) ≡ block_offset ts i + whole_size (tree_at ts i) = ap (block_offset ts) step ∙ ap (sum_by whole_size) taken ∙ sum_by_push whole_size (take i ts) (tree_at ts i) in
    let here : least_multiple 8 size ≡ whole_size (tree_at ts i) = ap (least_multiple 8) s ∙ ap whole_size is in
    omega (arith, sums, here, o)

-- an argument stands within the block
pub whole_within : (s : Signature) (i : ℕ) → i < length s.arguments → block_offset s.arguments i + whole_size (tree_at s.arguments i) ≤ block_bytes s
whole_within s i below =
    let ts = s.arguments in
    omega (arith, sum_by_more_le whole_size ts i void below, least_multiple-above 16 (sum_by whole_size ts))

pub size_small : (s : Signature) → SignatureHasNoFault s → (i : ℕ) → i < length s.arguments → size_of (tree_at s.arguments i) ≤ LARGEST_TYPE
size_small s right i below =
    right_is_small 0 AsArgument (tree_at s.arguments i) (argument_is_right s right i below)

-- a block is small
pub block_small : (s : Signature) → SignatureHasNoFault s → block_bytes s < 2 ^ 32
block_small s right =
    let ts = s.arguments in
    let each : All (λ t. whole_size t ≤ LARGEST_TYPE + 7) ts = λ i d below. let same = get_or_default ts i d void below in
    rw same (omega (arith, size_small s right i below, least_multiple-below 8 (size_of (tree_at ts i)) (omega arith))) in
    omega (arith, few_arguments s right, sum_by-le whole_size (LARGEST_TYPE + 7) ts each, least_multiple-below 16 (sum_by whole_size ts) (omega arith))

-- what stands behind the first argument
moved : (t : Tree) (ts : List Tree) (i : ℕ) (block : List ℕ) → drop (block_offset ts i) (drop (whole_size t) block) ≡ drop (block_offset (t ∷ ts) (suc i)) block
moved t ts i block =
    let sums : block_offset (t ∷ ts) (suc i) ≡ whole_size t + block_offset ts i = sum_by-cons whole_size t (take i ts) in
    drop-drop (block_offset ts i) (whole_size t) block ∙ ap (λ n. drop n block) (sym sums)

-- argument i has the value of its bytes
pub argument_here : (ts : List Tree) (block : List ℕ) (i : ℕ) → i < length ts → value_at (arguments_in ts block) i ≡ value_in (tree_at ts i) (part block (block_offset ts i) (size_of (tree_at ts i)))
argument_here [] block i below = absurd (omega arith)
argument_here (t ∷ ts) block zero below = refl
argument_here (t ∷ ts) block (suc i) below =
    let u = tree_at ts i in
    let rest = argument_here ts (drop (whole_size t) block) i (omega arith) in
    rest ∙ ap (λ bytes. value_in u (take (size_of u) bytes)) (moved t ts i block)

-- for callers: the values are those that each argument's bytes have
pub arguments_by_each : (ts : List Tree) (block : List ℕ) (vs : List ValueTree) → length vs ≡ length ts → ((i : ℕ) → i < length ts → value_at vs i ≡ value_in (tree_at ts i) (part block (block_offset ts i) (size_of (tree_at ts i)))) → arguments_in ts block ≡ vs
arguments_by_each [] block [] n each = refl
arguments_by_each [] block (v ∷ vs) n each = absurd (omega arith)
arguments_by_each (t ∷ ts) block [] n each = absurd (omega arith)
arguments_by_each (t ∷ ts) block (v ∷ vs) n each =
    let r = whole_size t in
    let first : value_in t (take (size_of t) block) ≡ v = sym (each 0 (omega arith)) in
    let later : (i : ℕ) → i < length ts → value_at vs i ≡ value_in (tree_at ts i) (part (drop r block) (block_offset ts i) (size_of (tree_at ts i))) = λ i below. each (suc i) (omega arith) ∙ ap (λ bytes. value_in (tree_at ts i) (take (size_of (tree_at ts i)) bytes)) (sym (moved t ts i block)) in
    let rest : arguments_in ts (drop r block) ≡ vs = arguments_by_each ts (drop r block) vs (omega arith) later in
    ap (λ w. w ∷ arguments_in ts (drop r block)) first ∙ ap (λ ws. v ∷ ws) rest
