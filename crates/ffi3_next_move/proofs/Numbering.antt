-- The numbers of a run's functions and signatures.
use Rattle.std.proofs.Common.{◌≡◌, ℕ, zero, suc, ◌+◌, ◌-◌, ◌<◌, ◌≤◌, ◌^◌, true, List, [], ◌∷◌, ◌++◌, length, take, map, Some, refl, ap, sym, ◌∙◌, subst, arith, length-append}
use Rattle.std.specs.Prelude.{slice_index_or, slice_get, option_map}
use Rattle.std.proofs.lemmas.List.{length-map, get_or_append_left, get_or-append-add, get_or-append_right, get_or-map}
use Rattle.std.proofs.lemmas.Option.{same_Some, slice_get-map, slice_get_within}
use Rattle.ffi3_type_spec.specs.Tree.{Tree, trees_of}
use Rattle.ffi3_type_spec.specs.Signature.{Signature, signature_at}
use Rattle.ffi3_type_spec.specs.Value.{all_fit, values_of}
use Rattle.ffi3_place_spec.specs.Standard.{Standard}
use Rattle.ffi3_semantics_spec.specs.Move.{Move, call, make, MoveFits, result_type_of}
use Rattle.ffi3_semantics_spec.specs.Meaning.{Program, Function, idle, function_at, Native, renumbered, function_of, functions_from, all_signatures}
use Rattle.ffi3_script_spec.specs.Script.{Script}
use Rattle.ffi3_script_spec.specs.Meaning as script
use Rattle.ffi3_script_spec.specs.Natives.{NamedNative, program_beside}
use Rattle.ffi3_script.specs.ScriptOf as read
use Rattle.ffi3_script_spec.specs.Handed.{natives_in, signatures_in, signatures_before, HasRoom}

-- ---- natives one after another

-- signature i of native j
pub native_signature_at : (ns : List Native) (j : ℕ) (n : Native) (i : ℕ) (d : Signature) → slice_get ns j ≡ Some n → i < length n.signatures → slice_index_or (all_signatures ns) (length (all_signatures (take j ns)) + i) d ≡ slice_index_or n.signatures i d
native_signature_at [] j n i d is below = cc
native_signature_at (x ∷ ns) zero n i d is below =
    let same : x ≡ n = same_Some x n is in
    let from : 0 + i ≡ i = omega arith in
    let within : i < length x.signatures = omega (arith, below, ap (λ y. length y.signatures) same) in
    ap (λ k. slice_index_or (x.signatures ++ all_signatures ns) k d) from ∙ get_or_append_left x.signatures (all_signatures ns) d i within ∙ ap (λ y. slice_index_or y.signatures i d) same
native_signature_at (x ∷ ns) (suc j) n i d is below =
    let from : length (x.signatures ++ all_signatures (take j ns)) + i ≡ length x.signatures + (length (all_signatures (take j ns)) + i) = omega (arith, length-append x.signatures (all_signatures (take j ns))) in
    ap (λ k. slice_index_or (x.signatures ++ all_signatures ns) k d) from ∙ get_or-append-add x.signatures (all_signatures ns) (length (all_signatures (take j ns)) + i) d ∙ native_signature_at ns j n i d is below

-- its signatures lie among all
pub native_within : (ns : List Native) (j : ℕ) (n : Native) → slice_get ns j ≡ Some n → signatures_before ns j + length n.signatures ≤ length (all_signatures ns)
native_within [] j n is = cc
native_within (x ∷ ns) zero n is =
    let same : length x.signatures ≡ length n.signatures = ap (λ y. length y.signatures) (same_Some x n is) in
    omega (arith, same, length-append x.signatures (all_signatures ns))
native_within (x ∷ ns) (suc j) n is =
    omega (arith, length-append x.signatures (all_signatures (take j ns)), length-append x.signatures (all_signatures ns), native_within ns j n is)

before_suc : (ns : List Native) (j : ℕ) (n : Native) → slice_get ns j ≡ Some n → signatures_before ns (suc j) ≡ signatures_before ns j + length n.signatures
before_suc [] j n is = cc
before_suc (x ∷ ns) zero n is =
    let same : length x.signatures ≡ length n.signatures = ap (λ y. length y.signatures) (same_Some x n is) in
    omega (arith, same, length-append x.signatures [])
before_suc (x ∷ ns) (suc j) n is =
    omega (arith, length-append x.signatures (all_signatures (take (suc j) ns)), length-append x.signatures (all_signatures (take j ns)), before_suc ns j n is)

-- those before the next native
pub before_more : (ns : List Native) (j : ℕ) (n : Native) → slice_get ns j ≡ Some n → signatures_before ns (j + 1) ≡ signatures_before ns j + length n.signatures
before_more ns j n is =
    let next : j + 1 ≡ suc j = omega arith in
    ap (signatures_before ns) next ∙ before_suc ns j n is

-- all of them stand before none
pub before_all : (ns : List Native) (j : ℕ) → j ≡ length ns → signatures_before ns j ≡ length (all_signatures ns)
before_all [] zero n = refl
before_all (x ∷ ns) (suc j) n =
    omega (arith, length-append x.signatures (all_signatures (take j ns)), length-append x.signatures (all_signatures ns), before_all ns j (omega arith))
before_all _ _ n = absurd (omega arith)

native_function : (first own : ℕ) (ns : List Native) (j : ℕ) (n : Native) (d : Function) → slice_get ns j ≡ Some n → slice_index_or (functions_from first own ns) j d ≡ function_of (first + signatures_before ns j) (own + j) n
native_function first own [] j n d is = cc
native_function first own (x ∷ ns) zero n d is =
    let f : first ≡ first + 0 = omega arith in
    let o : own ≡ own + 0 = omega arith in
    ap (λ k. function_of k own x) f ∙ ap (λ k. function_of (first + 0) k x) o ∙ ap (function_of (first + 0) (own + 0)) (same_Some x n is)
native_function first own (x ∷ ns) (suc j) n d is =
    let f : first + length x.signatures + signatures_before ns j ≡ first + length (x.signatures ++ all_signatures (take j ns)) = omega (arith, length-append x.signatures (all_signatures (take j ns))) in
    let o : own + 1 + j ≡ own + suc j = omega arith in
    native_function (first + length x.signatures) (own + 1) ns j n d is ∙ ap (λ k. function_of k (own + 1 + j) n) f ∙ ap (λ k. function_of (first + length (x.signatures ++ all_signatures (take j ns))) k n) o

length-functions_from : (first own : ℕ) (ns : List Native) → length (functions_from first own ns) ≡ length ns
length-functions_from first own [] = refl
length-functions_from first own (n ∷ ns) =
    ap suc (length-functions_from (first + length n.signatures) (own + 1) ns)

-- a native's move has room for its numbers
pub has_room : (n : Native) (first own : ℕ) (t : Tree) (m : Move) → MoveFits n.signatures 1 t m → first + length n.signatures < 2 ^ 32 → own < 2 ^ 32 → HasRoom first own m
has_room n first own t (call ptr sig args) fits room small =
    let below : sig < length n.signatures = fits.0 in
    omega arith
has_room n first own t (make func user) fits room small =
    let below : func < 1 = fits in
    omega arith
has_room n first own t _ fits room small = tt

-- ---- beside a script

module _ (std : Standard) (ns : List NamedNative) (s : Script) where
  abbrev program : Program
  program = program_beside std ns s

  pub signatures_count : length (program_beside std ns s).signatures ≡ length s.signatures + length (signatures_in ns)
  signatures_count = length-append s.signatures (signatures_in ns)

  pub functions_count : length (program_beside std ns s).functions ≡ length s.functions + length ns
  functions_count =
      let own = map (script.function_of s.signatures) s.functions in
      let others = functions_from (length s.signatures) (length own) (natives_in ns) in
      let split : length (program_beside std ns s).functions ≡ length own + length others = length-append own others in
      let first : length own ≡ length s.functions = length-map s.functions (script.function_of s.signatures) in
      let rest : length others ≡ length (natives_in ns) = length-functions_from (length s.signatures) (length own) (natives_in ns) in
      let handed : length (natives_in ns) ≡ length ns = length-map ns (λ n. n.native) in
      omega (arith, split, first, rest, handed)

  -- a signature of the script
  pub own_of_script : (i : ℕ) → i < length s.signatures → signature_at (program_beside std ns s).signatures i ≡ signature_at s.signatures i
  own_of_script i below = get_or_append_left s.signatures (signatures_in ns) _ i below

  -- a signature after those
  pub own_of_natives : (i k : ℕ) → k ≡ length s.signatures + i → signature_at (program_beside std ns s).signatures k ≡ signature_at (signatures_in ns) i
  own_of_natives i k at =
      ap (signature_at (program_beside std ns s).signatures) at ∙ get_or-append-add s.signatures (signatures_in ns) i _

  -- a function of the script
  pub function_of_script : (k : ℕ) → k < length s.functions → function_at (program_beside std ns s) k ≡ script.function_of s.signatures (read.function_at s k)
  function_of_script k below =
      let own = map (script.function_of s.signatures) s.functions in
      let within : k < length own = omega (arith, below, length-map s.functions (script.function_of s.signatures)) in
      get_or_append_left own _ idle k within ∙ get_or-map (script.function_of s.signatures) s.functions k _ idle below

  -- a move of the script's fits the run too
  pub script_fits : (n : ℕ) (t : Tree) (m : Move) → n ≤ length ns → MoveFits s.signatures (length s.functions + n) t m → MoveFits (program_beside std ns s).signatures (length (program_beside std ns s).functions) t m
  script_fits n t (call ptr sig args) few fits =
      (omega (arith, fits.0, signatures_count), subst (λ o. all_fit (trees_of o.arguments) (values_of args) ≡ true) (sym (own_of_script sig fits.0)) fits.1)
  script_fits n t (make func user) few fits =
      let below : func < length s.functions + n = fits in
      omega (arith, below, few, functions_count)
  script_fits n t _ few fits = fits

  -- and its result has the same type
  pub script_type : (functions : ℕ) (t : Tree) (m : Move) → MoveFits s.signatures functions t m → result_type_of (program_beside std ns s).signatures m ≡ result_type_of s.signatures m
  script_type functions t (call ptr sig args) fits =
      ap (λ o. Some o.result_type) (own_of_script sig fits.0)
  script_type functions t _ fits = refl

  -- native j is function k, and its signatures begin at `first`
  module _ (k first : ℕ) (n : Native) (above : length s.functions ≤ k) (is : slice_get (natives_in ns) (k - length s.functions) ≡ Some n) (begins : first ≡ length s.signatures + signatures_before (natives_in ns) (k - length s.functions)) where
    pub function_of_native : function_at (program_beside std ns s) k ≡ function_of first k n
    function_of_native =
        let j = k - length s.functions in
        let own = map (script.function_of s.signatures) s.functions in
        let others = functions_from (length s.signatures) (length own) (natives_in ns) in
        let count : length own ≡ length s.functions = length-map s.functions (script.function_of s.signatures) in
        let here : length own + j ≡ k = omega (arith, above, count) in
        let past : function_at (program_beside std ns s) k ≡ slice_index_or others j idle = get_or-append_right own others (length s.functions) k idle count above in
        past ∙ native_function (length s.signatures) (length own) (natives_in ns) j n idle is ∙ ap (λ f. function_of f (length own + j) n) (sym begins) ∙ ap (λ o. function_of first o n) here

    pub own_of_native : (i : ℕ) → i < length n.signatures → signature_at (program_beside std ns s).signatures (first + i) ≡ signature_at n.signatures i
    own_of_native i below =
        let j = k - length s.functions in
        let at : first + i ≡ length s.signatures + (signatures_before (natives_in ns) j + i) = omega (arith, begins) in
        own_of_natives (signatures_before (natives_in ns) j + i) (first + i) at ∙ native_signature_at (natives_in ns) j n i _ is below

    pub signatures_within : first + length n.signatures ≤ length s.signatures + length (signatures_in ns)
    signatures_within =
        omega (arith, begins, native_within (natives_in ns) (k - length s.functions) n is)

    native_below : k < length (program_beside std ns s).functions
    native_below =
        let within : k - length s.functions < length (natives_in ns) = slice_get_within (natives_in ns) (k - length s.functions) n is in
        omega (arith, within, above, functions_count, length-map ns (λ m. m.native))

    pub native_fits : (t : Tree) (m : Move) → MoveFits n.signatures 1 t m → MoveFits (program_beside std ns s).signatures (length (program_beside std ns s).functions) t (renumbered first k m)
    native_fits t (call ptr sig args) fits =
        (omega (arith, fits.0, signatures_within, signatures_count), subst (λ o. all_fit (trees_of o.arguments) (values_of args) ≡ true) (sym (own_of_native sig fits.0)) fits.1)
    native_fits t (make func user) fits =
        let itself : func < 1 = fits in
        omega (arith, itself, native_below)
    native_fits t _ fits = fits

    pub native_type : (t : Tree) (m : Move) → MoveFits n.signatures 1 t m → result_type_of (program_beside std ns s).signatures (renumbered first k m) ≡ result_type_of n.signatures m
    native_type t (call ptr sig args) fits =
        ap (λ o. Some o.result_type) (own_of_native sig fits.0)
    native_type t _ fits = refl

-- signature i of native j is one of all
pub signature_here : (ns : List NamedNative) (j i number : ℕ) (n : NamedNative) → slice_get ns j ≡ Some n → i < length n.native.signatures → i + signatures_before (natives_in ns) j ≡ number → signature_at n.native.signatures i ≡ signature_at (signatures_in ns) number
signature_here ns j i number n is below at =
    let here = slice_get-map (λ x. x.native) ns j ∙ ap (option_map (λ x. x.native)) is in
    let same : signatures_before (natives_in ns) j + i ≡ number = omega (arith, at) in
    sym (native_signature_at (natives_in ns) j n.native i _ here below) ∙ ap (signature_at (signatures_in ns)) same

-- as many stand before none as there are
pub before_none : (ns : List NamedNative) (j : ℕ) → j ≡ length ns → signatures_before (natives_in ns) j ≡ length (signatures_in ns)
before_none ns j at = before_all (natives_in ns) j (omega (arith, at, length-map ns (λ n. n.native)))

module _ (std : Standard) (ns : List NamedNative) (s : Script) where
  pub all_before : (j first : ℕ) → j ≡ length ns → first ≡ length s.signatures + signatures_before (natives_in ns) j → first ≡ length (program_beside std ns s).signatures
  all_before j first at begins =
      omega (arith, before_none ns j at, begins, signatures_count std ns s)

  -- native j is function k of the run
  module _ (k first j : ℕ) (n : NamedNative) (here : k ≡ length s.functions + j) (is : slice_get ns j ≡ Some n) (begins : first ≡ length s.signatures + signatures_before (natives_in ns) j) where
    j_is : j ≡ k - length s.functions
    j_is = omega (arith, here)

    is_at : slice_get (natives_in ns) (k - length s.functions) ≡ Some n.native
    is_at =
        subst (λ i. slice_get (natives_in ns) i ≡ Some n.native) j_is (slice_get-map (λ x. x.native) ns j ∙ ap (option_map (λ x. x.native)) is)

    begins_at : first ≡ length s.signatures + signatures_before (natives_in ns) (k - length s.functions)
    begins_at = subst (λ i. first ≡ length s.signatures + signatures_before (natives_in ns) i) j_is begins

    pub sig_of_native : first ≡ (function_at (program_beside std ns s) k).signature
    sig_of_native =
        sym (ap (λ f. f.signature) (function_of_native std ns s k first n.native (omega (arith, here)) is_at begins_at))

    pub sig_of_native_below : 0 < length n.native.signatures → first < length (program_beside std ns s).signatures
    sig_of_native_below some =
        omega (arith, some, signatures_within std ns s k first n.native (omega (arith, here)) is_at begins_at, signatures_count std ns s)

-- its signatures lie within those of the run
pub handed_within : (ns : List NamedNative) (s : Script) (k first : ℕ) (n : Native) → slice_get (natives_in ns) (k - length s.functions) ≡ Some n → first ≡ length s.signatures + signatures_before (natives_in ns) (k - length s.functions) → first + length n.signatures ≤ length s.signatures + length (signatures_in ns)
handed_within ns s k first n is begins =
    omega (arith, begins, native_within (natives_in ns) (k - length s.functions) n is)
