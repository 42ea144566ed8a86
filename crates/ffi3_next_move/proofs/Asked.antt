-- From a body's own numbers to those of the run.
use Rattle.std.proofs.Common.{◌≡◌, ℕ, ◌+◌, ◌-◌, ◌^◌, ◌<◌, ◌≤◌, List, [], length, map, Result, Ok, Err, IfOk, Some, All, ap, sym, ◌∙◌, subst, arith}
use Rattle.std.specs.Prelude.{slice_get, option_map}
use Rattle.std.proofs.lemmas.List.{length-map}
use Rattle.std.proofs.lemmas.Option.{same_Some, slice_get-map, slice_get_within}
use Rattle.ffi3_type_spec.specs.Signature.{Signature, signature_at, SignatureHasNoFault}
use Rattle.ffi3_type_spec.specs.Value.{ValueTree}
use Rattle.ffi3_place_spec.specs.Standard.{Standard}
use Rattle.ffi3_semantics_spec.specs.Move.{Move, Behaviour, MoveFits, result_type_of}
use Rattle.ffi3_semantics_spec.specs.Meaning.{Program, Native, renumbered, Who, main, function, behaviour_of}
use Rattle.ffi3_semantics_spec.specs.SeenActivation.{SeenActivation, arguments_of}
use Rattle.ffi3_semantics_spec.specs.Follow.{IsOfType, ResultsFollow}
use Rattle.ffi3_body.proofs.Follow.{one_more_follows, none_follow}
use Rattle.ffi3_script_spec.specs.Script as rules
use Rattle.ffi3_script_spec.specs.Meaning as script
use Rattle.ffi3_script_spec.specs.Natives.{NamedNative, program_beside}
use Rattle.ffi3_script_body.specs.Agrees.{Agrees, one_more}
use Rattle.ffi3_script_body.specs.BodyOf.{moves_of, signatures_of, functions_of, signature_of, meaning_of}
use Rattle.ffi3_script_body.specs.declared.body.ScriptBody.{ScriptBody}
use Rattle.ffi3_script_body.specs.declared.cursor.Cursor.{Cursor}
use Rattle.ffi3_script.specs.ScriptOf as read
use Rattle.ffi3_script_spec.specs.Handed.{natives_in, signatures_in, signatures_before, HasRoom}
use Rattle.ffi3_script.specs.declared.script.Script.{Script}
use Rattle.ffi3_next_move.specs.Stands.{IsInBody, IsInNative, IsInHanded}
use Rattle.ffi3_next_move.specs.Asked.{IsAsked, IsNext, own_signature}
use Rattle.ffi3_next_move.proofs.Numbering.{has_room, handed_within, script_fits, script_type, own_of_script, function_of_script, function_of_native, own_of_native, native_fits, native_type}

-- what follows of an answer from two of its clauses
pub ok_both : {T E : Type 0} (r : Result T E) (P Q R : T → Type 0) → IfOk r P → IfOk r Q → ((x : T) → P x → Q x → R x) → IfOk r R
ok_both (Ok x) P Q R p q both = both x p q
ok_both (Err e) P Q R p q both = p

-- the same of a function that is the same
pub who_same : {T E : Type 0} (r : Result T E) (p : Program) (who other : Who) (a : SeenActivation) (Holds : ValueTree → Type 0) (f : T → Move) → other ≡ who → IfOk r (λ m. IsAsked p who a Holds (f m)) → IfOk r (λ m. IsAsked p other a Holds (f m))
who_same r p who other a Holds f same asked =
    subst (λ w. IfOk r (λ m. IsAsked p w a Holds (f m))) (sym same) asked

-- a move that is the same, after which something follows
pub asked_as : (p : Program) (who : Who) (a : SeenActivation) (Holds Then : ValueTree → Type 0) (m n : Move) → IsAsked p who a Holds m → n ≡ m → ((r : ValueTree) → Holds r → Then r) → IsAsked p who a Then n
asked_as p who a Holds Then m n asked same then =
    record {
      is = same ∙ asked.is;
      fits = subst (MoveFits p.signatures (length p.functions) a.signature.result_type) (sym same) asked.fits;
      after = λ r of_type. then r (asked.after r (subst (λ x. IsOfType r (result_type_of p.signatures x)) same of_type));
    }

-- a move that fits, by a number of functions and a signature that are the same
pub fits_as : (signatures : List Signature) (f g : ℕ) (own other : Signature) (m : Move) → f ≡ g → other ≡ own → MoveFits signatures f own.result_type m → MoveFits signatures g other.result_type m
fits_as signatures f g own other m count same fits =
    subst (λ s. MoveFits signatures g s.result_type m) (sym same) (subst (λ k. MoveFits signatures k own.result_type m) count fits)

-- ---- a body of the script

-- the activation with a result more stands in the body as well
pub body_after : (b : ScriptBody) (a : SeenActivation) (c : Cursor) (m : Move) (r : ValueTree) → a.signature ≡ signature_of b → ResultsFollow (signatures_of b) (meaning_of b) (arguments_of a) a.user a.results → m ≡ meaning_of b (arguments_of a) a.user a.results → Agrees b (one_more a r) c → IsOfType r (result_type_of (signatures_of b) m) → IsInBody b (one_more a r) c
body_after b a c m r own follow is agrees of_type =
    record {
      own = own;
      follow = one_more_follows (signatures_of b) (meaning_of b) (arguments_of a) a.user a.results r follow (subst (λ x. IsOfType r (result_type_of (signatures_of b) x)) is of_type);
      agrees = agrees;
    }

module _ (std : Standard) (ns : List NamedNative) (s : rules.Script) where
  -- a body's move by the numbers of the run
  script_asked : (who : Who) (n functions : ℕ) (signatures : List Signature) (behaviour : Behaviour) (a : SeenActivation) (Holds : ValueTree → Type 0) (m : Move) → signatures ≡ s.signatures → functions ≡ length s.functions + n → behaviour ≡ behaviour_of (program_beside std ns s) who → n ≤ length ns → IsNext signatures functions behaviour a Holds m → IsAsked (program_beside std ns s) who a Holds m
  script_asked who n functions signatures behaviour a Holds m signatures_are functions_are behaviour_is few next =
      let t = a.signature.result_type in
      let fits = subst (λ ss. MoveFits ss (length s.functions + n) t m) signatures_are (subst (λ k. MoveFits signatures k t m) functions_are next.fits) in
      let types : result_type_of (program_beside std ns s).signatures m ≡ result_type_of signatures m = script_type std ns s (length s.functions + n) t m fits ∙ ap (λ ss. result_type_of ss m) (sym signatures_are) in
      record {
        is = next.is ∙ ap (λ f. f (arguments_of a) a.user a.results) behaviour_is;
        fits = script_fits std ns s n t m few fits;
        after = λ r of_type. next.after r (subst (IsOfType r) types of_type);
      }

  meaning_is : (b : ScriptBody) (ms : List rules.ScriptMove) → signatures_of b ≡ s.signatures → moves_of b ≡ ms → meaning_of b ≡ script.behaviour_of s.signatures ms
  meaning_is b ms signatures_are moves_are =
      ap (λ ss. script.behaviour_of ss (moves_of b)) signatures_are ∙ ap (script.behaviour_of s.signatures) moves_are

  pub main_asked : (b : ScriptBody) (n : ℕ) (a : SeenActivation) (Holds : ValueTree → Type 0) (m : Move) → signatures_of b ≡ s.signatures → functions_of b ≡ length s.functions + n → moves_of b ≡ s.main → n ≤ length ns → IsNext (signatures_of b) (functions_of b) (meaning_of b) a Holds m → IsAsked (program_beside std ns s) main a Holds m
  main_asked b n a Holds m signatures_are functions_are moves_are few next =
      script_asked main n (functions_of b) (signatures_of b) (meaning_of b) a Holds m signatures_are functions_are (meaning_is b s.main signatures_are moves_are) few next

  pub function_asked : (b : ScriptBody) (k n : ℕ) (a : SeenActivation) (Holds : ValueTree → Type 0) (m : Move) → k < length s.functions → signatures_of b ≡ s.signatures → functions_of b ≡ length s.functions + n → moves_of b ≡ (read.function_at s k).body → n ≤ length ns → IsNext (signatures_of b) (functions_of b) (meaning_of b) a Holds m → IsAsked (program_beside std ns s) (function k) a Holds m
  function_asked b k n a Holds m below signatures_are functions_are moves_are few next =
      script_asked (function k) n (functions_of b) (signatures_of b) (meaning_of b) a Holds m signatures_are functions_are (meaning_is b (read.function_at s k).body signatures_are moves_are ∙ ap (λ f. f.behaviour) (sym (function_of_script std ns s k below))) few next

  -- ---- a native

  pub native_asked : (k first : ℕ) (n : Native) (a : SeenActivation) (m : Move) → length s.functions ≤ k → slice_get (natives_in ns) (k - length s.functions) ≡ Some n → first ≡ length s.signatures + signatures_before (natives_in ns) (k - length s.functions) → IsInNative n a → m ≡ n.behaviour (arguments_of a) a.user a.results → MoveFits n.signatures 1 a.signature.result_type m → IsAsked (program_beside std ns s) (function k) a (λ r. IsInNative n (one_more a r)) (renumbered first k m)
  native_asked k first n a m above at begins stands is fits =
      let t = a.signature.result_type in
      let function_is = function_of_native std ns s k first n above at begins in
      record {
        is = ap (renumbered first k) is ∙ ap (λ f. f.behaviour (arguments_of a) a.user a.results) (sym function_is);
        fits = native_fits std ns s k first n above at begins t m fits;
        after = λ r of_type. record {
          own = stands.own;
          follow = one_more_follows n.signatures n.behaviour (arguments_of a) a.user a.results r stands.follow (subst (λ x. IsOfType r (result_type_of n.signatures x)) is (subst (IsOfType r) (native_type std ns s k first n above at begins t m fits) of_type));
        };
      }

-- the native of this number, as it is handed in
pub native_here : (ns : List NamedNative) (j : ℕ) (n : NamedNative) → slice_get ns j ≡ Some n → slice_get (natives_in ns) j ≡ Some n.native
native_here ns j n is =
    slice_get-map (λ x. x.native) ns j ∙ ap (option_map (λ x. x.native)) is

-- ---- before the first move

pub no_results_follow : (signatures : List Signature) (behaviour : Behaviour) (a : SeenActivation) → a.results ≡ [] → ResultsFollow signatures behaviour (arguments_of a) a.user a.results
no_results_follow signatures behaviour a none =
    subst (ResultsFollow signatures behaviour (arguments_of a) a.user) (sym none) (none_follow signatures behaviour (arguments_of a) a.user)

-- a function of the script is called by one of the script's signatures
pub script_own : (std : Standard) (ns : List NamedNative) (s : rules.Script) (k : ℕ) (own : Signature) → k < length s.functions → (read.function_at s k).signature < length s.signatures → own ≡ own_signature (program_beside std ns s) (function k) → own ≡ signature_at s.signatures (read.function_at s k).signature
script_own std ns s k own below among is =
    is ∙ ap (λ f. signature_at (program_beside std ns s).signatures f.signature) (function_of_script std ns s k below) ∙ own_of_script std ns s (read.function_at s k).signature among

-- a native is called by the first of its own
pub native_own : (std : Standard) (ns : List NamedNative) (s : rules.Script) (k first : ℕ) (n : Native) (own : Signature) → length s.functions ≤ k → slice_get (natives_in ns) (k - length s.functions) ≡ Some n → first ≡ length s.signatures + signatures_before (natives_in ns) (k - length s.functions) → 0 < length n.signatures → own ≡ own_signature (program_beside std ns s) (function k) → own ≡ signature_at n.signatures 0
native_own std ns s k first n own above at begins some is =
    let from : first ≡ first + 0 = omega arith in
    is ∙ ap (λ f. signature_at (program_beside std ns s).signatures f.signature) (function_of_native std ns s k first n above at begins) ∙ ap (signature_at (program_beside std ns s).signatures) from ∙ own_of_native std ns s k first n above at begins 0 some

-- in a native, before its first move
pub handed_stands : (std : Standard) (ns : List NamedNative) (s : Script) (k first j : ℕ) (n : NamedNative) (a : SeenActivation) → j ≡ k - length (read.script_of s).functions → length (read.script_of s).functions ≤ k → slice_get ns j ≡ Some n → first ≡ length (read.script_of s).signatures + signatures_before (natives_in ns) j → 0 < length n.native.signatures → a.signature ≡ own_signature (program_beside std ns (read.script_of s)) (function k) → a.results ≡ [] → IsInHanded s ns k first a
handed_stands std ns s k first j n a j_is above at begins some own none =
    let here = subst (λ i. slice_get ns i ≡ Some n) j_is at in
    let from = subst (λ i. first ≡ length (read.script_of s).signatures + signatures_before (natives_in ns) i) j_is begins in
    record {
      native = n;
      is = record { above = above; is = here; begins = from };
      stands = record {
        own = native_own std ns (read.script_of s) k first n.native a.signature above (native_here ns (k - length (read.script_of s).functions) n here) from some own;
        follow = no_results_follow n.native.signatures n.native.behaviour a none;
      };
    }

-- ---- in a native that is handed in

-- a number of a list that was made of another
pub mapped_below : {A B : Type 0} (f : A → B) (xs : List A) (k : ℕ) (x : B) → slice_get (map f xs) k ≡ Some x → k < length xs
mapped_below f xs k x is =
    omega (arith, slice_get_within (map f xs) k x is, length-map xs f)

-- as many as there were
pub mapped_few : {A B : Type 0} (f : A → B) (xs : List A) (n : ℕ) → n ≤ length xs → n ≤ length (map f xs)
mapped_few f xs n few = omega (arith, few, length-map xs f)

pub mapped_count : {A B : Type 0} (f : A → B) (xs : List A) (n : ℕ) → n ≡ length xs → n ≡ length (map f xs)
mapped_count f xs n count = omega (arith, count, length-map xs f)

-- one of a list without fault
pub faultless_at : (ss ts : List Signature) (i : ℕ) (s : Signature) → All SignatureHasNoFault ts → ss ≡ ts → i < length ts → s ≡ signature_at ss i → SignatureHasNoFault s
faultless_at ss ts i s each same below is =
    subst SignatureHasNoFault (sym (is ∙ ap (λ us. signature_at us i) same)) (each i _ below)

module _ (ns : List NamedNative) (s : Script) (k first : ℕ) (a : SeenActivation) (stands : IsInHanded s ns k first a) (j : ℕ) (n : NamedNative) (j_is : j ≡ k - length (read.script_of s).functions) (at : slice_get ns j ≡ Some n) where
  here : slice_get ns (k - length (read.script_of s).functions) ≡ Some n
  here = subst (λ i. slice_get ns i ≡ Some n) j_is at

  pub handed_inside : IsInNative n.native a
  handed_inside =
      subst (λ x. IsInNative x.native a) (same_Some stands.native n (sym stands.is.is ∙ here)) stands.stands

  pub handed_room : (m : Move) → MoveFits n.native.signatures 1 a.signature.result_type m → length (read.script_of s).signatures < 2 ^ 31 → length (signatures_in ns) < 2 ^ 31 → k < 2 ^ 32 → HasRoom first k m
  handed_room m fits few_own few small =
      let within : first + length n.native.signatures ≤ length (read.script_of s).signatures + length (signatures_in ns) = handed_within ns (read.script_of s) k first n.native (native_here ns (k - length (read.script_of s).functions) n here) stands.is.begins in
      has_room n.native first k a.signature.result_type m fits (omega (arith, within, few_own, few)) small

  -- its move
  pub handed_asked : (std : Standard) (m asked : Move) → m ≡ n.native.behaviour (arguments_of a) a.user a.results → MoveFits n.native.signatures 1 a.signature.result_type m → asked ≡ renumbered first k m → IsAsked (program_beside std ns (read.script_of s)) (function k) a (λ r. IsInHanded s ns k first (one_more a r)) asked
  handed_asked std m asked is fits asked_is =
      let found = native_asked std ns (read.script_of s) k first n.native a m stands.is.above (native_here ns (k - length (read.script_of s).functions) n here) stands.is.begins handed_inside is fits in
      asked_as (program_beside std ns (read.script_of s)) (function k) a (λ r. IsInNative n.native (one_more a r)) (λ r. IsInHanded s ns k first (one_more a r)) (renumbered first k m) asked found asked_is (λ r later. record {
        native = n;
        is = record { above = stands.is.above; is = here; begins = stands.is.begins };
        stands = later;
      })
