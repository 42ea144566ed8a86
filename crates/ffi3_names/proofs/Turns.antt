-- One byte of a pass.
use Rattle.std.proofs.Common.{◌≡◌, ℕ, zero, suc, ◌+◌, ◌-◌, ◌<◌, ◌≤◌, List, ◌++◌, length, get_or, drop, ap, sym, subst, ◌∙◌, arith}
use Rattle.std.proofs.lemmas.List.{drop_more, drop_all, append-nil, append_assoc}
use Rattle.ffi3_cdecl_spec.specs.Tokens.{wide, Sign, Token, Found, blank, skipped, nothing_known, found, found_in}
use Rattle.ffi3_cdecl_spec.specs.Grammar.{Declaration}
use Rattle.ffi3_cdecl_spec.specs.Reading.{IsReadingIn, reads}
use Rattle.ffi3_names_spec.specs.Names.{AreNames}
use Rattle.ffi3_names_spec.specs.Scan.{Spot, told, next, names_found, names_over, names_in}
use Rattle.ffi3_names_spec.proofs.Naming.{name_laws}

over_inside : (c : Sign) (bs : List ℕ) (at inside : ℕ) (s : Spot) → at < length bs → 0 < inside → names_over c inside s (drop at bs) ≡ names_over c (inside - 1) s (drop (at + 1) bs)
over_inside c bs at zero s h some = absurd (omega (arith, some))
over_inside c bs at (suc inside) s h some =
    let e : inside ≡ suc inside - 1 = omega arith in
    ap (λ cs. names_over c (suc inside) s cs) (drop_more bs at 0 h) ∙ ap (λ n. names_over c n s (drop (at + 1) bs)) e

over_found : (c : Sign) (bs : List ℕ) (at inside : ℕ) (s : Spot) (f : Found) → at < length bs → inside ≤ 0 → f ≡ found_in wide c (get_or bs at 0) (drop (at + 1) bs) → names_over c inside s (drop at bs) ≡ names_found f s (λ i t. names_over c i t (drop (at + 1) bs))
over_found c bs at inside s f h none e =
    let z : inside ≡ 0 = omega (arith, none) in
    ap (λ i. names_over c i s (drop at bs)) z ∙ ap (λ cs. names_over c 0 s cs) (drop_more bs at 0 h) ∙ ap (λ g. names_found g s (λ i t. names_over c i t (drop (at + 1) bs))) (sym e)

-- behind a byte that tells no name
onward : (c : Sign) (rest : List ℕ) (more n : ℕ) (s t : Spot) (ns ms these all : List (List ℕ)) → more ≡ n → t ≡ s → ms ≡ ns → these ≡ names_over c n s rest → ns ++ these ≡ all → ms ++ names_over c more t rest ≡ all
onward c rest more n s t ns ms these all e f g there same =
    ap (λ i. ms ++ names_over c i t rest) e ∙ ap (λ q. ms ++ names_over c n q rest) f ∙ ap (λ os. os ++ names_over c n s rest) g ∙ ap (λ os. ns ++ os) (sym there) ∙ same

pub turn_inside : (c : Sign) (bs : List ℕ) (at inside more : ℕ) (s t : Spot) (ns ms all : List (List ℕ)) → at < length bs → 0 < inside → more ≡ inside - 1 → t ≡ s → ms ≡ ns → ns ++ names_over c inside s (drop at bs) ≡ all → ms ++ names_over c more t (drop (at + 1) bs) ≡ all
turn_inside c bs at inside more s t ns ms all h some e f g same =
    onward c (drop (at + 1) bs) more (inside - 1) s t ns ms (names_over c inside s (drop at bs)) all e f g (over_inside c bs at inside s h some) same

pub turn_blank : (c : Sign) (bs : List ℕ) (at inside more : ℕ) (s t : Spot) (ns ms all : List (List ℕ)) → at < length bs → inside ≤ 0 → more ≡ inside → t ≡ s → ms ≡ ns → blank ≡ found_in wide c (get_or bs at 0) (drop (at + 1) bs) → ns ++ names_over c inside s (drop at bs) ≡ all → ms ++ names_over c more t (drop (at + 1) bs) ≡ all
turn_blank c bs at inside more s t ns ms all h none e f g here same =
    let z : more ≡ 0 = omega (arith, none, e) in
    onward c (drop (at + 1) bs) more 0 s t ns ms (names_over c inside s (drop at bs)) all z f g (over_found c bs at inside s blank h none here) same

pub turn_skipped : (c : Sign) (bs : List ℕ) (at inside more n : ℕ) (s t : Spot) (ns ms all : List (List ℕ)) → at < length bs → inside ≤ 0 → more ≡ n → t ≡ s → ms ≡ ns → skipped n ≡ found_in wide c (get_or bs at 0) (drop (at + 1) bs) → ns ++ names_over c inside s (drop at bs) ≡ all → ms ++ names_over c more t (drop (at + 1) bs) ≡ all
turn_skipped c bs at inside more n s t ns ms all h none e f g here same =
    onward c (drop (at + 1) bs) more n s t ns ms (names_over c inside s (drop at bs)) all e f g (over_found c bs at inside s (skipped n) h none here) same

pub turn_token : (c : Sign) (bs : List ℕ) (at inside more n : ℕ) (x : Token) (s t : Spot) (ns ms all : List (List ℕ)) → at < length bs → inside ≤ 0 → more ≡ n → t ≡ next s x → ms ≡ ns ++ told s x → found x n ≡ found_in wide c (get_or bs at 0) (drop (at + 1) bs) → ns ++ names_over c inside s (drop at bs) ≡ all → ms ++ names_over c more t (drop (at + 1) bs) ≡ all
turn_token c bs at inside more n x s t ns ms all h none e f g here same =
    let rest = drop (at + 1) bs in
    ap (λ i. ms ++ names_over c i t rest) e ∙ ap (λ q. ms ++ names_over c n q rest) f ∙ ap (λ os. os ++ names_over c n (next s x) rest) g ∙ append_assoc ns (told s x) (names_over c n (next s x) rest) ∙ ap (λ os. ns ++ os) (sym (over_found c bs at inside s (found x n) h none here)) ∙ same

pub nothing_more : (c : Sign) (bs : List ℕ) (at inside : ℕ) (s : Spot) (ns all : List (List ℕ)) → at < length bs → inside ≤ 0 → nothing_known ≡ found_in wide c (get_or bs at 0) (drop (at + 1) bs) → ns ++ names_over c inside s (drop at bs) ≡ all → ns ≡ all
nothing_more c bs at inside s ns all h none here same =
    sym (append-nil ns) ∙ ap (λ os. ns ++ os) (sym (over_found c bs at inside s nothing_known h none here)) ∙ same

pub none_left : (c : Sign) (bs : List ℕ) (at inside : ℕ) (s : Spot) (ns all : List (List ℕ)) → length bs ≤ at → ns ++ names_over c inside s (drop at bs) ≡ all → ns ≡ all
none_left c bs at inside s ns all h same =
    sym (append-nil ns) ∙ ap (λ cs. ns ++ names_over c inside s cs) (sym (drop_all at bs h)) ∙ same

pub are_named : (c : Sign) (text : List ℕ) (ns : List (List ℕ)) → ns ≡ names_in c text → (d : Declaration) → IsReadingIn wide c text (reads d) → AreNames c text d ns
are_named c text ns e d read =
    subst (AreNames c text d) (sym e) (name_laws.found_in_one_pass c text d read)
