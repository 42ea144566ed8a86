-- The data of what stands in a text, part by part.
use Rattle.std.proofs.Common.{◌≡◌, ℕ, zero, suc, ◌+◌, ◌<◌, ◌≤◌, ◌&&◌, ◌||◌, List, [], ◌∷◌, length, drop, get_or, Bool, true, false, true≢false, Option, Some, None, option_map, option_and_then, cond, Ordering, Less, Equal, Greater, bytes_eq, nat_cmp, is_eq, Global, Vec, Bor, refl, sym, ap, ◌∙◌, subst, arith}
use Rattle.std.specs.Prelude.{slice_index_or, unwrap_or, is_some}
use Rattle.std.specs.Cmp.Lexicographic.{slice_cmp}
use Rattle.std.specs.Ordering.{match_ordering}
use Rattle.std.proofs.lemmas.Cmp.{nat_list_cmp_total, tied_itself}
use Rattle.std.proofs.lemmas.Map.Text.{is_eq-slice_cmp}
use Rattle.std.proofs.lemmas.Slice.Eq.{bytes_eq-Decides}
use Rattle.json.specs.Token.{Token}
use Rattle.json.specs.Lex.{tokens}
use Rattle.json.specs.Json as json
use Rattle.json.specs.Find as find
use Rattle.json.specs.Value.{value_view, items_view, members_view}
use Rattle.json.proofs.Trees.{view-Array, view-Object}
use Rattle.json.specs.declared.value.Value.{Value, Array, Object}
use Rattle.serde_json.specs.Data.{Num, Data, null, number, array, object, Items, no_items, item, Members, no_members, member, put}
use Rattle.serde_json.specs.Events.{items_len}
use Rattle.serde_json.specs.Find.{get, get_member, as_null, as_bool, as_number, as_str, as_array, as_object}
use Rattle.serde_json.specs.Read.{number_of, of_json, of_items, of_members, max_depth, read}
use Rattle.serde_json.proofs.Views.{get_member-put, get_member-put_other}
use Rattle.ffi3_script_spec.specs.Language.{Key, required, is_key_of, has_only}
use Rattle.ffi3_json.specs.Parts.{item_at, member_in, only_member}
use Rattle.ffi3_json.proofs.Objects.{next, none_left, is_some-map}
use Rattle.ffi3_json.specs.InText.{data_in, items_in, members_in, HasNumbers, HaveNumbers, each_is_key}

some_is : {A : Type 0} {x y : A} → Some x ≡ Some y → x ≡ y
some_is e = cc

some_not_none : {A : Type 0} {x : A} → Some x ≡ None → ⊥
some_not_none e = cc

none_not_some : {A : Type 0} {x : A} → None ≡ Some x → ⊥
none_not_some e = cc

-- ---- a value

pub is_data : (j : json.Json) (d : Data) → of_json j ≡ Some d → data_in j ≡ d
is_data j d e = ap (λ o. unwrap_or o null) e

pub has_numbers : (j : json.Json) (d : Data) → of_json j ≡ Some d → HasNumbers j
has_numbers j d e = e ∙ ap Some (sym (is_data j d e))

pub array_read : (js : json.Items) → HasNumbers (json.array js) → (data_in (json.array js) ≡ array (items_in js)) × HaveNumbers js
array_read js e = by (of_items js) e where
  by : (o : Option Items) → option_map array o ≡ Some (unwrap_or (option_map array o) null) → (unwrap_or (option_map array o) null ≡ array (unwrap_or o no_items)) × (o ≡ Some (unwrap_or o no_items))
  by None e = absurd (none_not_some e)
  by (Some ds) e = (refl, refl)

pub object_read : (ms : json.Members) → HasNumbers (json.object ms) → (data_in (json.object ms) ≡ object (members_in ms)) × (of_members ms no_members ≡ Some (members_in ms))
object_read ms e = by (of_members ms no_members) e where
  by : (o : Option Members) → option_map object o ≡ Some (unwrap_or (option_map object o) null) → (unwrap_or (option_map object o) null ≡ object (unwrap_or o no_members)) × (o ≡ Some (unwrap_or o no_members))
  by None e = absurd (none_not_some e)
  by (Some ds) e = (refl, refl)

number_is : (s : List ℕ) → HasNumbers (json.number s) → (n : Num) × (data_in (json.number s) ≡ number n) × (number_of s ≡ Some n)
number_is s e = by (number_of s) e where
  by : (o : Option Num) → option_map number o ≡ Some (unwrap_or (option_map number o) null) → (n : Num) × (unwrap_or (option_map number o) null ≡ number n) × (o ≡ Some n)
  by None e = absurd (none_not_some e)
  by (Some n) e = (n, refl, refl)

pub null_read : (j : json.Json) → HasNumbers j → find.is_null j ≡ is_some (as_null (data_in j))
null_read json.null e = refl
null_read (json.boolean b) e = refl
null_read (json.number s) e = ap (λ d. is_some (as_null d)) (sym (number_is s e).1)
null_read (json.string s) e = refl
null_read (json.array js) e = ap (λ d. is_some (as_null d)) (sym (array_read js e).0)
null_read (json.object ms) e = ap (λ d. is_some (as_null d)) (sym (object_read ms e).0)

pub bool_read : (j : json.Json) → HasNumbers j → find.as_bool j ≡ as_bool (data_in j)
bool_read json.null e = refl
bool_read (json.boolean b) e = refl
bool_read (json.number s) e = ap as_bool (sym (number_is s e).1)
bool_read (json.string s) e = refl
bool_read (json.array js) e = ap as_bool (sym (array_read js e).0)
bool_read (json.object ms) e = ap as_bool (sym (object_read ms e).0)

pub text_read : (j : json.Json) → HasNumbers j → find.as_str j ≡ as_str (data_in j)
text_read json.null e = refl
text_read (json.boolean b) e = refl
text_read (json.number s) e = ap as_str (sym (number_is s e).1)
text_read (json.string s) e = refl
text_read (json.array js) e = ap as_str (sym (array_read js e).0)
text_read (json.object ms) e = ap as_str (sym (object_read ms e).0)

pub number_read : (j : json.Json) (s : List ℕ) → HasNumbers j → Some s ≡ find.as_number j → number_of s ≡ as_number (data_in j)
number_read json.null s e some = absurd (some_not_none some)
number_read (json.boolean b) s e some = absurd (some_not_none some)
number_read (json.number t) s e some =
    let h = number_is t e in
    ap number_of (some_is some) ∙ h.2 ∙ ap as_number (sym h.1)
number_read (json.string t) s e some = absurd (some_not_none some)
number_read (json.array js) s e some = absurd (some_not_none some)
number_read (json.object ms) s e some = absurd (some_not_none some)

pub no_number : (j : json.Json) → HasNumbers j → None ≡ find.as_number j → None ≡ as_number (data_in j)
no_number json.null e none = refl
no_number (json.boolean b) e none = refl
no_number (json.number s) e none = absurd (none_not_some none)
no_number (json.string s) e none = refl
no_number (json.array js) e none = ap as_number (sym (array_read js e).0)
no_number (json.object ms) e none = ap as_number (sym (object_read ms e).0)

pub items_read : (j : json.Json) (js : json.Items) → HasNumbers j → Some js ≡ find.as_array j → (Some (items_in js) ≡ as_array (data_in j)) × HaveNumbers js
items_read json.null js e some = absurd (some_not_none some)
items_read (json.boolean b) js e some = absurd (some_not_none some)
items_read (json.number s) js e some = absurd (some_not_none some)
items_read (json.string s) js e some = absurd (some_not_none some)
items_read (json.array is) js e some =
    let h = array_read is e in
    let same : js ≡ is = some_is some in
    (ap (λ x. Some (items_in x)) same ∙ ap as_array (sym h.0), subst HaveNumbers (sym same) h.1)
items_read (json.object ms) js e some = absurd (some_not_none some)

pub no_items_read : (j : json.Json) → HasNumbers j → None ≡ find.as_array j → None ≡ as_array (data_in j)
no_items_read json.null e none = refl
no_items_read (json.boolean b) e none = refl
no_items_read (json.number s) e none = ap as_array (sym (number_is s e).1)
no_items_read (json.string s) e none = refl
no_items_read (json.array js) e none = absurd (none_not_some none)
no_items_read (json.object ms) e none = ap as_array (sym (object_read ms e).0)

pub members_read : (j : json.Json) (ms : json.Members) → HasNumbers j → Some ms ≡ find.as_object j → (data_in j ≡ object (members_in ms)) × (of_members ms no_members ≡ Some (members_in ms))
members_read json.null ms e some = absurd (some_not_none some)
members_read (json.boolean b) ms e some = absurd (some_not_none some)
members_read (json.number s) ms e some = absurd (some_not_none some)
members_read (json.string s) ms e some = absurd (some_not_none some)
members_read (json.array js) ms e some = absurd (some_not_none some)
members_read (json.object ns) ms e some =
    let h = object_read ns e in
    let same : ms ≡ ns = some_is some in
    (h.0 ∙ ap (λ x. object (members_in x)) (sym same), subst (λ x. of_members x no_members ≡ Some (members_in x)) (sym same) h.1)

pub no_members_read : (j : json.Json) → HasNumbers j → None ≡ find.as_object j → None ≡ as_object (data_in j)
no_members_read json.null e none = refl
no_members_read (json.boolean b) e none = refl
no_members_read (json.number s) e none = ap as_object (sym (number_is s e).1)
no_members_read (json.string s) e none = refl
no_members_read (json.array js) e none = ap as_object (sym (array_read js e).0)
no_members_read (json.object ms) e none = absurd (none_not_some none)

pub all_numbers : (j : json.Json) → is_some (of_json j) ≡ true → HasNumbers j
all_numbers j e = by (of_json j) e where
  by : (o : Option Data) → is_some o ≡ true → o ≡ Some (unwrap_or o null)
  by None e = absurd (true≢false (sym e))
  by (Some d) e = refl

pub not_all_numbers : (j : json.Json) → is_some (of_json j) ≡ false → of_json j ≡ None
not_all_numbers j e = by (of_json j) e where
  by : (o : Option Data) → is_some o ≡ false → o ≡ None
  by None e = refl
  by (Some d) e = absurd (true≢false e)

-- ---- items

both_of : (o : Option Data) (p : Option Items) (ds : Items) → option_and_then (λ d. option_map (item d) p) o ≡ Some ds → (d : Data) × (es : Items) × (o ≡ Some d) × (p ≡ Some es) × (item d es ≡ ds)
both_of None p ds e = absurd (none_not_some e)
both_of (Some d) None ds e = absurd (none_not_some e)
both_of (Some d) (Some es) ds e = (d, es, refl, refl, some_is e)

length-read : (vs : List (Value Global)) (ds : Items) → of_items (items_view vs) ≡ Some ds → items_len ds ≡ length vs
length-read [] ds e = sym (ap items_len (some_is e))
length-read (v ∷ vs) ds e =
    let h = both_of (of_json (value_view v)) (of_items (items_view vs)) ds e in
    sym (ap items_len h.4) ∙ ap suc (length-read vs h.1 h.3)

pub items_len-in : (vs : List (Value Global)) → HaveNumbers (items_view vs) → items_len (items_in (items_view vs)) ≡ length vs
items_len-in vs e = length-read vs (items_in (items_view vs)) e

one_read : (vs : List (Value Global)) (ds : Items) (i : ℕ) (v : Value Global) → i < length vs → of_items (items_view vs) ≡ Some ds → of_json (value_view (get_or vs i v)) ≡ Some (item_at ds i)
one_read [] ds i v below e = absurd (omega arith)
one_read (x ∷ vs) ds zero v below e =
    let h = both_of (of_json (value_view x)) (of_items (items_view vs)) ds e in
    h.2 ∙ ap (λ es. Some (item_at es 0)) h.4
one_read (x ∷ vs) ds (suc i) v below e =
    let h = both_of (of_json (value_view x)) (of_items (items_view vs)) ds e in
    one_read vs h.1 i v (omega arith) h.3 ∙ ap (λ es. Some (item_at es (suc i))) h.4

pub item_read : (vs : List (Value Global)) (i : ℕ) (x : Value Global) → i < length vs → x ≡ slice_index_or vs i x → HaveNumbers (items_view vs) → of_json (value_view x) ≡ Some (item_at (items_in (items_view vs)) i)
item_read vs i x below is e = ap (λ v. of_json (value_view v)) is ∙ one_read vs (items_in (items_view vs)) i x below e

-- ---- members, by their keys

next_read : (o : Option Data) (more : Data → Option Members) (out : Members) → option_and_then more o ≡ Some out → (d : Data) × (o ≡ Some d) × (more d ≡ Some out)
next_read None more out e = absurd (none_not_some e)
next_read (Some d) more out e = (d, refl, e)

apart : (l k : List ℕ) → bytes_eq l k ≡ false → k ≡ l → ⊥
apart l k e same = true≢false (sym ((bytes_eq-Decides l k).1 (sym same)) ∙ e)

no_later : (a : Option json.Json) (b : Bool) (j : json.Json) → find.later_or a (cond b (Some j) None) ≡ None → (a ≡ None) × (b ≡ false)
no_later None true j e = absurd (some_not_none e)
no_later None false j e = (refl, refl)
no_later (Some i) b j e = absurd (some_not_none e)

here_or_later : (a : Option json.Json) (b : Bool) (j i : json.Json) (P : Type 0) → find.later_or a (cond b (Some j) None) ≡ Some i → (a ≡ Some i → P) → (a ≡ None → b ≡ true → j ≡ i → P) → P
here_or_later (Some x) b j i P e later here = later e
here_or_later None true j i P e later here = here refl refl (some_is e)
here_or_later None false j i P e later here = absurd (none_not_some e)

member_none : (k : List ℕ) (ms : json.Members) (found out : Members) → of_members ms found ≡ Some out → find.get_member k ms ≡ None → get_member k out ≡ get_member k found
member_none k json.no_members found out e none = ap (get_member k) (sym (some_is e))
member_none k (json.member l j ms) found out e none =
    let p = next_read (of_json j) (λ d. of_members ms (put l d found)) out e in
    let h = no_later (find.get_member k ms) (bytes_eq l k) j none in
    member_none k ms (put l p.0 found) out p.2 h.0 ∙ get_member-put_other k l p.0 found (apart l k h.1)

abbrev Found : List ℕ → Members → json.Json → Type 0
Found k out i = (d : Data) × (of_json i ≡ Some d) × (get_member k out ≡ Some d)

member_some : (k : List ℕ) (ms : json.Members) (found out : Members) (i : json.Json) → of_members ms found ≡ Some out → find.get_member k ms ≡ Some i → Found k out i
member_some k json.no_members found out i e some = absurd (none_not_some some)
member_some k (json.member l j ms) found out i e some =
    let p = next_read (of_json j) (λ d. of_members ms (put l d found)) out e in
    here_or_later (find.get_member k ms) (bytes_eq l k) j i (Found k out i) some
    (λ later. member_some k ms (put l p.0 found) out i p.2 later)
    (λ none named is. (
      p.0,
      ap of_json (sym is) ∙ p.1,
      member_none k ms (put l p.0 found) out p.2 none ∙ ap (λ n. get_member k (put n p.0 found)) ((bytes_eq-Decides l k).0 named) ∙ get_member-put k p.0 found,
    ))

pub get_read : (k : List ℕ) (j i : json.Json) → HasNumbers j → find.get k j ≡ Some i → HasNumbers i × (Some (data_in i) ≡ get k (data_in j))
get_read k json.null i e some = absurd (none_not_some some)
get_read k (json.boolean b) i e some = absurd (none_not_some some)
get_read k (json.number s) i e some = absurd (none_not_some some)
get_read k (json.string s) i e some = absurd (none_not_some some)
get_read k (json.array js) i e some = absurd (none_not_some some)
get_read k (json.object ms) i e some =
    let h = object_read ms e in
    let r = member_some k ms no_members (members_in ms) i h.1 some in
    (has_numbers i r.0 r.1, ap Some (is_data i r.0 r.1) ∙ sym r.2 ∙ ap (get k) (sym h.0))

pub get_none : (k : List ℕ) (j : json.Json) → HasNumbers j → find.get k j ≡ None → None ≡ get k (data_in j)
get_none k json.null e none = refl
get_none k (json.boolean b) e none = refl
get_none k (json.number s) e none = by (number_of s) where
  by : (o : _) → None ≡ get k (unwrap_or (option_map number o) null)
  by None = refl
  by (Some n) = refl
get_none k (json.string s) e none = refl
get_none k (json.array js) e none = ap (get k) (sym (array_read js e).0)
get_none k (json.object ms) e none =
    let h = object_read ms e in
    sym (member_none k ms no_members (members_in ms) h.1 none) ∙ ap (get k) (sym h.0)

-- ---- the keys of an object

equal_keys : (l k : List ℕ) → slice_cmp nat_cmp l k ≡ Equal → l ≡ k
equal_keys l k e = (bytes_eq-Decides l k).0 (sym (is_eq-slice_cmp l k) ∙ ap is_eq e)

twice : (a b c : Bool) → a ≡ b → (b && c) ≡ (a && (b && c))
twice true b c e = refl
twice false true c e = absurd (true≢false (sym e))
twice false false c e = refl

swap : (a b c : Bool) → (a && (b && c)) ≡ (b && (a && c))
swap true true c = refl
swap true false c = refl
swap false true c = refl
swap false false c = refl

joined : (a b c : Bool) → (a && (b && c)) ≡ ((b && a) && c)
joined true true c = refl
joined true false c = refl
joined false true c = refl
joined false false c = refl

and_true : (b : Bool) → (b && true) ≡ b
and_true true = refl
and_true false = refl

only_at : (o : Ordering) (keys : List Key) (k l : List ℕ) (d e : Data) (ms : Members) → slice_cmp nat_cmp k l ≡ o → has_only keys (put k d ms) ≡ (is_key_of keys k && has_only keys ms)
    → has_only keys (match_ordering o (member k d (member l e ms)) (member l d ms) (member l e (put k d ms))) ≡ (is_key_of keys k && (is_key_of keys l && has_only keys ms))
only_at Less keys k l d e ms is later = refl
only_at Equal keys k l d e ms is later = twice (is_key_of keys k) (is_key_of keys l) (has_only keys ms) (ap (is_key_of keys) (equal_keys k l is))
only_at Greater keys k l d e ms is later = ap (λ b. is_key_of keys l && b) later ∙ swap (is_key_of keys l) (is_key_of keys k) (has_only keys ms)

has_only-put : (keys : List Key) (k : List ℕ) (d : Data) (ms : Members) → has_only keys (put k d ms) ≡ (is_key_of keys k && has_only keys ms)
has_only-put keys k d no_members = refl
has_only-put keys k d (member l e ms) = only_at (slice_cmp nat_cmp k l) keys k l d e ms refl (has_only-put keys k d ms)

only_beside : (keys : List Key) (ms : json.Members) (found out : Members) → of_members ms found ≡ Some out → has_only keys out ≡ (each_is_key keys ms && has_only keys found)
only_beside keys json.no_members found out e = ap (has_only keys) (sym (some_is e))
only_beside keys (json.member k j ms) found out e =
    let p = next_read (of_json j) (λ d. of_members ms (put k d found)) out e in
    only_beside keys ms (put k p.0 found) out p.2 ∙ ap (λ b. each_is_key keys ms && b) (has_only-put keys k p.0 found) ∙ joined (each_is_key keys ms) (is_key_of keys k) (has_only keys found)

pub only_read : (keys : List Key) (ms : json.Members) (out : Members) → of_members ms no_members ≡ Some out → each_is_key keys ms ≡ has_only keys out
only_read keys ms out e = sym (only_beside keys ms no_members out e ∙ and_true (each_is_key keys ms))

-- ---- the one member of an object

put_same : (l k : List ℕ) (e d : Data) (ms : Members) → l ≡ k → put l e (member k d ms) ≡ member k e ms
put_same l k e d ms same =
    ap (λ n. put n e (member k d ms)) same ∙ ap (λ o. match_ordering o (member k e (member k d ms)) (member k e ms) (member k d (put k e ms))) (tied_itself nat_list_cmp_total k)

-- no member but one of this name
abbrev Lone : List ℕ → Members → Type 0
Lone name no_members = Unit {0}
Lone name (member k d ms) = (k ≡ name) × (ms ≡ no_members)

Lone-put : (name k : List ℕ) (d : Data) (ms : Members) → k ≡ name → Lone name ms → Lone name (put k d ms)
Lone-put name k d no_members named lone = (named, refl)
Lone-put name k d (member l e ms) named lone = subst (Lone name) (sym (put_same k l d e ms (named ∙ sym lone.0))) lone

and_first : (a b : Bool) → (a && b) ≡ true → a ≡ true
and_first true b e = refl
and_first false b e = absurd (true≢false (sym e))

and_second : (a b : Bool) → (a && b) ≡ true → b ≡ true
and_second true b e = e
and_second false b e = absurd (true≢false (sym e))

or_false : (a : Bool) → (a || false) ≡ true → a ≡ true
or_false true e = refl
or_false false e = e

abbrev one_key : List ℕ → List Key
one_key name = required name ∷ []

named_key : (name k : List ℕ) → is_key_of (one_key name) k ≡ true → k ≡ name
named_key name k e = sym ((bytes_eq-Decides name k).0 (or_false (bytes_eq name k) e))

Lone-of_members : (name : List ℕ) (ms : json.Members) (found out : Members) → each_is_key (one_key name) ms ≡ true → of_members ms found ≡ Some out → Lone name found → Lone name out
Lone-of_members name json.no_members found out keys e lone = subst (Lone name) (some_is e) lone
Lone-of_members name (json.member k j ms) found out keys e lone =
    let p = next_read (of_json j) (λ d. of_members ms (put k d found)) out e in
    let named = named_key name k (and_first (is_key_of (one_key name) k) (each_is_key (one_key name) ms) keys) in
    Lone-of_members name ms (put k p.0 found) out (and_second (is_key_of (one_key name) k) (each_is_key (one_key name) ms) keys) p.2 (Lone-put name k p.0 found named lone)

alone : (name : List ℕ) (out : Members) (d : Data) → Lone name out → Some d ≡ get_member name out → Some (name, d) ≡ member_in out
alone name no_members d lone some = absurd (some_not_none some)
alone name (member k e ms) d lone some =
    let found : get_member name (member k e ms) ≡ Some e = ap (λ n. get_member n (member k e ms)) (sym lone.0) ∙ ap (λ o. match_ordering o (get_member k ms) (Some e) (get_member k ms)) (tied_itself nat_list_cmp_total k) in
    let same : d ≡ e = some_is (some ∙ found) in
    (λ i. Some (sym lone.0 i, same i)) ∙ ap (λ rest. member_in (member k e rest)) (sym lone.1)

pub only_one : (j : json.Json) (ms : json.Members) (name : List ℕ) (i : json.Json) → HasNumbers j → Some ms ≡ find.as_object j → Some i ≡ find.get name j → true ≡ each_is_key (one_key name) ms → Some (name, data_in i) ≡ only_member (data_in j)
only_one j ms name i e some found keys =
    let h = members_read j ms e some in
    let r = get_read name j i e (sym found) in
    let lone = Lone-of_members name ms no_members (members_in ms) (sym keys) h.1 tt in
    alone name (members_in ms) (data_in i) lone (r.1 ∙ ap (get name) h.0) ∙ ap only_member (sym h.0)

single : (name : List ℕ) (out : Members) (d : Data) → Some d ≡ get_member name out → has_only (one_key name) out ≡ false → None ≡ member_in out
single name no_members d some only = refl
single name (member k e no_members) d some only = absurd (true≢false (sym (key_there (slice_cmp nat_cmp name k) refl some) ∙ only))
  where
    key_there : (o : Ordering) → slice_cmp nat_cmp name k ≡ o → Some d ≡ match_ordering o None (Some e) None → has_only (one_key name) (member k e no_members) ≡ true
    key_there Less is some = absurd (some_not_none some)
    key_there Equal is some = ap (λ b. (b || false) && true) ((bytes_eq-Decides name k).1 (equal_keys name k is))
    key_there Greater is some = absurd (some_not_none some)
single name (member k e (member l f ms)) d some only = refl

pub not_only_one : (j : json.Json) (ms : json.Members) (name : List ℕ) (i : json.Json) → HasNumbers j → Some ms ≡ find.as_object j → Some i ≡ find.get name j → false ≡ each_is_key (one_key name) ms → None ≡ only_member (data_in j)
not_only_one j ms name i e some found keys =
    let h = members_read j ms e some in
    let r = get_read name j i e (sym found) in
    single name (members_in ms) (data_in i) (r.1 ∙ ap (get name) h.0) (sym (only_read (one_key name) ms (members_in ms) h.1) ∙ sym keys) ∙ ap only_member (sym h.0)

-- the name of the first member is found
pub first_there : (j : json.Json) (vs : List (Bor (List ℕ) × Value Global)) (m : Bor (List ℕ) × Value Global) → Some (members_view vs) ≡ find.as_object j → 0 < length vs → m ≡ slice_index_or vs 0 m → None ≡ find.get m.0.now j → ⊥
first_there json.null vs m some long is none = some_not_none some
first_there (json.boolean b) vs m some long is none = some_not_none some
first_there (json.number s) vs m some long is none = some_not_none some
first_there (json.string s) vs m some long is none = some_not_none some
first_there (json.array js) vs m some long is none = some_not_none some
first_there (json.object ms) [] m some long is none = absurd (omega arith)
first_there (json.object ms) (v ∷ vs) m some long is none =
    let seen : find.get_member m.0.now ms ≡ None = sym none in
    let all : find.get_member v.0.now (members_view (v ∷ vs)) ≡ None = ap (find.get_member v.0.now) (some_is some) ∙ ap (λ (x : Bor (List ℕ) × Value Global). find.get_member x.0.now ms) (sym is) ∙ seen in
    apart v.0.now v.0.now (no_later (find.get_member v.0.now (members_view vs)) (bytes_eq v.0.now v.0.now) (value_view v.1) all).1 refl

no_member : (j : json.Json) → HasNumbers j → None ≡ find.as_object j → None ≡ only_member (data_in j)
no_member json.null e none = refl
no_member (json.boolean b) e none = refl
no_member (json.number s) e none = ap only_member (sym (number_is s e).1)
no_member (json.string s) e none = refl
no_member (json.array js) e none = ap only_member (sym (array_read js e).0)
no_member (json.object ms) e none = absurd (none_not_some none)

pub not_an_object : (j : json.Json) → HasNumbers j → None ≡ find.as_object j → None ≡ only_member (data_in j)
not_an_object j e none = no_member j e none

pub no_members_there : (j : json.Json) (vs : List (Bor (List ℕ) × Value Global)) → HasNumbers j → Some (members_view vs) ≡ find.as_object j → length vs < 1 → None ≡ only_member (data_in j)
no_members_there j [] e some short = ap only_member (sym ((members_read j json.no_members e some).0))
no_members_there j (v ∷ vs) e some short = absurd (omega arith)

-- ---- keys, member by member

pub keys_later : (keys : List Key) (all : List (Bor (List ℕ) × Value Global)) (i : ℕ) (m : Bor (List ℕ) × Value Global) → i < length all → m ≡ slice_index_or all i m
    → each_is_key keys (members_view all) ≡ each_is_key keys (members_view (drop i all)) → is_key_of keys m.0.now ≡ true
    → each_is_key keys (members_view all) ≡ each_is_key keys (members_view (drop (i + 1) all))
keys_later keys all i m below is so_far known =
    so_far ∙ ap (λ ms. each_is_key keys (members_view ms)) (next all i m below is) ∙ ap (λ b. b && each_is_key keys (members_view (drop (i + 1) all))) known

pub keys_unknown : (keys : List Key) (all : List (Bor (List ℕ) × Value Global)) (i : ℕ) (m : Bor (List ℕ) × Value Global) → i < length all → m ≡ slice_index_or all i m
    → each_is_key keys (members_view all) ≡ each_is_key keys (members_view (drop i all)) → is_key_of keys m.0.now ≡ false
    → false ≡ each_is_key keys (members_view all)
keys_unknown keys all i m below is so_far unknown =
    sym (so_far ∙ ap (λ ms. each_is_key keys (members_view ms)) (next all i m below is) ∙ ap (λ b. b && each_is_key keys (members_view (drop (i + 1) all))) unknown)

pub keys_end : (keys : List Key) (all : List (Bor (List ℕ) × Value Global)) (i : ℕ) → length all ≤ i
    → each_is_key keys (members_view all) ≡ each_is_key keys (members_view (drop i all)) → true ≡ each_is_key keys (members_view all)
keys_end keys all i end so_far = sym (so_far ∙ ap (λ ms. each_is_key keys (members_view ms)) (none_left all i end))

-- ---- whether numbers are in range, item by item

pub item_goes_on : (j : json.Json) (js : json.Items) → is_some (of_json j) ≡ true → is_some (of_items (json.item j js)) ≡ is_some (of_items js)
item_goes_on j js e = by (of_json j) (of_items js) e where
  by : (o : Option Data) (p : Option Items) → is_some o ≡ true → is_some (option_and_then (λ d. option_map (item d) p) o) ≡ is_some p
  by None p e = absurd (true≢false (sym e))
  by (Some d) None e = refl
  by (Some d) (Some ds) e = refl

pub item_ends : (j : json.Json) (js : json.Items) → is_some (of_json j) ≡ false → is_some (of_items (json.item j js)) ≡ false
item_ends j js e = by (of_json j) e where
  by : (o : Option Data) → is_some o ≡ false → is_some (option_and_then (λ d. option_map (item d) (of_items js)) o) ≡ false
  by None e = refl
  by (Some d) e = absurd (true≢false e)

whatever : (ms : json.Members) (a b : Members) → is_some (of_members ms a) ≡ is_some (of_members ms b)
whatever json.no_members a b = refl
whatever (json.member k j ms) a b = by (of_json j) (λ d. whatever ms (put k d a) (put k d b)) where
  by : (o : Option Data) → ((d : Data) → is_some (of_members ms (put k d a)) ≡ is_some (of_members ms (put k d b))) → is_some (option_and_then (λ d. of_members ms (put k d a)) o) ≡ is_some (option_and_then (λ d. of_members ms (put k d b)) o)
  by None more = refl
  by (Some d) more = more d

pub member_goes_on : (k : List ℕ) (j : json.Json) (ms : json.Members) → is_some (of_json j) ≡ true → is_some (of_members (json.member k j ms) no_members) ≡ is_some (of_members ms no_members)
member_goes_on k j ms e = by (of_json j) e where
  by : (o : Option Data) → is_some o ≡ true → is_some (option_and_then (λ d. of_members ms (put k d no_members)) o) ≡ is_some (of_members ms no_members)
  by None e = absurd (true≢false (sym e))
  by (Some d) e = whatever ms (put k d no_members) no_members

pub member_ends : (k : List ℕ) (j : json.Json) (ms : json.Members) → is_some (of_json j) ≡ false → is_some (of_members (json.member k j ms) no_members) ≡ false
member_ends k j ms e = by (of_json j) e where
  by : (o : Option Data) → is_some o ≡ false → is_some (option_and_then (λ d. of_members ms (put k d no_members)) o) ≡ false
  by None e = refl
  by (Some d) e = absurd (true≢false e)

pub array_numbers : (v : Vec (Value Global) Global) (x : Value Global) → Array v ≡ x → is_some (of_items (items_view v.items)) ≡ is_some (of_json (value_view x))
array_numbers v x is =
    sym (is_some-map array (of_items (items_view v.items))) ∙ ap (λ j. is_some (of_json j)) (sym (view-Array v)) ∙ ap (λ y. is_some (of_json (value_view y))) is

pub object_numbers : (v : Vec (Bor (List ℕ) × Value Global) Global) (x : Value Global) → Object v ≡ x → is_some (of_members (members_view v.items) no_members) ≡ is_some (of_json (value_view x))
object_numbers v x is =
    sym (is_some-map object (of_members (members_view v.items) no_members)) ∙ ap (λ j. is_some (of_json j)) (sym (view-Object v)) ∙ ap (λ y. is_some (of_json (value_view y))) is

-- ---- the whole of a text

abbrev whole : Option (json.Json × List Token) → Option Data
whole o = option_and_then of_json (option_and_then (λ p. json.if_last p.0 p.1) o)

pub document_read : (bytes text : List ℕ) (j : json.Json) (ts rest : List Token) → text ≡ bytes → ts ≡ tokens text → json.value max_depth ts ≡ Some (j, rest) → rest ≡ [] → HasNumbers j → read bytes ≡ Some (data_in j)
document_read bytes text j ts rest same from e none numbers =
    ap (λ s. whole (json.value max_depth (tokens s))) (sym same) ∙ ap (λ t. whole (json.value max_depth t)) (sym from) ∙ ap whole e ∙ ap (λ r. whole (Some (j, r))) none ∙ numbers

pub document_refused : (bytes text : List ℕ) (ts : List Token) → text ≡ bytes → ts ≡ tokens text → json.value max_depth ts ≡ None → read bytes ≡ None
document_refused bytes text ts same from e =
    ap (λ s. whole (json.value max_depth (tokens s))) (sym same) ∙ ap (λ t. whole (json.value max_depth t)) (sym from) ∙ ap whole e

pub document_goes_on : (bytes text : List ℕ) (j : json.Json) (ts rest more : List Token) (t : Token) → text ≡ bytes → ts ≡ tokens text → json.value max_depth ts ≡ Some (j, rest) → rest ≡ t ∷ more → read bytes ≡ None
document_goes_on bytes text j ts rest more t same from e some =
    ap (λ s. whole (json.value max_depth (tokens s))) (sym same) ∙ ap (λ x. whole (json.value max_depth x)) (sym from) ∙ ap whole e ∙ ap (λ r. whole (Some (j, r))) some

pub document_too_large : (bytes text : List ℕ) (j : json.Json) (ts rest : List Token) → text ≡ bytes → ts ≡ tokens text → json.value max_depth ts ≡ Some (j, rest) → rest ≡ [] → of_json j ≡ None → read bytes ≡ None
document_too_large bytes text j ts rest same from e none large =
    ap (λ s. whole (json.value max_depth (tokens s))) (sym same) ∙ ap (λ t. whole (json.value max_depth t)) (sym from) ∙ ap whole e ∙ ap (λ r. whole (Some (j, r))) none ∙ large
