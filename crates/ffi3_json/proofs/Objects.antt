-- Keys and members, one by one.
use Rattle.std.proofs.Common.{◌≡◌, ℕ, zero, suc, ◌+◌, ◌||◌, ◌&&◌, ◌<◌, ◌≤◌, List, [], ◌∷◌, length, map, drop, Bool, true, false, Option, Some, None, Ordering, Less, Equal, Greater, cond, ◌≢◌, bytes_eq, codes, string_bytes, nat_cmp, refl, sym, ap, ◌∙◌, subst, arith}
use Rattle.std.specs.Prelude.{slice_index_or, is_some, option_map}
use Rattle.std.proofs.lemmas.List.{drop_more}
use Rattle.std.proofs.lemmas.Slice.Eq.{bytes_eq-Decides}
use Rattle.std.specs.Cmp.Lexicographic.{slice_cmp}
use Rattle.std.specs.Ordering.{match_ordering}
use Rattle.serde_json.specs.Data.{Data, null, boolean, number, string, array, object, Items, Members, no_members, member, depth, members_depth}
use Rattle.serde_json.specs.Find.{get, get_member, as_object, as_array}
use Rattle.serde_json.specs.Events.{members_len}
use Rattle.ffi3_type_spec.specs.Tree.{struct_of}
use Rattle.ffi3_script_spec.specs.Language.{JsonPath, fault, read_map, not_a_type, under, read_type, read_types, read_composite, read_array, has_arrays, HasShortArrays, HaveShortMembers, is_key_of, has_only, first_missing}
use Rattle.ffi3_script_spec.specs.Language as language
use Rattle.serde_json.specs.View.{members_view}
use Rattle.serde_json.proofs.Views.{Entry}
use Rattle.ffi3_json.specs.KeyOf.{key_of}
use Rattle.ffi3_json.specs.Parts.{member_in, only_member}
use Rattle.ffi3_json.specs.declared.keys.Key.{Key}

some_is : {A : Type 0} {x y : A} → Some x ≡ Some y → x ≡ y
some_is e = cc

some_not_none : {A : Type 0} {x : A} → Some x ≡ None → ⊥
some_not_none e = cc

none_not_some : {A : Type 0} {x : A} → None ≡ Some x → ⊥
none_not_some e = cc

pub object_is : (d : Data) (ms : Members) → as_object d ≡ Some ms → d ≡ object ms
object_is null ms e = absurd (none_not_some e)
object_is (boolean b) ms e = absurd (none_not_some e)
object_is (number n) ms e = absurd (none_not_some e)
object_is (string s) ms e = absurd (none_not_some e)
object_is (array ds) ms e = absurd (none_not_some e)
object_is (object m) ms e = ap object (some_is e)

pub array_is : (d : Data) (ds : Items) → as_array d ≡ Some ds → d ≡ array ds
array_is null ds e = absurd (none_not_some e)
array_is (boolean b) ds e = absurd (none_not_some e)
array_is (number n) ds e = absurd (none_not_some e)
array_is (string s) ds e = absurd (none_not_some e)
array_is (array d) ds e = ap array (some_is e)
array_is (object ms) ds e = absurd (none_not_some e)

-- ---- the one key of a struct or an array

-- an object of one member is read by its key
pub type_of_member : (version : ℕ) (d : Data) (name : List ℕ) (e : Data) (path : JsonPath) → only_member d ≡ Some (name, e) → read_type version d path ≡ read_composite version (member name e no_members) path
type_of_member version null name e path h = absurd (none_not_some h)
type_of_member version (boolean b) name e path h = absurd (none_not_some h)
type_of_member version (number n) name e path h = absurd (none_not_some h)
type_of_member version (string s) name e path h = absurd (none_not_some h)
type_of_member version (array ds) name e path h = absurd (none_not_some h)
type_of_member version (object no_members) name e path h = absurd (none_not_some h)
type_of_member version (object (member k d no_members)) name e path h =
    λ i. read_composite version (member (some_is h i).0 (some_is h i).1 no_members) path
type_of_member version (object (member k d (member l x ms))) name e path h = absurd (none_not_some h)

not_so : (b : Bool) → (b ≡ true → ⊥) → b ≡ false
not_so true h = absurd (h refl)
not_so false h = refl

not_named : (key name : List ℕ) → name ≢ key → bytes_eq key name ≡ false
not_named key name other =
    not_so (bytes_eq key name) (λ same. other (sym ((bytes_eq-Decides key name).0 same)))

module _ (version : ℕ) (d : Data) (name : List ℕ) (e : Data) (path : JsonPath) (h : only_member d ≡ Some (name, e)) where
  pub a_struct : name ≡ codes "struct" → read_type version d path ≡ read_map struct_of (read_types version e (under path (codes "struct")))
  a_struct is =
      type_of_member version d name e path h ∙ ap (λ k. read_composite version (member k e no_members) path) is

  by_version : (b : Bool) → name ≡ codes "array" → has_arrays version ≡ b → read_type version d path ≡ cond b (read_array version e path) (fault path not_a_type)
  by_version b is has =
      type_of_member version d name e path h ∙ ap (λ k. read_composite version (member k e no_members) path) is
      ∙ ap (λ c. cond c (read_array version e path) (fault path not_a_type)) has

  pub an_array : name ≡ codes "array" → has_arrays version ≡ true → read_type version d path ≡ read_array version e path
  an_array is has = by_version true is has

  pub no_array : name ≡ codes "array" → has_arrays version ≡ false → read_type version d path ≡ fault path not_a_type
  no_array is has = by_version false is has

  pub neither : name ≢ codes "struct" → name ≢ codes "array" → read_type version d path ≡ fault path not_a_type
  neither other another =
      type_of_member version d name e path h
      ∙ ap (λ b. cond b (read_map struct_of (read_types version e (under path (codes "struct")))) (cond (bytes_eq (codes "array") name && has_arrays version) (read_array version e path) (fault path not_a_type))) (not_named (codes "struct") name other)
      ∙ ap (λ b. cond (b && has_arrays version) (read_array version e path) (fault path not_a_type)) (not_named (codes "array") name another)

-- ---- what holds of each member holds of the one that is found

pub found : (P : Data → Type 0) (o : Ordering) (rest : Option Data) (e inside : Data) → match_ordering o rest (Some e) rest ≡ Some inside → P e → (rest ≡ Some inside → P inside) → P inside
found P Less rest e inside is here later = later is
found P Equal rest e inside is here later = subst P (some_is is) here
found P Greater rest e inside is here later = later is

pub short-member : (k : List ℕ) (ms : Members) (inside : Data) → get_member k ms ≡ Some inside → HaveShortMembers ms → HasShortArrays inside
short-member k no_members inside e short = absurd (none_not_some e)
short-member k (member l e ms) inside is short = found HasShortArrays (slice_cmp nat_cmp k l) (get_member k ms) e inside is short.0 (λ h. short-member k ms inside h short.1)

pub depth-member : (k : List ℕ) (ms : Members) (inside : Data) → get_member k ms ≡ Some inside → depth inside ≤ members_depth ms
depth-member k no_members inside e = absurd (none_not_some e)
depth-member k (member l e ms) inside is = found (λ x. depth x ≤ members_depth (member l e ms)) (slice_cmp nat_cmp k l) (get_member k ms) e inside is (omega arith) (λ h. omega (arith, depth-member k ms inside h))

-- ---- keys and members in a loop

pub next : {X : Type 0} (xs : List X) (i : ℕ) (x : X) → i < length xs → x ≡ slice_index_or xs i x → drop i xs ≡ x ∷ drop (i + 1) xs
next xs i x below is = drop_more xs i x below ∙ ap (λ y. y ∷ drop (i + 1) xs) (sym is)

pub none_left : {X : Type 0} (xs : List X) (i : ℕ) → length xs ≤ i → drop i xs ≡ []
none_left [] zero h = refl
none_left [] (suc i) h = refl
none_left (x ∷ xs) zero h = absurd (omega arith)
none_left (x ∷ xs) (suc i) h = none_left xs i (omega arith)

pub key_later : (keys : List Key) (i : ℕ) (x : Key) (name : List ℕ) → i < length keys → x ≡ slice_index_or keys i x
    → is_key_of (map key_of keys) name ≡ is_key_of (map key_of (drop i keys)) name → bytes_eq (x.name.now) name ≡ false
    → is_key_of (map key_of keys) name ≡ is_key_of (map key_of (drop (i + 1) keys)) name
key_later keys i x name below is so_far other =
    so_far ∙ ap (λ ks. is_key_of (map key_of ks) name) (next keys i x below is) ∙ ap (λ b. b || is_key_of (map key_of (drop (i + 1) keys)) name) other

pub key_here : (all : List language.Key) (keys : List Key) (i : ℕ) (x : Key) (name : List ℕ) → all ≡ map key_of keys → i < length keys → x ≡ slice_index_or keys i x
    → is_key_of (map key_of keys) name ≡ is_key_of (map key_of (drop i keys)) name → bytes_eq (x.name.now) name ≡ true
    → true ≡ is_key_of all name
key_here all keys i x name e below is so_far same =
    sym (ap (λ ks. is_key_of ks name) e ∙ so_far ∙ ap (λ ks. is_key_of (map key_of ks) name) (next keys i x below is) ∙ ap (λ b. b || is_key_of (map key_of (drop (i + 1) keys)) name) same)

pub key_nowhere : (all : List language.Key) (keys : List Key) (i : ℕ) (name : List ℕ) → all ≡ map key_of keys → length keys ≤ i
    → is_key_of (map key_of keys) name ≡ is_key_of (map key_of (drop i keys)) name → false ≡ is_key_of all name
key_nowhere all keys i name e end so_far =
    sym (ap (λ ks. is_key_of ks name) e ∙ so_far ∙ ap (λ ks. is_key_of (map key_of ks) name) (none_left keys i end))

-- whether a key may be missing, or is there
abbrev pub settled : Key → Data → Bool
settled x d = x.optional || is_some (get (x.name.now) d)

pub missing_later : (keys : List Key) (i : ℕ) (x : Key) (d : Data) → i < length keys → x ≡ slice_index_or keys i x
    → first_missing (map key_of keys) d ≡ first_missing (map key_of (drop i keys)) d → settled x d ≡ true
    → first_missing (map key_of keys) d ≡ first_missing (map key_of (drop (i + 1) keys)) d
missing_later keys i x d below is so_far known =
    so_far ∙ ap (λ ks. first_missing (map key_of ks) d) (next keys i x below is) ∙ ap (λ b. cond b (first_missing (map key_of (drop (i + 1) keys)) d) (Some (x.name.now))) known

pub missing_here : (all : List language.Key) (keys : List Key) (i : ℕ) (x : Key) (d : Data) → all ≡ map key_of keys → i < length keys → x ≡ slice_index_or keys i x
    → first_missing (map key_of keys) d ≡ first_missing (map key_of (drop i keys)) d → settled x d ≡ false
    → Some (x.name.now) ≡ first_missing all d
missing_here all keys i x d e below is so_far known =
    sym (ap (λ ks. first_missing ks d) e ∙ so_far ∙ ap (λ ks. first_missing (map key_of ks) d) (next keys i x below is) ∙ ap (λ b. cond b (first_missing (map key_of (drop (i + 1) keys)) d) (Some (x.name.now))) known)

pub missing_nowhere : (all : List language.Key) (keys : List Key) (i : ℕ) (d : Data) → all ≡ map key_of keys → length keys ≤ i
    → first_missing (map key_of keys) d ≡ first_missing (map key_of (drop i keys)) d → None ≡ first_missing all d
missing_nowhere all keys i d e end so_far =
    sym (ap (λ ks. first_missing ks d) e ∙ so_far ∙ ap (λ ks. first_missing (map key_of ks) d) (none_left keys i end))

pub is_some-map : {X Y : Type 0} (f : X → Y) (o : Option X) → is_some (option_map f o) ≡ is_some o
is_some-map f None = refl
is_some-map f (Some x) = refl

pub member_later : (keys : List language.Key) (all : Members) (es left : List Entry) (e : Entry) → has_only keys all ≡ has_only keys (members_view es) → es ≡ e ∷ left
    → is_key_of keys (string_bytes e.0) ≡ true → has_only keys all ≡ has_only keys (members_view left)
member_later keys all es left e so_far is known =
    so_far ∙ ap (λ x. has_only keys (members_view x)) is ∙ ap (λ b. b && has_only keys (members_view left)) known

pub member_unknown : (keys : List language.Key) (all : Members) (es left : List Entry) (e : Entry) → has_only keys all ≡ has_only keys (members_view es) → es ≡ e ∷ left
    → is_key_of keys (string_bytes e.0) ≡ false → false ≡ has_only keys all
member_unknown keys all es left e so_far is unknown =
    sym (so_far ∙ ap (λ x. has_only keys (members_view x)) is ∙ ap (λ b. b && has_only keys (members_view left)) unknown)

pub members_end : (keys : List language.Key) (all : Members) (es : List Entry) → has_only keys all ≡ has_only keys (members_view es) → es ≡ [] → true ≡ has_only keys all
members_end keys all es so_far is = sym (so_far ∙ ap (λ x. has_only keys (members_view x)) is)

-- ---- what is known of the parts of a value

pub short-get : (k : List ℕ) (d inside : Data) → get k d ≡ Some inside → HasShortArrays d → HasShortArrays inside
short-get k null inside e short = absurd (none_not_some e)
short-get k (boolean b) inside e short = absurd (none_not_some e)
short-get k (number n) inside e short = absurd (none_not_some e)
short-get k (string s) inside e short = absurd (none_not_some e)
short-get k (array ds) inside e short = absurd (none_not_some e)
short-get k (object ms) inside e short = short-member k ms inside e short

pub depth-get : (k : List ℕ) (d inside : Data) → get k d ≡ Some inside → depth inside < depth d
depth-get k null inside e = absurd (none_not_some e)
depth-get k (boolean b) inside e = absurd (none_not_some e)
depth-get k (number n) inside e = absurd (none_not_some e)
depth-get k (string s) inside e = absurd (none_not_some e)
depth-get k (array ds) inside e = absurd (none_not_some e)
depth-get k (object ms) inside e = omega (arith, depth-member k ms inside e)

-- ---- the one member of an object

pub not_one : (ms : Members) → (members_len ms ≡ 1 → ⊥) → None ≡ member_in ms
not_one no_members h = refl
not_one (member name d no_members) h = absurd (h refl)
not_one (member name d (member k x ms)) h = refl

pub no_only_member : (d : Data) (ms : Members) → as_object d ≡ Some ms → (members_len ms ≡ 1 → ⊥) → None ≡ only_member d
no_only_member d ms e h = not_one ms h ∙ ap only_member (sym (object_is d ms e))
