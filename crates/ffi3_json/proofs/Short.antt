-- A value that was read from a text has no array of more items than the text has bytes.
use Rattle.std.proofs.Common.{◌≡◌, ℕ, zero, suc, ◌<◌, ◌≤◌, ◌^◌, Bool, true, false, List, [], ◌∷◌, length, Option, Some, None, option_map, option_and_then, Ordering, Less, Equal, Greater, refl, ap, subst, arith}
use Rattle.std.specs.Prelude.{⊤}
use Rattle.std.specs.Ordering.{match_ordering}
use Rattle.json.specs.Token.{Token}
use Rattle.json.specs.Lex.{Lexeme, token, comma, colon, Class, quote, backslash, operator, space, other, Mode, between, in_word, in_string, in_escape, class, lex_byte, lex, Place, fresh, after_value, after_comma, after_key, begins_colon, may_begin, may_close, if_allowed, place_token, punctuate, tokens}
use Rattle.json.specs.Json as json
use Rattle.json.specs.Json.{Parse, parse_map, after_end_array, read_key, items_step, members_step, items, members, value_with, value}
use Rattle.json.proofs.Grammar.{after_end_array-shorter, read_key-shorter}
use Rattle.serde_json.specs.Data.{Data, null, boolean, number, string, array, object, Items, no_items, item, Members, no_members, member, put}
use Rattle.serde_json.specs.Events.{items_len}
use Rattle.serde_json.specs.Read.{number_of, of_json, of_items, of_members, max_depth, read}
use Rattle.ffi3_script_spec.specs.Language.{HasShortArrays, HaveShortArrays, HaveShortMembers}
use Rattle.ffi3_json.specs.Within.{HasArraysWithin, HaveArraysWithin, HaveMembersWithin}

-- ---- tokens

length-lex_byte : (m : Mode) (c : Class) (x : ℕ) (xs : List ℕ) (k : Mode → List Lexeme) (n : ℕ) → ((next : Mode) → length (k next) ≤ n) → length (lex_byte m c x xs k) ≤ suc n
length-lex_byte between quote x xs k n h = omega (arith, h in_string)
length-lex_byte between backslash x xs k n h = omega (arith, h in_word)
length-lex_byte between operator x xs k n h = omega (arith, h between)
length-lex_byte between space x xs k n h = omega (arith, h between)
length-lex_byte between other x xs k n h = omega (arith, h in_word)
length-lex_byte in_word quote x xs k n h = omega (arith, h in_word)
length-lex_byte in_word backslash x xs k n h = omega (arith, h in_word)
length-lex_byte in_word operator x xs k n h = omega (arith, h between)
length-lex_byte in_word space x xs k n h = omega (arith, h between)
length-lex_byte in_word other x xs k n h = omega (arith, h in_word)
length-lex_byte in_string quote x xs k n h = omega (arith, h between)
length-lex_byte in_string backslash x xs k n h = omega (arith, h in_escape)
length-lex_byte in_string operator x xs k n h = omega (arith, h in_string)
length-lex_byte in_string space x xs k n h = omega (arith, h in_string)
length-lex_byte in_string other x xs k n h = omega (arith, h in_string)
length-lex_byte in_escape c x xs k n h = omega (arith, h in_string)

length-lex : (xs : List ℕ) (m : Mode) → length (lex m xs) ≤ length xs
unfolding lex
length-lex [] m = omega arith
length-lex (x ∷ xs) m = length-lex_byte m (class x) x xs (λ next. lex next xs) (length xs) (λ next. length-lex xs next)

length-if_allowed : (b : Bool) (t : Token) (k : Place → List Token) (next : Place) (n : ℕ) → ((p : Place) → length (k p) ≤ suc n) → length (if_allowed b t k next) ≤ suc (suc n)
length-if_allowed true t k next n h = omega (arith, h next)
length-if_allowed false t k next n h = omega arith

length-place_token : (p : Place) (t : Token) (b : Bool) (k : Place → List Token) (n : ℕ) → ((q : Place) → length (k q) ≤ suc n) → length (place_token p t b k) ≤ suc (suc n)
length-place_token p Token.begin_object b k n h = length-if_allowed (may_begin p) Token.begin_object k fresh n h
length-place_token p Token.end_object b k n h = length-if_allowed (may_close p) Token.end_object k after_value n h
length-place_token p Token.begin_array b k n h = length-if_allowed (may_begin p) Token.begin_array k fresh n h
length-place_token p Token.end_array b k n h = length-if_allowed (may_close p) Token.end_array k after_value n h
length-place_token p (Token.key s) b k n h = omega arith
length-place_token p (Token.string s) true k n h = length-if_allowed (may_begin p) (Token.key s) k after_key n h
length-place_token p (Token.string s) false k n h = length-if_allowed (may_begin p) (Token.string s) k after_value n h
length-place_token p (Token.number s) b k n h = length-if_allowed (may_begin p) (Token.number s) k after_value n h
length-place_token p (Token.boolean c) b k n h = length-if_allowed (may_begin p) (Token.boolean c) k after_value n h
length-place_token p Token.null b k n h = length-if_allowed (may_begin p) Token.null k after_value n h
length-place_token p Token.bad b k n h = omega arith

length-punctuate : (ls : List Lexeme) (p : Place) → length (punctuate p ls) ≤ suc (length ls)
unfolding punctuate
length-punctuate [] fresh = omega arith
length-punctuate [] after_value = omega arith
length-punctuate [] after_comma = omega arith
length-punctuate [] after_key = omega arith
length-punctuate (token t ∷ ls) fresh = length-place_token fresh t (begins_colon ls) (λ next. punctuate next ls) (length ls) (λ q. length-punctuate ls q)
length-punctuate (token t ∷ ls) after_value = length-place_token after_value t (begins_colon ls) (λ next. punctuate next ls) (length ls) (λ q. length-punctuate ls q)
length-punctuate (token t ∷ ls) after_comma = length-place_token after_comma t (begins_colon ls) (λ next. punctuate next ls) (length ls) (λ q. length-punctuate ls q)
length-punctuate (token t ∷ ls) after_key = length-place_token after_key t (begins_colon ls) (λ next. punctuate next ls) (length ls) (λ q. length-punctuate ls q)
length-punctuate (comma ∷ ls) fresh = omega arith
length-punctuate (comma ∷ ls) after_value = omega (arith, length-punctuate ls after_comma)
length-punctuate (comma ∷ ls) after_comma = omega arith
length-punctuate (comma ∷ ls) after_key = omega arith
length-punctuate (colon ∷ ls) fresh = omega arith
length-punctuate (colon ∷ ls) after_value = omega arith
length-punctuate (colon ∷ ls) after_comma = omega arith
length-punctuate (colon ∷ ls) after_key = omega (arith, length-punctuate ls fresh)

length-tokens : (text : List ℕ) → length (tokens text) ≤ suc (length text)
length-tokens text = omega (arith, length-punctuate (lex between text) fresh, length-lex text between)

-- ---- the value of tokens

abbrev count : json.Items → ℕ
count json.no_items = 0
count (json.item j js) = suc (count js)

-- no array has more than n items
abbrev mutual
  Short : ℕ → json.Json → Type 0
  Short n json.null = ⊤
  Short n (json.boolean b) = ⊤
  Short n (json.number s) = ⊤
  Short n (json.string s) = ⊤
  Short n (json.array js) = (count js ≤ n) × ShortItems n js
  Short n (json.object ms) = ShortMembers n ms

  ShortItems : ℕ → json.Items → Type 0
  ShortItems n json.no_items = ⊤
  ShortItems n (json.item j js) = Short n j × ShortItems n js

  ShortMembers : ℕ → json.Members → Type 0
  ShortMembers n json.no_members = ⊤
  ShortMembers n (json.member k j ms) = Short n j × ShortMembers n ms

record ItemsWithin (n most : ℕ) (js : json.Items) : Type 0 where
  few : count js ≤ most
  short : ShortItems n js

abbrev Good : {A : Type 0} → (A → Type 0) → ℕ → Option (A × List Token) → Type 0
Good P n None = ⊤
Good P n (Some q) = P q.0 × (length q.1 ≤ n)

abbrev Within : {A : Type 0} → (A → Type 0) → ℕ → Parse A → Type 0
Within P n p = (ts : List Token) → length ts ≤ n → Good P n (p ts)

mapped : {A B : Type 0} (P : A → Type 0) (Q : B → Type 0) (n : ℕ) (h : A → B) → ((a : A) → P a → Q (h a)) → (o : Option (A × List Token)) → Good P n o → Good Q n (parse_map h o)
mapped P Q n h k None x = tt
mapped P Q n h k (Some q) x = (k q.0 x.0, x.1)

and_more : {B : Type 0} (P : json.Json → Type 0) (Q R : B → Type 0) (n : ℕ) (h : json.Json → B → B) → ((j : json.Json) (b : B) → P j → Q b → R (h j b)) → (more : Parse B) → Within Q n more
    → (o : Option (json.Json × List Token)) → Good P n o → Good R n (option_and_then (λ q. parse_map (h q.0) (more q.1)) o)
and_more P Q R n h is more within None x = tt
and_more P Q R n h is more within (Some q) x = mapped Q R n (h q.0) (λ b y. is q.0 b x.0 y) (more q.1) (within q.1 x.1)

module _ (n : ℕ) (p : Parse json.Json) (within : Within (Short n) n p) where
  item_turn : (most : ℕ) (more : Parse json.Items) → Within (ItemsWithin n most) n more → (ts : List Token) → length ts ≤ n → (o : Option (List Token)) → after_end_array ts ≡ o
      → Good (ItemsWithin n (suc most)) n (items_step p more ts o)
  item_turn most more again ts h (Some r) e = (record { few = omega arith; short = tt }, omega (arith, after_end_array-shorter ts r e))
  item_turn most more again ts h None e =
      and_more (Short n) (ItemsWithin n most) (ItemsWithin n (suc most)) n json.item (λ j b x y. record { few = omega (arith, y.few); short = (x, y.short) }) more again (p ts) (within ts h)

  Within-items : (most : ℕ) → Within (ItemsWithin n most) n (items p most)
  unfolding items
  Within-items zero ts h = tt
  Within-items (suc most) ts h = item_turn most (items p most) (Within-items most) ts h (after_end_array ts) refl

  member_turn : (more : Parse json.Members) → Within (ShortMembers n) n more → (ts : List Token) → length ts ≤ n → (o : Option (Option (List ℕ) × List Token)) → read_key ts ≡ o
      → Good (ShortMembers n) n (option_and_then (λ q. members_step p more q.0 q.1) o)
  member_turn more again ts h None e = tt
  member_turn more again ts h (Some (None, s)) e = (tt, omega (arith, read_key-shorter ts None s e))
  member_turn more again ts h (Some (Some k, s)) e =
      and_more (Short n) (ShortMembers n) (ShortMembers n) n (json.member k) (λ j b x y. (x, y)) more again (p s) (within s (omega (arith, read_key-shorter ts (Some k) s e)))

  Within-members : (m : ℕ) → Within (ShortMembers n) n (members p m)
  unfolding members
  Within-members zero ts h = tt
  Within-members (suc m) ts h = member_turn (members p m) (Within-members m) ts h (read_key ts) refl

one_level : (n : ℕ) (a : Parse json.Items) (o : Parse json.Members) → ((ts : List Token) → length ts ≤ n → Good (Short n) n (parse_map json.array (a ts))) → ((ts : List Token) → length ts ≤ n → Good (Short n) n (parse_map json.object (o ts))) → Within (Short n) n (value_with a o)
one_level n a o p q [] h = tt
one_level n a o p q (Token.begin_object ∷ ts) h = q ts (omega arith)
one_level n a o p q (Token.end_object ∷ ts) h = tt
one_level n a o p q (Token.begin_array ∷ ts) h = p ts (omega arith)
one_level n a o p q (Token.end_array ∷ ts) h = tt
one_level n a o p q (Token.key s ∷ ts) h = tt
one_level n a o p q (Token.string s ∷ ts) h = (tt, omega arith)
one_level n a o p q (Token.number s ∷ ts) h = (tt, omega arith)
one_level n a o p q (Token.boolean b ∷ ts) h = (tt, omega arith)
one_level n a o p q (Token.null ∷ ts) h = (tt, omega arith)
one_level n a o p q (Token.bad ∷ ts) h = tt

Within-value : (n depth : ℕ) → Within (Short n) n (value depth)
unfolding value
Within-value n zero = one_level n (λ ts. None) (λ ts. None) (λ ts h. tt) (λ ts h. tt)
Within-value n (suc d) =
    one_level n (λ ts. items (value d) (length ts) ts) (λ ts. members (value d) (length ts) ts)
    (λ ts h. mapped (ItemsWithin n (length ts)) (Short n) n json.array (λ js x. (omega (arith, x.few, h), x.short)) _ (Within-items n (value d) (Within-value n d) (length ts) ts h))
    (λ ts h. mapped (ShortMembers n) (Short n) n json.object (λ ms x. x) _ (Within-members n (value d) (Within-value n d) (length ts) ts h))

-- ---- the data of a value

abbrev AllOf : {A : Type 0} → (A → Type 0) → Option A → Type 0
AllOf P None = ⊤
AllOf P (Some a) = P a

AllOf-map : {A B : Type 0} (P : A → Type 0) (Q : B → Type 0) (h : A → B) → ((a : A) → P a → Q (h a)) → (o : Option A) → AllOf P o → AllOf Q (option_map h o)
AllOf-map P Q h k None x = tt
AllOf-map P Q h k (Some a) x = k a x

AllOf-and_then : {A B : Type 0} (P : A → Type 0) (Q : B → Type 0) (h : A → Option B) → ((a : A) → P a → AllOf Q (h a)) → (o : Option A) → AllOf P o → AllOf Q (option_and_then h o)
AllOf-and_then P Q h k None x = tt
AllOf-and_then P Q h k (Some a) x = k a x

flat : {A : Type 0} (o : Option A) → AllOf (λ _. ⊤) o
flat None = tt
flat (Some a) = tt

record Many (n most : ℕ) (ds : Items) : Type 0 where
  same : items_len ds ≡ n
  within : HaveArraysWithin most ds

within-match_ordering : (n : ℕ) (o : Ordering) (a b c : Members) → HaveMembersWithin n a → HaveMembersWithin n b → HaveMembersWithin n c → HaveMembersWithin n (match_ordering o a b c)
within-match_ordering n Less a b c p q r = p
within-match_ordering n Equal a b c p q r = q
within-match_ordering n Greater a b c p q r = r

within-put : (n : ℕ) (k : List ℕ) (d : Data) (ms : Members) → HasArraysWithin n d → HaveMembersWithin n ms → HaveMembersWithin n (put k d ms)
within-put n k d no_members p q = (p, tt)
within-put n k d (member l e ms) p q =
    within-match_ordering n _ (member k d (member l e ms)) (member l d ms) (member l e (put k d ms)) (p, q) (p, q.1) (q.0, within-put n k d ms p q.1)

mutual
  within-of_json : (n : ℕ) (j : json.Json) → Short n j → AllOf (HasArraysWithin n) (of_json j)
  within-of_json n json.null h = tt
  within-of_json n (json.boolean b) h = tt
  within-of_json n (json.number s) h = AllOf-map (λ _. ⊤) (HasArraysWithin n) number (λ a x. tt) (number_of s) (flat _)
  within-of_json n (json.string s) h = tt
  within-of_json n (json.array js) h = AllOf-map (Many (count js) n) (HasArraysWithin n) array (λ ds x. (omega (arith, x.same, h.0), x.within)) (of_items js) (within-of_items n js h.1)
  within-of_json n (json.object ms) h = AllOf-map (HaveMembersWithin n) (HasArraysWithin n) object (λ a x. x) _ (within-of_members n ms no_members h tt)

  within-of_items : (n : ℕ) (js : json.Items) → ShortItems n js → AllOf (Many (count js) n) (of_items js)
  within-of_items n json.no_items h = record { same = refl; within = tt }
  within-of_items n (json.item j js) h =
      AllOf-and_then (HasArraysWithin n) (Many (suc (count js)) n) _ (λ d x. AllOf-map (Many (count js) n) (Many (suc (count js)) n) (item d) (λ ds y. record { same = ap suc y.same; within = (x, y.within) }) (of_items js) (within-of_items n js h.1)) (of_json j) (within-of_json n j h.0)

  within-of_members : (n : ℕ) (ms : json.Members) (found : Members) → ShortMembers n ms → HaveMembersWithin n found → AllOf (HaveMembersWithin n) (of_members ms found)
  within-of_members n json.no_members found h k = k
  within-of_members n (json.member name j ms) found h k =
      AllOf-and_then (HasArraysWithin n) (HaveMembersWithin n) _ (λ d x. within-of_members n ms (put name d found) h.1 (within-put n name d found x k)) (of_json j) (within-of_json n j h.0)

last_short : (n : ℕ) (o : Option (json.Json × List Token)) → Good (Short n) n o → AllOf (Short n) (option_and_then (λ q. json.if_last q.0 q.1) o)
last_short n None x = tt
last_short n (Some (j, [])) x = x.0
last_short n (Some (j, t ∷ r)) x = tt

pub within-read : (n : ℕ) (text : List ℕ) (d : Data) → length text < n → read text ≡ Some d → HasArraysWithin n d
within-read n text d fits e =
    subst (AllOf (HasArraysWithin n)) e (AllOf-and_then (Short n) (HasArraysWithin n) of_json (λ j x. within-of_json n j x) _ (last_short n _ (Within-value n max_depth (tokens text) (omega (arith, length-tokens text, fits)))))

-- ---- fewer than 2^32 items

mutual
  pub short-within : (n : ℕ) → n < 2 ^ 32 → (d : Data) → HasArraysWithin n d → HasShortArrays d
  short-within n small null h = tt
  short-within n small (boolean b) h = tt
  short-within n small (number x) h = tt
  short-within n small (string s) h = tt
  short-within n small (array ds) h = (omega (arith, h.0, small), short-items-within n small ds h.1)
  short-within n small (object ms) h = short-members-within n small ms h

  short-items-within : (n : ℕ) → n < 2 ^ 32 → (ds : Items) → HaveArraysWithin n ds → HaveShortArrays ds
  short-items-within n small no_items h = tt
  short-items-within n small (item d ds) h = (short-within n small d h.0, short-items-within n small ds h.1)

  short-members-within : (n : ℕ) → n < 2 ^ 32 → (ms : Members) → HaveMembersWithin n ms → HaveShortMembers ms
  short-members-within n small no_members h = tt
  short-members-within n small (member name d ms) h = (short-within n small d h.0, short-members-within n small ms h.1)
