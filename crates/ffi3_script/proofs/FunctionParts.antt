-- The functions of a script, one after another: their headings, and then their bodies.
use Rattle.std.proofs.Common.{◌≡◌, ℕ, ◌+◌, ◌<◌, ◌||◌, List, [], ◌∷◌, ◌++◌, length, map, drop, bytes_eq, codes, string_bytes, Option, Some, refl, sym, ap, ◌∙◌}
use Rattle.std.specs.Prelude.{slice_index_or}
use Rattle.std.specs.List.{list_any}
use Rattle.std.proofs.lemmas.List.{map-append}
use Rattle.serde_json.specs.Data.{Data, Items, item}
use Rattle.serde_json.specs.Events.{items_len}
use Rattle.serde_json.specs.Find.{get, as_str}
use Rattle.ffi3_type_spec.specs.Signature.{Signature, signature_at}
use Rattle.ffi3_script_spec.specs.Language.{JsonPath, Reason, Read, read, fault, read_map, and_then, at_item, under, value_under}
use Rattle.ffi3_script_spec.specs.Script as script
use Rattle.ffi3_script_spec.specs.Values.{is_name_of}
use Rattle.ffi3_script_spec.specs.Bodies as bodies
use Rattle.ffi3_script_spec.specs.Bodies.{is_one_of, new_name, read_heading, read_headings, names_of, function_of, read_body, read_bodies}
use Rattle.ffi3_json.specs.Parts.{item_at, items_from}
use Rattle.ffi3_json.proofs.Objects.{next}
use Rattle.ffi3_script.specs.Taken.{is_taken}
use Rattle.ffi3_script_body.specs.ExprOf.{script_moves_of}
use Rattle.ffi3_script.specs.PartsOf.{heading_of, headings_of, part_of, IsHeaded}
use Rattle.ffi3_script.specs.declared.functions.Heading.{Heading}
use Rattle.ffi3_script.specs.declared.functions.FunctionPart.{FunctionPart}
use Rattle.ffi3_script.proofs.Loops.{before, next_item, first_and, one_more, one_fault, mapped-more}
use Rattle.ffi3_script.proofs.Given.{any-position, new_name-same}
use Rattle.ffi3_script.proofs.Steps.{under-is}

one-of-any : (names : List (List ℕ)) (name : List ℕ) → is_one_of names name ≡ list_any (is_name_of name) (map (λ n. Some n) names)
one-of-any [] name = refl
one-of-any (n ∷ names) name = ap (λ b. bytes_eq name n || b) (one-of-any names name)

pub one-of-taken : (names : List (List ℕ)) (name : List ℕ) → is_taken (map (λ n. Some n) names) name ≡ is_one_of names name
one-of-taken names name = sym (one-of-any names name ∙ any-position (is_name_of name) (map (λ n. Some n) names))

pub names-more : (old : List Heading) (one : Heading) (new : List Heading) (names more : List (List ℕ)) → names ≡ names_of (headings_of old) → new ≡ old ++ one ∷ [] → more ≡ names ++ string_bytes one.name ∷ []
    → more ≡ names_of (headings_of new)
names-more old one new names more e pushed named =
    named ∙ ap (λ ns. ns ++ string_bytes one.name ∷ []) e ∙ sym (ap names_of (mapped-more heading_of old one new pushed) ∙ map-append (λ (h : bodies.Heading). h.name) (headings_of old) (heading_of one ∷ []))

-- one more heading was read
pub headings-turn : (count : ℕ) (names more_names : List (List ℕ)) (ds : Items) (path : JsonPath) (i : ℕ) (x : Data) (whole : Read (List bodies.Heading)) (hs more : List Heading) (one : Heading)
    → i < items_len ds → x ≡ item_at ds i → whole ≡ before (headings_of hs) (read_headings count names (items_from i ds) path i)
    → read_heading count names x (at_item path i) ≡ read (heading_of one) → more_names ≡ names ++ string_bytes one.name ∷ [] → more ≡ hs ++ one ∷ []
    → whole ≡ before (headings_of more) (read_headings count more_names (items_from (i + 1) ds) path (i + 1))
headings-turn count names more_names ds path i x whole hs more one below is so_far e named pushed =
    let rest : List (List ℕ) → Read (List bodies.Heading) = λ ns. read_headings count ns (items_from (i + 1) ds) path (i + 1) in
    let more_of : bodies.Heading → Read (List bodies.Heading) = λ h. rest (names ++ h.name ∷ []) in
    let here : whole ≡ before (headings_of hs) (first_and more_of (read_heading count names x (at_item path i))) = so_far ∙ ap (λ es. before (headings_of hs) (read_headings count names es path i)) (next_item ds i x below is) in
    one_more whole (headings_of hs) more_of (read_heading count names x (at_item path i)) here (heading_of one) e
    ∙ ap (λ ns. before (headings_of hs ++ heading_of one ∷ []) (rest ns)) (sym named)
    ∙ ap (λ done. before done (rest more_names)) (sym (mapped-more heading_of hs one more pushed))

pub headings-fault : (count : ℕ) (names : List (List ℕ)) (ds : Items) (path : JsonPath) (i : ℕ) (x : Data) (whole : Read (List bodies.Heading)) (done : List bodies.Heading) (p : JsonPath) (r : Reason)
    → i < items_len ds → x ≡ item_at ds i → whole ≡ before done (read_headings count names (items_from i ds) path i)
    → read_heading count names x (at_item path i) ≡ fault p r → whole ≡ fault p r
headings-fault count names ds path i x whole done p r below is so_far e =
    let more_of : bodies.Heading → Read (List bodies.Heading) = λ h. read_headings count (names ++ h.name ∷ []) (items_from (i + 1) ds) path (i + 1) in
    let here : whole ≡ before done (first_and more_of (read_heading count names x (at_item path i))) = so_far ∙ ap (λ es. before done (read_headings count names es path i)) (next_item ds i x below is) in
    one_fault whole done more_of (read_heading count names x (at_item path i)) here p r e

-- ---- bodies

regrouped : {A B : Type 0} (f : A → B) (rest : Read (List B)) (first : Read A) → and_then (λ a. read_map (λ bs. f a ∷ bs) rest) first ≡ first_and (λ b. rest) (read_map f first)
regrouped f rest (read a) = refl
regrouped f rest (fault p r) = refl

module _ (version : ℕ) (ss : List Signature) (names : List (List ℕ)) (hs : List Heading) (h : Heading) (ds : Items) (path : JsonPath) (i : ℕ) (x : Data) (whole : Read (List script.ScriptFunction)) (done : List script.ScriptFunction)
    (among : i < length hs) (h_is : h ≡ slice_index_or hs i h) (below : i < items_len ds) (is : x ≡ item_at ds i)
    (so_far : whole ≡ before done (read_bodies version ss names (headings_of (drop i hs)) (items_from i ds) path i)) where
  abbrev pub body_here : Read (List script.ScriptMove)
  body_here = read_body (record { version = version; signatures = ss; functions = names; own = signature_at ss h.sig }) (value_under (codes "body") x) (under (at_item path i) (codes "body"))

  abbrev rest_here : Read (List script.ScriptFunction)
  rest_here = read_bodies version ss names (headings_of (drop (i + 1) hs)) (items_from (i + 1) ds) path (i + 1)

  part-here : whole ≡ before done (first_and (λ f. rest_here) (read_map (function_of (heading_of h)) body_here))
  part-here =
      so_far ∙ ap (λ es. before done (read_bodies version ss names (headings_of (drop i hs)) es path i)) (next_item ds i x below is)
      ∙ ap (λ gs. before done (read_bodies version ss names (headings_of gs) (item x (items_from (i + 1) ds)) path i)) (next hs i h among h_is)
      ∙ ap (before done) (regrouped (function_of (heading_of h)) rest_here body_here)

  pub part-fault : (p : JsonPath) (r : Reason) → body_here ≡ fault p r → whole ≡ fault p r
  part-fault p r e = one_fault whole done (λ f. rest_here) (read_map (function_of (heading_of h)) body_here) part-here p r (ap (read_map (function_of (heading_of h))) e)

  pub part-turn : (parts more : List FunctionPart) (one : FunctionPart) → done ≡ map part_of parts → IsHeaded h one → more ≡ parts ++ one ∷ [] → body_here ≡ read (script_moves_of one.moves.items) → whole ≡ before (map part_of more) rest_here
  part-turn parts more one done_is headed pushed e =
      let same : function_of (heading_of h) (script_moves_of one.moves.items) ≡ part_of one = λ j. record { name = sym headed.named j; signature = sym headed.signed j; body = script_moves_of one.moves.items } in
      one_more whole done (λ f. rest_here) (read_map (function_of (heading_of h)) body_here) part-here (function_of (heading_of h) (script_moves_of one.moves.items)) (ap (read_map (function_of (heading_of h))) e)
      ∙ ap (λ f. before (done ++ f ∷ []) rest_here) same
      ∙ ap (λ d. before (d ++ part_of one ∷ []) rest_here) done_is
      ∙ ap (λ d. before d rest_here) (sym (mapped-more part_of parts one more pushed))

-- ---- the name of a function

pub name-is : (earlier : List (List ℕ)) (index : List (Option (List ℕ))) (d named : Data) (path : JsonPath) → index ≡ map (λ n. Some n) earlier → Some named ≡ get (codes "name") d
    → new_name (is_one_of earlier) (as_str (value_under (codes "name") d)) path ≡ new_name (is_taken index) (as_str named) path
name-is earlier index d named path e there =
    ap (λ x. new_name (is_one_of earlier) (as_str x) path) (under-is (codes "name") d named there)
    ∙ sym (new_name-same (is_taken (map (λ n. Some n) earlier)) (is_one_of earlier) (one-of-taken earlier) (as_str named) path)
    ∙ ap (λ x. new_name (is_taken x) (as_str named) path) (sym e)
