-- The parts of a whole script, one after another.
use Rattle.std.proofs.Common.{◌≡◌, ℕ, ◌+◌, ◌<◌, List, [], ◌∷◌, ◌++◌, length, take, Some, codes, sym, ap, subst, ◌∙◌, append_assoc}
use Rattle.std.specs.Prelude.{slice_get, option_and_then}
use Rattle.std.proofs.lemmas.List.{take_more}
use Rattle.std.proofs.lemmas.Option.{slice_get_within, get_or_from_slice_get}
use Rattle.serde_json.specs.Data.{Data, null, boolean, number, string, array, object, Items, Members, no_members, member}
use Rattle.serde_json.specs.Events.{items_len}
use Rattle.serde_json.specs.Find.{get, get_member, as_array, as_number, as_u64}
use Rattle.std.specs.Ordering.{nat_cmp}
use Rattle.std.specs.Cmp.Lexicographic.{slice_cmp}
use Rattle.ffi3_type_spec.specs.Signature.{Signature}
use Rattle.ffi3_script_spec.specs.Language.{JsonPath, Reason, Read, read, fault, and_then, read_map, under, value_under, at_item, check_object, read_signature}
use Rattle.ffi3_script_spec.specs.Script.{Script, ScriptFunction, ScriptMove}
use Rattle.ffi3_script_spec.specs.Bodies.{Heading, script_keys, version_of, items_at, read_signatures, read_headings, read_body, read_bodies, read_rest, read_script}
use Rattle.ffi3_semantics_spec.specs.Move.{no_signature}
use Rattle.ffi3_script.specs.PartsOf.{bodies_and_main}
use Rattle.ffi3_json.specs.Within.{HasArraysWithin, HaveMembersWithin}
use Rattle.ffi3_json.specs.Parts.{item_at, items_from}
use Rattle.ffi3_json.proofs.Objects.{found, array_is}
use Rattle.ffi3_script.proofs.Loops.{before, next_item, first_and, one_more, one_fault}
use Rattle.ffi3_script.proofs.Steps.{then_fault, then_read}

-- ---- the natives' names

taken-more : (xs : List (List ℕ)) (i : ℕ) (x : List ℕ) → slice_get xs i ≡ Some x → take (i + 1) xs ≡ take i xs ++ x ∷ []
taken-more xs i x e = take_more xs i x (slice_get_within xs i x e) ∙ ap (λ y. take i xs ++ y ∷ []) (get_or_from_slice_get xs i x x e)

pub natives-turn : (before_all now more : List (List ℕ)) (xs : List (List ℕ)) (i : ℕ) (x : List ℕ) → now ≡ before_all ++ take i xs → slice_get xs i ≡ Some x → more ≡ now ++ x ∷ [] → more ≡ before_all ++ take (i + 1) xs
natives-turn before_all now more xs i x so_far e pushed =
    pushed ∙ ap (λ n. n ++ x ∷ []) so_far ∙ append_assoc before_all (take i xs) (x ∷ []) ∙ ap (λ n. before_all ++ n) (sym (taken-more xs i x e))

-- ---- an array under a key

pub within-member : (n : ℕ) (k : List ℕ) (ms : Members) (inside : Data) → get_member k ms ≡ Some inside → HaveMembersWithin n ms → HasArraysWithin n inside
within-member n k no_members inside e within = absurd (cc)
within-member n k (member l e ms) inside is within = found (HasArraysWithin n) (slice_cmp nat_cmp k l) (get_member k ms) e inside is within.0 (λ h. within-member n k ms inside h within.1)

pub within-get : (n : ℕ) (k : List ℕ) (d inside : Data) → get k d ≡ Some inside → HasArraysWithin n d → HasArraysWithin n inside
within-get n k null inside e within = absurd (cc)
within-get n k (boolean b) inside e within = absurd (cc)
within-get n k (number x) inside e within = absurd (cc)
within-get n k (string s) inside e within = absurd (cc)
within-get n k (array ds) inside e within = absurd (cc)
within-get n k (object ms) inside e within = within-member n k ms inside e within

pub within-items : (n : ℕ) (name : List ℕ) (d inside : Data) (ds : Items) → Some inside ≡ get name d → Some ds ≡ as_array inside → HasArraysWithin n d → HasArraysWithin n (array ds)
within-items n name d inside ds there is within = subst (HasArraysWithin n) (array_is inside ds (sym is)) (within-get n name d inside (sym there) within)

-- ---- the signatures, one after another

module _ (version : ℕ) (ds : Items) (path : JsonPath) (i : ℕ) (x : Data) (whole : Read (List Signature)) (done : List Signature) (below : i < items_len ds) (is : x ≡ item_at ds i) (so_far : whole ≡ before done (read_signatures version (items_from i ds) path i)) where
  abbrev others : Signature → Read (List Signature)
  others s = read_signatures version (items_from (i + 1) ds) path (i + 1)

  signatures-here : whole ≡ before done (first_and others (read_signature version x (at_item path i)))
  signatures-here = so_far ∙ ap (λ es. before done (read_signatures version es path i)) (next_item ds i x below is)

  pub signatures-turn : (s : Signature) (more : List Signature) → read_signature version x (at_item path i) ≡ read s → more ≡ done ++ s ∷ [] → whole ≡ before more (read_signatures version (items_from (i + 1) ds) path (i + 1))
  signatures-turn s more e pushed = one_more whole done others (read_signature version x (at_item path i)) signatures-here s e ∙ ap (λ ss. before ss (others s)) (sym pushed)

  pub signatures-fault : (p : JsonPath) (r : Reason) → read_signature version x (at_item path i) ≡ fault p r → whole ≡ fault p r
  signatures-fault p r e = one_fault whole done others (read_signature version x (at_item path i)) signatures-here p r e

-- ---- the root

abbrev pub version_at : Data → JsonPath → Read ℕ
version_at d path = version_of (option_and_then as_u64 (as_number (value_under (codes "version") d))) (under path (codes "version"))

-- what is left behind the signatures, with the functions at a place
abbrev functions_left : List (List ℕ) → Data → (version : ℕ) → List Signature → JsonPath → Read Script
functions_left natives d version signatures place =
    and_then
    (λ fs. and_then (read_rest natives d version signatures fs) (read_headings (length signatures) [] fs place 0))
    (items_at (value_under (codes "functions") d) place)

-- what is left behind the items of the signatures, which stand at a place
abbrev rest_at : List (List ℕ) → Data → (version : ℕ) → JsonPath → JsonPath → Items → Read Script
rest_at natives d version path on ss =
    and_then (λ signatures. functions_left natives d version signatures (under path (codes "functions"))) (read_signatures version ss on 0)

-- the language has it at the root
abbrev script_at : List (List ℕ) → Data → JsonPath → Read Script
script_at natives d path =
    and_then
    (λ checked. and_then
    (λ version. and_then (rest_at natives d version path (under path (codes "signatures"))) (items_at (value_under (codes "signatures") d) (under path (codes "signatures"))))
    (version_at d path))
    (check_object d script_keys path)

module _ (natives : List (List ℕ)) (d : Data) (path : JsonPath) (root : path ≡ []) (e0 : check_object d script_keys path ≡ read tt) (version : ℕ) (e1 : version_at d path ≡ read version)
    (on : JsonPath) (on_is : on ≡ under path (codes "signatures")) where
  signatures-next : read_script natives d ≡ and_then (rest_at natives d version path on) (items_at (value_under (codes "signatures") d) on)
  signatures-next =
      ap (script_at natives d) (sym root) ∙ then_read _ (check_object d script_keys path) tt e0 ∙ then_read _ (version_at d path) version e1
      ∙ ap (λ q. and_then (rest_at natives d version path q) (items_at (value_under (codes "signatures") d) q)) (sym on_is)

  pub root-items : (p : JsonPath) (r : Reason) → items_at (value_under (codes "signatures") d) on ≡ fault p r → read_script natives d ≡ fault p r
  root-items p r e = signatures-next ∙ then_fault _ (items_at (value_under (codes "signatures") d) on) p r e

  module _ (ss : Items) (e2 : items_at (value_under (codes "signatures") d) on ≡ read ss) where
    root-until : read_script natives d ≡ rest_at natives d version path on ss
    root-until = signatures-next ∙ then_read _ (items_at (value_under (codes "signatures") d) on) ss e2

    pub root-signatures : (p : JsonPath) (r : Reason) → read_signatures version ss on 0 ≡ fault p r → read_script natives d ≡ fault p r
    root-signatures p r e = root-until ∙ then_fault _ (read_signatures version ss on 0) p r e

    module _ (signatures : List Signature) (e3 : read_signatures version ss on 0 ≡ read signatures) (place : JsonPath) (place_is : place ≡ under path (codes "functions")) where
      functions-next : read_script natives d ≡ functions_left natives d version signatures place
      functions-next = root-until ∙ then_read _ (read_signatures version ss on 0) signatures e3 ∙ ap (functions_left natives d version signatures) (sym place_is)

      pub root-functions : (p : JsonPath) (r : Reason) → items_at (value_under (codes "functions") d) place ≡ fault p r → read_script natives d ≡ fault p r
      root-functions p r e = functions-next ∙ then_fault _ (items_at (value_under (codes "functions") d) place) p r e

      module _ (fs : Items) (e4 : items_at (value_under (codes "functions") d) place ≡ read fs) where
        headings-next : read_script natives d ≡ and_then (read_rest natives d version signatures fs) (read_headings (length signatures) [] fs place 0)
        headings-next = functions-next ∙ then_read _ (items_at (value_under (codes "functions") d) place) fs e4

        pub root-headings : (p : JsonPath) (r : Reason) → read_headings (length signatures) [] fs place 0 ≡ fault p r → read_script natives d ≡ fault p r
        root-headings p r e = headings-next ∙ then_fault _ (read_headings (length signatures) [] fs place 0) p r e

        pub root-rest : (hs : List Heading) → read_headings (length signatures) [] fs place 0 ≡ read hs → read_script natives d ≡ read_rest natives d version signatures fs hs
        root-rest hs e = headings-next ∙ then_read _ (read_headings (length signatures) [] fs place 0) hs e

-- ---- the bodies and main

module _ (version : ℕ) (signatures : List Signature) (names : List (List ℕ)) (hs : List Heading) (fs : Items) (d : Data) (path on : JsonPath) (on_is : on ≡ under path (codes "functions")) (own : Signature) (own_is : own ≡ no_signature) where
  abbrev functions_at : Read (List ScriptFunction)
  functions_at = read_bodies version signatures names hs fs on 0

  abbrev main_at : Read (List ScriptMove)
  main_at = read_body (record { version = version; signatures = signatures; functions = names; own = own }) (value_under (codes "main") d) (under path (codes "main"))

  bodies-are : bodies_and_main version signatures names hs fs d path ≡ and_then (λ functions. read_map (λ main. record { version = version; signatures = signatures; functions = functions; main = main }) main_at) functions_at
  bodies-are = λ i.
      and_then
      (λ functions. read_map (λ main. record { version = version; signatures = signatures; functions = functions; main = main }) (read_body (record { version = version; signatures = signatures; functions = names; own = sym own_is i }) (value_under (codes "main") d) (under path (codes "main"))))
      (read_bodies version signatures names hs fs (sym on_is i) 0)

  pub functions-refused : (p : JsonPath) (r : Reason) → functions_at ≡ fault p r → bodies_and_main version signatures names hs fs d path ≡ fault p r
  functions-refused p r e = bodies-are ∙ then_fault _ functions_at p r e

  module _ (functions : List ScriptFunction) (e0 : functions_at ≡ read functions) where
    main-next : bodies_and_main version signatures names hs fs d path ≡ read_map (λ main. record { version = version; signatures = signatures; functions = functions; main = main }) main_at
    main-next = bodies-are ∙ then_read _ functions_at functions e0

    pub main-refused : (p : JsonPath) (r : Reason) → main_at ≡ fault p r → bodies_and_main version signatures names hs fs d path ≡ fault p r
    main-refused p r e = main-next ∙ ap (read_map (λ main. record { version = version; signatures = signatures; functions = functions; main = main })) e

    pub bodies-read : (main : List ScriptMove) → main_at ≡ read main → bodies_and_main version signatures names hs fs d path ≡ read (record { version = version; signatures = signatures; functions = functions; main = main })
    bodies-read main e = main-next ∙ ap (read_map (λ main. record { version = version; signatures = signatures; functions = functions; main = main })) e
