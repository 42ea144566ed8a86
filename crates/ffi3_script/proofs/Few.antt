-- A script that is read has no more functions and moves than its value's arrays have items.
use Rattle.std.proofs.Common.{◌≡◌, ℕ, suc, ◌+◌, ◌≤◌, List, [], ◌∷◌, ◌++◌, length, All, Option, Some, None, codes, refl, ap, subst, arith}
use Rattle.std.specs.Prelude.{unwrap_or, option_and_then}
use Rattle.std.proofs.lemmas.List.Elements.{All-cons, All-nil}
use Rattle.serde_json.specs.Data.{Data, null, boolean, number, string, array, object, Items, no_items, item}
use Rattle.serde_json.specs.Find.{get, as_number, as_u64}
use Rattle.serde_json.specs.Events.{items_len}
use Rattle.ffi3_type_spec.specs.Signature.{Signature, signature_at}
use Rattle.ffi3_semantics_spec.specs.Move.{no_signature}
use Rattle.ffi3_script_spec.specs.Language.{JsonPath, read, read_signature, at_item, under, value_under, check_object, no_return_at_the_end}
use Rattle.ffi3_script_spec.specs.Script.{ScriptMove, ScriptFunction, Script}
use Rattle.ffi3_script_spec.specs.Values.{Given}
use Rattle.ffi3_script_spec.specs.Bodies.{Surroundings, read_move, read_moves, given_by, read_body, if_ended, ends, Heading, read_bodies, names_of, read_rest, read_script, script_keys, version_of, items_at, read_signatures, read_headings}
use Rattle.ffi3_script_spec.proofs.ReadParts.{first_was_read, part_was_read, same_read, test_held}
use Rattle.ffi3_json.specs.Within.{HasArraysWithin, HaveArraysWithin}
use Rattle.ffi3_script.proofs.RootParts.{within-get}

moves-count : (s : Surroundings) (given : List Given) (ds : Items) (path : JsonPath) (i : ℕ) (ms : List ScriptMove) → read_moves s given ds path i ≡ read ms → length ms ≡ items_len ds
moves-count s given no_items path i ms h = subst (λ (ns : List ScriptMove). length ns ≡ 0) (same_read [] ms h) refl
moves-count s given (item d ds) path i ms h =
    let m = first_was_read _ (read_move s given d (at_item path i)) ms h in
    let rest = part_was_read _ (read_moves s (given ++ given_by s.signatures m.0 ∷ []) ds path (i + 1)) ms m.2 in
    subst (λ (ns : List ScriptMove). length ns ≡ suc (items_len ds)) rest.2 (ap suc (moves-count s (given ++ given_by s.signatures m.0 ∷ []) ds path (i + 1) rest.0 rest.1))

within-option : (n : ℕ) (k : List ℕ) (d : Data) (o : Option Data) → get k d ≡ o → HasArraysWithin n d → HasArraysWithin n (unwrap_or o null)
within-option n k d None e within = tt
within-option n k d (Some inside) e within = within-get n k d inside e within

within-under : (n : ℕ) (k : List ℕ) (d : Data) → HasArraysWithin n d → HasArraysWithin n (value_under k d)
within-under n k d within = within-option n k d (get k d) refl within

module _ (n : ℕ) where
  body-few : (s : Surroundings) (d : Data) (path : JsonPath) (ms : List ScriptMove) → HasArraysWithin n d → read_body s d path ≡ read ms → length ms ≤ n
  body-few s (array ds) path ms within h =
      let was = first_was_read (if_ended path) (read_moves s [] ds path 0) ms h in
      let held = test_held (ends was.0) (read was.0) path no_return_at_the_end ms was.2 in
      omega (arith, within.0, moves-count s [] ds path 0 was.0 was.1, ap length (same_read was.0 ms held.1))
  body-few s null path ms within h = cc
  body-few s (boolean b) path ms within h = cc
  body-few s (number x) path ms within h = cc
  body-few s (string text) path ms within h = cc
  body-few s (object os) path ms within h = cc

  abbrev pub HasFewMoves : ScriptFunction → Type 0
  HasFewMoves f = length f.body ≤ n

  bodies-few : (version : ℕ) (ss : List Signature) (names : List (List ℕ)) (hs : List Heading) (ds : Items) (path : JsonPath) (i : ℕ) (fs : List ScriptFunction) → HaveArraysWithin n ds → read_bodies version ss names hs ds path i ≡ read fs
      → (length fs ≤ items_len ds) × All HasFewMoves fs
  bodies-few version ss names [] no_items path i fs within h = subst (λ gs. (length gs ≤ 0) × All HasFewMoves gs) (same_read [] fs h) (omega arith, All-nil HasFewMoves)
  bodies-few version ss names (h ∷ hs) no_items path i fs within e = subst (λ gs. (length gs ≤ 0) × All HasFewMoves gs) (same_read [] fs e) (omega arith, All-nil HasFewMoves)
  bodies-few version ss names [] (item d ds) path i fs within h = subst (λ gs. (length gs ≤ suc (items_len ds)) × All HasFewMoves gs) (same_read [] fs h) (omega arith, All-nil HasFewMoves)
  bodies-few version ss names (h ∷ hs) (item d ds) path i fs within e =
      let surroundings : Surroundings = record { version = version; signatures = ss; functions = names; own = signature_at ss h.signature } in
      let place = under (at_item path i) (codes "body") in
      let moves = first_was_read _ (read_body surroundings (value_under (codes "body") d) place) fs e in
      let rest = part_was_read _ (read_bodies version ss names hs ds path (i + 1)) fs moves.2 in
      let few = body-few surroundings (value_under (codes "body") d) place moves.0 (within-under n (codes "body") d within.0) moves.1 in
      let others = bodies-few version ss names hs ds path (i + 1) rest.0 within.1 rest.1 in
      subst (λ gs. (length gs ≤ suc (items_len ds)) × All HasFewMoves gs) rest.2 (omega (arith, others.0), All-cons HasFewMoves _ rest.0 few others.1)

  items-within : (d : Data) (path : JsonPath) (ds : Items) → HasArraysWithin n d → items_at d path ≡ read ds → HasArraysWithin n (array ds)
  items-within (array es) path ds within h = subst (λ fs. HasArraysWithin n (array fs)) (same_read es ds h) within
  items-within null path ds within h = cc
  items-within (boolean b) path ds within h = cc
  items-within (number x) path ds within h = cc
  items-within (string text) path ds within h = cc
  items-within (object os) path ds within h = cc

  signatures-count : (version : ℕ) (ds : Items) (path : JsonPath) (i : ℕ) (ss : List Signature) → read_signatures version ds path i ≡ read ss → length ss ≡ items_len ds
  signatures-count version no_items path i ss h =
      subst (λ (rs : List Signature). length rs ≡ 0) (same_read [] ss h) refl
  signatures-count version (item d ds) path i ss h =
      let s = first_was_read _ (read_signature version d (at_item path i)) ss h in
      let rest = part_was_read _ (read_signatures version ds path (i + 1)) ss s.2 in
      subst (λ (rs : List Signature). length rs ≡ suc (items_len ds)) rest.2 (ap suc (signatures-count version ds path (i + 1) rest.0 rest.1))

  pub record IsFew (s : Script) : Type 0 where
    pub signatures : length s.signatures ≤ n
    pub functions : length s.functions ≤ n
    pub moves : All HasFewMoves s.functions
    pub main : length s.main ≤ n

  rest-few : (natives : List (List ℕ)) (d : Data) (version : ℕ) (ss : List Signature) (fs : Items) (hs : List Heading) (s : Script) → HasArraysWithin n d → HasArraysWithin n (array fs) → length ss ≤ n → read_rest natives d version ss fs hs ≡ read s → IsFew s
  rest-few natives d version ss fs hs s within within_fs few_ss e =
      let names = names_of hs ++ natives in
      let surroundings : Surroundings = record { version = version; signatures = ss; functions = names; own = no_signature } in
      let place = under [] (codes "main") in
      let functions = first_was_read _ (read_bodies version ss names hs fs (under [] (codes "functions")) 0) s e in
      let main = part_was_read _ (read_body surroundings (value_under (codes "main") d) place) s functions.2 in
      let each = bodies-few version ss names hs fs (under [] (codes "functions")) 0 functions.0 within_fs.1 functions.1 in
      let few = body-few surroundings (value_under (codes "main") d) place main.0 (within-under n (codes "main") d within) main.1 in
      subst IsFew main.2 (record { signatures = few_ss; functions = omega (arith, each.0, within_fs.0); moves = each.1; main = few })

  pub script-few : (natives : List (List ℕ)) (d : Data) (s : Script) → HasArraysWithin n d → read_script natives d ≡ read s → IsFew s
  script-few natives d s within e =
      let checked = first_was_read _ (check_object d script_keys []) s e in
      let version = first_was_read _ (version_of (option_and_then as_u64 (as_number (value_under (codes "version") d))) (under [] (codes "version"))) s checked.2 in
      let ss = first_was_read _ (items_at (value_under (codes "signatures") d) (under [] (codes "signatures"))) s version.2 in
      let signatures = first_was_read _ (read_signatures version.0 ss.0 (under [] (codes "signatures")) 0) s ss.2 in
      let fs = first_was_read _ (items_at (value_under (codes "functions") d) (under [] (codes "functions"))) s signatures.2 in
      let hs = first_was_read (read_rest natives d version.0 signatures.0 fs.0) (read_headings (length signatures.0) [] fs.0 (under [] (codes "functions")) 0) s fs.2 in
      let within_ss = items-within (value_under (codes "signatures") d) (under [] (codes "signatures")) ss.0 (within-under n (codes "signatures") d within) ss.1 in
      let few_ss : length signatures.0 ≤ n = omega (arith, within_ss.0, signatures-count version.0 ss.0 (under [] (codes "signatures")) 0 signatures.0 signatures.1) in
      rest-few natives d version.0 signatures.0 fs.0 hs.0 s within (items-within (value_under (codes "functions") d) (under [] (codes "functions")) fs.0 (within-under n (codes "functions") d within) fs.1) few_ss hs.2
