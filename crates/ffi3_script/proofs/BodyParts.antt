-- The moves of a body, one after another, and its last.
use Rattle.std.proofs.Common.{◌≡◌, ℕ, zero, suc, ◌+◌, ◌-◌, ◌==◌, ◌<◌, List, [], ◌∷◌, ◌++◌, length, get_or, Option, option_map, string_bytes, refl, sym, ap, ◌∙◌, arith, Bool, false}
use Rattle.std.specs.Prelude.{if◌then◌else◌}
use Rattle.serde_json.specs.Data.{Data, null, boolean, number, string, array, object, Items}
use Rattle.serde_json.specs.Events.{items_len}
use Rattle.ffi3_type_spec.specs.Tree.{Tree}
use Rattle.ffi3_script_spec.specs.Language.{JsonPath, Reason, Read, read, fault, and_then, at_item, no_return_at_the_end}
use Rattle.ffi3_script_spec.specs.Script as script
use Rattle.ffi3_script_spec.specs.Values.{Given}
use Rattle.ffi3_script_spec.specs.Bodies.{Surroundings, read_move, read_moves, read_body, if_ended, items_at, given_by, type_of_act, always_returns, ends}
use Rattle.ffi3_json.specs.Parts.{item_at, items_from}
use Rattle.ffi3_script_body.specs.ExprOf.{act_of, script_move_of, script_moves_of}
use Rattle.ffi3_script.specs.ScopeOf.{given_of}
use Rattle.ffi3_script_body.specs.declared.moves.ScriptMove.{ScriptMove}
use Rattle.ffi3_script.proofs.Steps.{then_fault, then_read}
use Rattle.ffi3_script.proofs.Loops.{before, next_item, first_and, one_more, one_fault, mapped-more}

given-more : (names : List (Option (List ℕ))) (types : List Tree) (n : Option (List ℕ)) (t : Tree) → length names ≡ length types → given_of (names ++ n ∷ []) (types ++ t ∷ []) ≡ given_of names types ++ record { name = n; type = t } ∷ []
given-more [] [] n t even = refl
given-more [] (u ∷ types) n t even = absurd (omega arith)
given-more (m ∷ names) [] n t even = absurd (omega arith)
given-more (m ∷ names) (u ∷ types) n t even = ap (λ gs. record { name = m; type = u } ∷ gs) (given-more names types n t (omega arith))

module _ (s : Surroundings) (given : List Given) (ds : Items) (path : JsonPath) (i : ℕ) (x : Data) (whole : Read (List script.ScriptMove)) (done : List script.ScriptMove)
    (below : i < items_len ds) (is : x ≡ item_at ds i) (so_far : whole ≡ before done (read_moves s given (items_from i ds) path i)) where
  here : whole ≡ before done (first_and (λ m. read_moves s (given ++ given_by s.signatures m ∷ []) (items_from (i + 1) ds) path (i + 1)) (read_move s given x (at_item path i)))
  here = so_far ∙ ap (λ es. before done (read_moves s given es path i)) (next_item ds i x below is)

  moves-one : (m : script.ScriptMove) → read_move s given x (at_item path i) ≡ read m → whole ≡ before (done ++ m ∷ []) (read_moves s (given ++ given_by s.signatures m ∷ []) (items_from (i + 1) ds) path (i + 1))
  moves-one m e = one_more whole done (λ n. read_moves s (given ++ given_by s.signatures n ∷ []) (items_from (i + 1) ds) path (i + 1)) (read_move s given x (at_item path i)) here m e

  pub moves-fault : (p : JsonPath) (r : Reason) → read_move s given x (at_item path i) ≡ fault p r → whole ≡ fault p r
  moves-fault p r e = one_fault whole done (λ n. read_moves s (given ++ given_by s.signatures n ∷ []) (items_from (i + 1) ds) path (i + 1)) (read_move s given x (at_item path i)) here p r e

-- one more move was read, and its name and type were noted
pub moves-turn : (s : Surroundings) (names more_names : List (Option (List ℕ))) (types more_types : List Tree) (ds : Items) (path : JsonPath) (i : ℕ) (x : Data) (whole : Read (List script.ScriptMove)) (moves more : List ScriptMove) (one : ScriptMove)
    → length names ≡ length types → i < items_len ds → x ≡ item_at ds i → whole ≡ before (script_moves_of moves) (read_moves s (given_of names types) (items_from i ds) path i)
    → read_move s (given_of names types) x (at_item path i) ≡ read (script_move_of one)
    → more_names ≡ names ++ option_map string_bytes one.name ∷ [] → more_types ≡ types ++ type_of_act s.signatures (act_of one.act) ∷ [] → more ≡ moves ++ one ∷ []
    → whole ≡ before (script_moves_of more) (read_moves s (given_of more_names more_types) (items_from (i + 1) ds) path (i + 1))
moves-turn s names more_names types more_types ds path i x whole moves more one even below is so_far e named typed pushed =
    let rest : List Given → Read (List script.ScriptMove) = λ given. read_moves s given (items_from (i + 1) ds) path (i + 1) in
    let noted : given_of more_names more_types ≡ given_of names types ++ given_by s.signatures (script_move_of one) ∷ [] =
    ap (λ n. given_of n more_types) named ∙ ap (given_of (names ++ option_map string_bytes one.name ∷ [])) typed ∙ given-more names types (option_map string_bytes one.name) (type_of_act s.signatures (act_of one.act)) even in
    moves-one s (given_of names types) ds path i x whole (script_moves_of moves) below is so_far (script_move_of one) e
    ∙ ap (λ given. before (script_moves_of moves ++ script_move_of one ∷ []) (rest given)) (sym noted)
    ∙ ap (λ done. before done (rest (given_of more_names more_types))) (sym (mapped-more script_move_of moves one more pushed))

-- the last move decides
pub ends-last : (ms : List ScriptMove) (i : ℕ) (d : ScriptMove) → i + 1 ≡ length ms → ends (script_moves_of ms) ≡ always_returns (script_move_of (get_or ms i d))
ends-last [] i d e = absurd (omega arith)
ends-last (m ∷ []) zero d e = refl
ends-last (m ∷ []) (suc i) d e = absurd (omega arith)
ends-last (m ∷ n ∷ ms) zero d e = absurd (omega arith)
ends-last (m ∷ n ∷ ms) (suc i) d e = ends-last (n ∷ ms) i d (omega arith)

pub last-index : (n : ℕ) → false ≡ (n == 0) → n - 1 + 1 ≡ n
last-index zero e = absurd (cc)
last-index (suc n) e = omega arith

-- the array of a body, and then its end
body-of : (s : Surroundings) (path : JsonPath) (d : Data) → read_body s d path ≡ and_then (λ ds. and_then (if_ended path) (read_moves s [] ds path 0)) (items_at d path)
body-of s path null = refl
body-of s path (boolean b) = refl
body-of s path (number n) = refl
body-of s path (string t) = refl
body-of s path (array ds) = refl
body-of s path (object ms) = refl

module _ (s : Surroundings) (d : Data) (path : JsonPath) where
  pub body-refused : (p : JsonPath) (r : Reason) → items_at d path ≡ fault p r → read_body s d path ≡ fault p r
  body-refused p r e = body-of s path d ∙ then_fault _ (items_at d path) p r e

  module _ (ds : Items) (is : items_at d path ≡ read ds) where
    moves-next : read_body s d path ≡ and_then (if_ended path) (read_moves s [] ds path 0)
    moves-next = body-of s path d ∙ then_read _ (items_at d path) ds is

    pub moves-refused : (p : JsonPath) (r : Reason) → read_moves s [] ds path 0 ≡ fault p r → read_body s d path ≡ fault p r
    moves-refused p r e = moves-next ∙ then_fault (if_ended path) (read_moves s [] ds path 0) p r e

    module _ (ms : List script.ScriptMove) (e : read_moves s [] ds path 0 ≡ read ms) (b : Bool) (last : ends ms ≡ b) where
      pub body-ended : read_body s d path ≡ (if b then read ms else fault path no_return_at_the_end)
      body-ended = moves-next ∙ then_read (if_ended path) (read_moves s [] ds path 0) ms e ∙ ap (λ c. if c then read ms else fault path no_return_at_the_end) last
