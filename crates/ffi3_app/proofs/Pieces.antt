-- What came of pieces that were written one after another.
use Rattle.std.proofs.Common.{◌≡◌, ℕ, ◌+◌, ◌-◌, ◌≤◌, List, [], ◌∷◌, ◌++◌, map, drop, length, refl, sym, ap, ◌∙◌, subst, arith, take-append-drop}
use Rattle.std.specs.Prelude.{Result, Ok, Err, IfOk, ◌<◌, get_or, slice_range}
use Rattle.std.proofs.lemmas.List.{drop_more, drop-drop}
use Rattle.std.proofs.lemmas.List.Folds.{concat-append}
use Rattle.std.proofs.Math.ListN.{drop_of_length-le}
use Rattle.ffi3_io.proofs.Writing.{took_nothing, took_then, cut_after, cut_at_once, cut_in}
use Rattle.ffi3_type_spec.specs.Signature.{Signature, signature_at, Position, at_argument}
use Rattle.ffi3_type_spec.specs.Tree.{Tree}
use Rattle.ffi3_type_spec.specs.declared.Target.{Target}
use Rattle.ffi3_io_spec.specs.Sink.{SinkState}
use Rattle.ffi3_io_spec.specs.Written.{TookText}
use Rattle.std.specs.List.{concat, flat_map}
use Rattle.ffi3_app_spec.specs.Commands.{lines_from, arguments_from}
use Rattle.ffi3_io_spec.specs.Written as written
use Rattle.ffi3_io_spec.specs.declared.IoError.{IoError}
use Rattle.ffi3_io_spec.specs.declared.IoError.TheVariants.{NoMemory}

abbrev pub Writing : Type 0
Writing = Result Unit IoError

-- what came of a text
abbrev pub Wrote : List ℕ → SinkState → SinkState → Writing → Type 0
Wrote text a b r = written.Wrote text a b r

nothing_written : (a : SinkState) → Wrote [] a a (Ok tt)
nothing_written a = took_nothing a

-- a piece that was written, and what came of the pieces after it
written_then : (x y : List ℕ) (a b c : SinkState) (r : Writing) → TookText x a b → Wrote y b c r → Wrote (x ++ y) a c r
written_then x y a b c (Ok u) first second = took_then a b c x y (x ++ y) refl first second
written_then x y a b c (Err e) first second = cut_after a b c x y (x ++ y) e refl first second

-- a piece in which writing ended is part of the whole
ended_within : (x y : List ℕ) (a b : SinkState) (e : IoError) → Wrote x a b (Err e) → Wrote (x ++ y) a b (Err e)
ended_within x y a b e cut = cut_in a b x y (x ++ y) e refl cut

-- ---- what is left of a text

-- what comes of the rest comes of the whole
abbrev pub Continues : List ℕ → List ℕ → SinkState → SinkState → Type 0
Continues whole rest start now =
    (after : SinkState) (r : Writing) → Wrote rest now after r → Wrote whole start after r

pub continues_from : (whole : List ℕ) (start : SinkState) → Continues whole whole start start
continues_from whole start = λ after r h. h

module _ (whole rest : List ℕ) (start now : SinkState) (continues : Continues whole rest start now) where
  pub continues_on : (piece left : List ℕ) (next : SinkState) → rest ≡ piece ++ left → Wrote piece now next (Ok tt) → Continues whole left start next
  continues_on piece left next is wrote = λ after r h. continues after r (subst (λ t. Wrote t now after r) (sym is) (written_then piece left now next after r wrote h))

  pub continues_ended : (piece left : List ℕ) (next : SinkState) (e : IoError) (r : Writing) → rest ≡ piece ++ left → Wrote piece now next (Err e) → r ≡ Err e → Wrote whole start next r
  continues_ended piece left next e r is wrote same =
      subst (λ q. Wrote whole start next q) (sym same) (continues next (Err e) (subst (λ t. Wrote t now next (Err e)) (sym is) (ended_within piece left now next e wrote)))

  pub continues_no_memory : Wrote whole start now (Err NoMemory)
  continues_no_memory =
      continues now (Err NoMemory) (cut_at_once now rest)

  pub continues_done : rest ≡ [] → Wrote whole start now (Ok tt)
  continues_done is =
      continues now (Ok tt) (subst (λ t. Wrote t now now (Ok tt)) (sym is) (nothing_written now))

  -- the last piece
  pub continues_last : (piece : List ℕ) (after : SinkState) (r : Writing) → rest ≡ piece → Wrote piece now after r → Wrote whole start after r
  continues_last piece after r is wrote = continues after r (subst (λ t. Wrote t now after r) (sym is) wrote)

-- ---- the parts of targets, one after another

module _ (part : Target → List ℕ) (whole : List ℕ) (start now next : SinkState) (t : Target) (ts : List Target) (continues : Continues whole (flat_map part (t ∷ ts)) start now) where
  pub target_on : Wrote (part t) now next (Ok tt) → Continues whole (flat_map part ts) start next
  target_on wrote =
      continues_on whole (flat_map part (t ∷ ts)) start now continues (part t) (flat_map part ts) next refl wrote

  pub target_ended : (e : IoError) (r : Writing) → Wrote (part t) now next (Err e) → r ≡ Err e → Wrote whole start next r
  target_ended e r wrote same =
      continues_ended whole (flat_map part (t ∷ ts)) start now continues (part t) (flat_map part ts) next e r refl wrote same

-- ---- a piece of a text

pub piece_of : (text : List ℕ) (start end : ℕ) → start ≤ end → drop start text ≡ slice_range text start end ++ drop end text
piece_of text start end rises =
    let sum : start + (end - start) ≡ end = omega (arith, rises) in
    let rest : drop (end - start) (drop start text) ≡ drop end text = drop-drop (end - start) start text ∙ ap (λ n. drop n text) sum in
    sym (take-append-drop (end - start) (drop start text)) ∙ ap (λ t. slice_range text start end ++ t) rest

-- ---- lines

-- those of signature i, and of the signatures after it
module _ (lines : ℕ → Signature → List (List ℕ)) (ss : List Signature) where
  lines_at : (i : ℕ) (d : Signature) → i < length ss → concat (lines_from lines i (drop i ss)) ≡ concat (lines i (get_or ss i d)) ++ concat (lines_from lines (i + 1) (drop (i + 1) ss))
  lines_at i d below =
      ap (λ rest. concat (lines_from lines i rest)) (drop_more ss i d below) ∙ concat-append (lines i (get_or ss i d)) (lines_from lines (i + 1) (drop (i + 1) ss))

  -- where the list and the signature were lent
  pub lines_of : (i : ℕ) (lent : List Signature) (s : Signature) → lent ≡ ss → i < length lent → s ≡ signature_at lent i → concat (lines_from lines i (drop i ss)) ≡ concat (lines i s) ++ concat (lines_from lines (i + 1) (drop (i + 1) ss))
  lines_of i lent s same below is =
      let there : i < length ss = subst (λ l. i < length l) same below in
      let is_at : s ≡ signature_at ss i = is ∙ ap (λ l. signature_at l i) same in
      lines_at i _ there ∙ ap (λ r. concat (lines i r) ++ concat (lines_from lines (i + 1) (drop (i + 1) ss))) (sym is_at)

  pub lines_end : (i : ℕ) → length ss ≤ i → concat (lines_from lines i (drop i ss)) ≡ []
  lines_end i end = ap (λ rest. concat (lines_from lines i rest)) (drop_of_length-le ss {i = i} end)

-- that of argument j, and those after it, before some last lines
module _ (line : Position → List ℕ) (ts : List Tree) (last : List (List ℕ)) where
  pub argument_at : (j : ℕ) (d : Tree) → j < length ts → concat (map line (arguments_from j (drop j ts)) ++ last) ≡ line (at_argument j) ++ concat (map line (arguments_from (j + 1) (drop (j + 1) ts)) ++ last)
  argument_at j d below =
      ap (λ rest. concat (map line (arguments_from j rest) ++ last)) (drop_more ts j d below)

  pub arguments_end : (j : ℕ) → length ts ≤ j → concat (map line (arguments_from j (drop j ts)) ++ last) ≡ concat last
  arguments_end j end =
      ap (λ rest. concat (map line (arguments_from j rest) ++ last)) (drop_of_length-le ts {i = j} end)

-- a line that was made of a signature is that of the same signature
pub line_for : {E : Type 0} (text : Signature → List ℕ) (s t : Signature) (line : Result (List ℕ) E) → s ≡ t → IfOk line (λ l. l ≡ text s) → IfOk line (λ l. l ≡ text t)
line_for text s t line is made = subst (λ v. IfOk line (λ l. l ≡ text v)) is made

-- what was written of a signature or by a standard was written of the same
pub wrote_for : {X : Type 0} (text : X → List ℕ) (s t : X) (a b : SinkState) (r : Writing) → s ≡ t → Wrote (text s) a b r → Wrote (text t) a b r
wrote_for text s t a b r is wrote = subst (λ v. Wrote (text v) a b r) is wrote
