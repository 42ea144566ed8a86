-- The lines of place with names in them.
use Rattle.std.proofs.Common.{◌≡◌, ℕ, ◌+◌, ◌≤◌, List, [], ◌∷◌, ◌++◌, map, drop, length, refl, sym, ap, ◌∙◌, subst, arith}
use Rattle.std.specs.Prelude.{Result, IfOk, codes, decimal}
use Rattle.std.specs.List.{concat}
use Rattle.std.proofs.lemmas.List.{append_assoc}
use Rattle.std.proofs.lemmas.Result.{IfOk-weaker}
use Rattle.ffi3_type_spec.specs.TargetIsa.{isa_of}
use Rattle.ffi3_type_spec.specs.Signature.{Signature, at_result, at_argument}
use Rattle.ffi3_type_spec.specs.Tree.{Tree}
use Rattle.ffi3_place_spec.specs.Standard.{Standard, plan_of}
use Rattle.ffi3_io_spec.specs.Sink.{SinkState}
use Rattle.ffi3_text_spec.specs.PlaceLines.{argument_place, argument_text, place_text_of, sig_text_of}
use Rattle.ffi3_app_spec.specs.Commands.{arguments_from, place_lines}
use Rattle.ffi3_app_spec.specs.Declarations.{argument_line, named_lines, named_text_of}
use Rattle.ffi3_app.proofs.Pieces.{Writing, Wrote}

dropped : (xs ys : List ℕ) → drop (length xs) (xs ++ ys) ≡ ys
dropped [] ys = refl
dropped (x ∷ xs) ys = dropped xs ys

longer : (xs ys : List ℕ) → length xs ≤ length (xs ++ ys)
longer [] ys = omega arith
longer (x ∷ xs) ys = let h = longer xs ys in omega (arith, h)

-- ---- the line of an argument

module _ (std : Standard) (s : Signature) (j : ℕ) where
  abbrev its_number : List ℕ
  its_number = codes "arg " ++ decimal j

  abbrev its_places : List ℕ
  its_places =
      argument_text (isa_of std.target) (argument_place (plan_of std s).places j) ++ 10 ∷ []

  line_is : place_text_of std s (at_argument j) ≡ its_number ++ its_places
  line_is =
      append_assoc its_number (argument_text (isa_of std.target) (argument_place (plan_of std s).places j)) (10 ∷ [])

  pub unnamed_line : argument_line [] std s j ≡ place_text_of std s (at_argument j)
  unnamed_line = sym line_is

  pub head_within : (head line : List ℕ) → head ≡ codes "arg " ++ decimal j → line ≡ place_text_of std s (at_argument j) → length head ≤ length line
  head_within head line e f =
      let P = λ (h : List ℕ). length h ≤ length line in
      let Q = λ (l : List ℕ). length its_number ≤ length l in
      subst P (sym e) (subst Q (sym (f ∙ line_is)) (longer its_number its_places))

  pub without_name : (name line : List ℕ) → length name ≡ 0 → line ≡ place_text_of std s (at_argument j) → line ≡ argument_line name std s j
  without_name [] line e f = f ∙ line_is
  without_name (b ∷ bs) line e f = absurd (omega (arith, e))

  named : (name : List ℕ) → (length name ≡ 0 → ⊥) → its_number ++ (codes " " ++ (name ++ (codes ":" ++ its_places))) ≡ argument_line name std s j
  named [] some = absurd (some refl)
  named (b ∷ bs) some =
      ap (λ (t : List ℕ). its_number ++ (codes " " ++ (b ∷ t))) (sym (append_assoc bs (codes ":") its_places))

  its_rest : (head line : List ℕ) → head ≡ codes "arg " ++ decimal j → line ≡ place_text_of std s (at_argument j) → drop (length head) line ≡ its_places
  its_rest head line e f =
      ap (λ (h : List ℕ). drop (length h) line) e ∙ ap (λ (l : List ℕ). drop (length its_number) l) (f ∙ line_is) ∙ dropped its_number its_places

  pub with_name : {E : Type 0} (name head line : List ℕ) (r : Result (List ℕ) E) → (length name ≡ 0 → ⊥) → head ≡ codes "arg " ++ decimal j → line ≡ place_text_of std s (at_argument j) → IfOk r (λ l. l ≡ head ++ (codes " " ++ (name ++ (codes ":" ++ drop (length head) line)))) → IfOk r (λ l. l ≡ argument_line name std s j)
  with_name name head line r some e f made =
      let rest = its_rest head line e f in
      let whole : head ++ (codes " " ++ (name ++ (codes ":" ++ drop (length head) line))) ≡ argument_line name std s j = ap (λ (h : List ℕ). h ++ (codes " " ++ (name ++ (codes ":" ++ drop (length head) line)))) e ∙ ap (λ (t : List ℕ). its_number ++ (codes " " ++ (name ++ (codes ":" ++ t)))) rest ∙ named name some in
      IfOk-weaker r _ _ (λ l is. is ∙ whole) made

  -- a line with a name is one with the same name
  pub line_named : {E : Type 0} (a b : List ℕ) (r : Result (List ℕ) E) → a ≡ b → IfOk r (λ l. l ≡ argument_line a std s j) → IfOk r (λ l. l ≡ argument_line b std s j)
  line_named a b r same made =
      let P = λ (n : List ℕ). IfOk r (λ l. l ≡ argument_line n std s j) in subst P same made

-- ---- where no argument has one

module _ (std : Standard) (s : Signature) where
  unnamed_from : (j : ℕ) (ts : List Tree) → map (named_text_of [] std s) (arguments_from j ts) ≡ map (place_text_of std s) (arguments_from j ts)
  unnamed_from j [] = refl
  unnamed_from j (t ∷ ts) =
      ap (λ (l : List ℕ). l ∷ map (named_text_of [] std s) (arguments_from (j + 1) ts)) (unnamed_line std s j) ∙ ap (λ (ls : List (List ℕ)). place_text_of std s (at_argument j) ∷ ls) (unnamed_from (j + 1) ts)

  unnamed : (i : ℕ) → concat (named_lines [] std i s) ≡ concat (place_lines std i s)
  unnamed i =
      ap (λ (ls : List (List ℕ)). concat (sig_text_of i std s ∷ ls ++ place_text_of std s at_result ∷ [])) (unnamed_from 0 s.arguments)

  pub wrote_unnamed : (i : ℕ) (ns : List (List ℕ)) (a b : SinkState) (r : Writing) → ns ≡ [] → Wrote (concat (named_lines ns std i s)) a b r → Wrote (concat (place_lines std i s)) a b r
  wrote_unnamed i ns a b r none wrote =
      let P = λ (ms : List (List ℕ)). Wrote (concat (named_lines ms std i s)) a b r in
      let Q = λ (t : List ℕ). Wrote t a b r in
      subst Q (unnamed i) (subst P none wrote)
