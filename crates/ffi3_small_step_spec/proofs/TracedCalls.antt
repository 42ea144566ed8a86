-- What the lines of a traced run tell of an entry and of a return is what their events have.
use Rattle.std.proofs.Common.{◌≡◌, ℕ, ◌+◌, ◌-◌, ◌≤◌, true, false, List, [], ◌∷◌, ◌++◌, length, refl, sym, ap, ◌∙◌, subst, arith}
use Rattle.std.specs.Prelude.{map, codes, Bool}
use Rattle.std.specs.List.{AllByRecursion, concat, join_with_byte}
use Rattle.ffi3_type_spec.specs.Tree.{trees_of}
use Rattle.ffi3_type_spec.specs.Signature.{Signature, signature_at}
use Rattle.ffi3_type_spec.specs.Value.{ValueTree, values_of}
use Rattle.ffi3_type_spec.specs.ValueText.{value_text_of, value_texts_of}
use Rattle.ffi3_place_spec.specs.declared.Loc.{Loc}
use Rattle.ffi3_place_spec.specs.Standard.{Standard, need_of, needs_of, frame_of}
use Rattle.ffi3_place_spec.specs.Scribble.{scribble}
use Rattle.ffi3_place_spec.specs.Image.{Image, register}
use Rattle.ffi3_place_spec.specs.Holds.{SameIn}
use Rattle.ffi3_place_spec.specs.Event.{Event}
use Rattle.ffi3_semantics_spec.specs.Meaning.{Program}
use Rattle.ffi3_semantics_spec.specs.Trace.{TraceItem, Enter, Line, Leave, StopLine}
use Rattle.ffi3_semantics_spec.specs.Journal.{Entered, needs, Answers, IsEntry, IsReturn, events_in}
use Rattle.ffi3_semantics_spec.specs.Lines.{OpenCall, Point, past, traced, a_line, address_text, word_text, sp_at_call, keep_text, leave_text, enter_lines, leave_lines}
use Rattle.ffi3_small_step_spec.specs.Remainder.{Remainder}
use Rattle.ffi3_small_step_spec.specs.Open.{open_after}
use Rattle.ffi3_small_step_spec.specs.Interrupted.{past_all}
use Rattle.ffi3_small_step_spec.specs.SoFar.{Base, main_base, text_start, text_after, open_at, HasComeTo}
use Rattle.ffi3_small_step_spec.specs.Path.{Position}
use Rattle.ffi3_small_step_spec.specs.TracingOf.{IsTracedAsEntered, AreTracedAsEntered, IsTraced, IsTracingOf}
use Rattle.ffi3_small_step_spec.specs.MainTracing.{main_tracing}
use Rattle.ffi3_small_step_spec.proofs.Opens.{line_of, stop_of}

-- ---- registers

abbrev pub registers_text : (Loc → ℕ) → List Loc → List ℕ
registers_text value registers = concat (map (λ at. codes " " ++ word_text (value at)) registers)

-- registers that hold the same have the same words
same_words : (f g : Loc → ℕ) (registers : List Loc) → AllByRecursion (λ at. g at ≡ f at) registers → map (λ at. codes " " ++ word_text (f at)) registers ≡ map (λ at. codes " " ++ word_text (g at)) registers
same_words f g [] is = refl
same_words f g (at ∷ registers) is = λ i.
    (codes " " ++ word_text (sym is.0 i)) ∷ same_words f g registers is.1 i

keep_is : (std : Standard) (f : Loc → ℕ) (image : Image) → AllByRecursion (λ at. register image at ≡ f at) std.callee_saved → keep_text std f ≡ codes "keep" ++ registers_text (register image) std.callee_saved
keep_is std f image is =
    ap (λ (l : List (List ℕ)). codes "keep" ++ concat l) (same_words f (register image) std.callee_saved is)

as_left : (f g : Loc → ℕ) (image : Image) → ((at : Loc) → f at ≡ g at) → (registers : List Loc) → AllByRecursion (λ at. register image at ≡ g at) registers → AllByRecursion (λ at. register image at ≡ f at) registers
as_left f g image same [] is = tt
as_left f g image same (at ∷ registers) is =
    (is.0 ∙ sym (same at), as_left f g image same registers is.1)

-- what is kept is what the entry had
still_there : (f : Loc → ℕ) (entry return : Image) (registers : List Loc) → AllByRecursion (λ at. register entry at ≡ f at) registers → SameIn registers entry return → AllByRecursion (λ at. register return at ≡ f at) registers
still_there f entry return [] is kept = tt
still_there f entry return (at ∷ registers) is kept =
    (sym kept.0 ∙ is.0, still_there f entry return registers is.1 kept.1)

-- ---- open calls

-- the stack that they take, as the text counts it
told_needs : (std : Standard) (top : ℕ) (leaves : ℕ → Loc → ℕ) (es : List Entered) (cs : List OpenCall) → AreTracedAsEntered std top leaves es cs → needs_of std (map (λ (c : OpenCall). c.signature) cs) ≡ needs std es
told_needs std top leaves [] [] told = refl
told_needs std top leaves (e ∷ es) (c ∷ cs) told =
    let rest = told_needs std top leaves es cs told.1 in
    let here : need_of std e.signature ≡ need_of std c.signature = ap (need_of std) told.0.signature in
    omega (arith, rest, here)
told_needs std top leaves [] (c ∷ cs) told = absurd told
told_needs std top leaves (e ∷ es) [] told = absurd told

-- the text counts the events
past_events : (ss : List Signature) (at : Point) (own : List TraceItem) → (past_all ss at own).events ≡ at.events + events_in own
past_events ss at [] = omega arith
past_events ss at (Line t v ∷ later) = past_events ss at later
past_events ss at (StopLine stop ∷ later) = past_events ss at later
past_events ss at (Enter ptr sig args ∷ later) =
    let k : (past_all ss (past ss at (Enter ptr sig args)) later).events ≡ at.events + 1 + events_in later = past_events ss (past ss at (Enter ptr sig args)) later in
    omega (arith, k)
past_events ss at (Leave sig r ∷ later) =
    let k : (past_all ss (past ss at (Leave sig r)) later).events ≡ at.events + 1 + events_in later = past_events ss (past ss at (Leave sig r)) later in
    omega (arith, k)

module _ (std : Standard) (top : ℕ) (held : Loc → ℕ) (ss : List Signature) (leaves : ℕ → Loc → ℕ) (count : ℕ) (later_on : (n : ℕ) (at : Loc) → count ≤ n → leaves n at ≡ scribble n at) where
  calls_told : (n : ℕ) → count ≤ n → (calls : List Entered) (cs : List OpenCall) (own : List TraceItem) (events : List Event) → AreTracedAsEntered std top leaves calls cs → Answers std top held ss n calls own events → length events ≡ events_in own → AreTracedAsEntered std top leaves (open_after ss calls own events) (past_all ss (record { events = n; calls = cs }) own).calls
  calls_told n least calls cs [] [] told h whole = told
  calls_told n least calls cs [] (e ∷ events) told h whole = elim h [ ]
  calls_told n least calls cs (Line t v ∷ later) events told h whole =
      calls_told n least calls cs later events told (line_of std top held ss n calls t v later events h) whole
  calls_told n least calls cs (StopLine stop ∷ later) events told h whole =
      calls_told n least calls cs later events told (stop_of std top held ss n calls stop later events h) whole
  calls_told n least calls cs (Enter ptr sig args ∷ later) [] told h whole = absurd (omega (arith, whole))
  calls_told n least calls cs (Enter ptr sig args ∷ later) (e ∷ events) told h whole =
      let newest : IsTracedAsEntered std top leaves calls (record { signature = signature_at ss sig; event = e }) (record { signature = signature_at ss sig; entry = n }) =
      record { signature = refl; sp = h.0.sp; preserved = as_left (leaves n) (scribble n) e.image (λ at. later_on n at least) std.callee_saved h.0.preserved } in
      calls_told (n + 1) (omega (arith, least)) (record { signature = signature_at ss sig; event = e } ∷ calls) (record { signature = signature_at ss sig; entry = n } ∷ cs) later events (newest, told) h.1 (omega (arith, whole))
  calls_told n least calls cs (Leave sig r ∷ later) [] told h whole = absurd (omega (arith, whole))
  calls_told n least [] cs (Leave sig r ∷ later) (e ∷ events) told h whole = elim h [ ]
  calls_told n least (entry ∷ calls) [] (Leave sig r ∷ later) (e ∷ events) told h whole = absurd told
  calls_told n least (entry ∷ calls) (c ∷ cs) (Leave sig r ∷ later) (e ∷ events) told h whole =
      calls_told (n + 1) (omega (arith, least)) calls cs later events told.1 h.1 (omega (arith, whole))

-- ---- the lines of an entry and of a return, by the open calls

module _ (std : Standard) (top : ℕ) (leaves : ℕ → Loc → ℕ) where
  abbrev entry_line : Signature → List ValueTree → (ptr sp : ℕ) → List ℕ
  entry_line s args ptr sp =
      a_line (codes "enter " ++ address_text ptr ++ codes " sp " ++ address_text sp ++ codes " (" ++ join_with_byte 44 (value_texts_of (trees_of s.arguments) (values_of args)) ++ codes ")")

  abbrev return_line : Signature → ValueTree → (sp : ℕ) → List ℕ
  return_line s v sp =
      a_line (codes "leave sp " ++ address_text sp ++ codes " " ++ value_text_of s.result_type v)

  entry_told : (held : Loc → ℕ) (outer : List Entered) (at : Point) (n ptr : ℕ) (s : Signature) (args : List ValueTree) (e : Event) → AreTracedAsEntered std top leaves outer at.calls → at.events ≡ n → ((l : Loc) → leaves n l ≡ scribble n l) → IsEntry std top held outer n ptr s args e → enter_lines (traced std top leaves) at ptr s args ≡ entry_line s args ptr e.image.sp ++ a_line (codes "keep" ++ registers_text (register e.image) std.callee_saved)
  entry_told held outer at n ptr s args e told counted left is =
      let below = told_needs std top leaves outer at.calls told in
      let stood : e.image.sp + (std.link + frame_of std s + needs std outer) ≡ top = is.sp in
      let sp : sp_at_call std top at.calls s - std.link ≡ e.image.sp = omega (arith, below, stood) in
      let keep : keep_text std (leaves at.events) ≡ codes "keep" ++ registers_text (register e.image) std.callee_saved =
      ap (λ (k : ℕ). keep_text std (leaves k)) counted ∙ keep_is std (leaves n) e.image (as_left (leaves n) (scribble n) e.image left std.callee_saved is.preserved) in
      ap (λ (k : ℕ). entry_line s args ptr k ++ a_line (keep_text std (leaves at.events))) sp
      ∙ ap (λ (l : List ℕ). entry_line s args ptr e.image.sp ++ a_line l) keep

  return_told : (s : Signature) (entry : Event) (outer : List Entered) (cs : List OpenCall) (v : ValueTree) (e : Event) → AreTracedAsEntered std top leaves (record { signature = s; event = entry } ∷ outer) cs → IsReturn std (record { signature = s; event = entry }) v e → leave_lines (traced std top leaves) cs v ≡ return_line s v e.image.sp ++ a_line (codes "keep" ++ registers_text (register e.image) std.callee_saved)
  return_told s entry outer [] v e told back = absurd told
  return_told s entry outer (c ∷ cs) v e told back =
      let below = told_needs std top leaves outer cs told.1 in
      let stood : entry.image.sp + (std.link + frame_of std s + needs std outer) ≡ top = told.0.sp in
      let named : s ≡ c.signature = told.0.signature in
      let kept : e.image.sp ≡ entry.image.sp + std.link = back.kept.sp in
      let sp : sp_at_call std top cs s ≡ e.image.sp = omega (arith, below, stood, kept) in
      let keep : keep_text std (leaves c.entry) ≡ codes "keep" ++ registers_text (register e.image) std.callee_saved =
      keep_is std (leaves c.entry) e.image (still_there (leaves c.entry) entry.image e.image std.callee_saved told.0.preserved back.kept.preserved) in
      ap (λ (t : Signature). a_line (leave_text std top cs t v) ++ a_line (keep_text std (leaves c.entry))) (sym named)
      ∙ ap (λ (k : ℕ). return_line s v k ++ a_line (keep_text std (leaves c.entry))) sp
      ∙ ap (λ (l : List ℕ). return_line s v e.image.sp ++ a_line l) keep

-- ---- of a run that has come to a point

module _ (p : Program) (b : Base) (leaves : ℕ → Loc → ℕ) (is_traced : IsTraced p b leaves) (all : Remainder) (own : List TraceItem) (events : List Event) (x : Position) (h : HasComeTo p b all own events x) where
  -- THE OPEN CALLS ARE THOSE OF THE TEXT
  open_told : AreTracedAsEntered b.standard b.top leaves (open_at p b x.call_stack.suspended events) (text_after p b own).calls
  open_told =
      let P : List Entered → Type 0 = λ l. AreTracedAsEntered b.standard b.top leaves l (text_after p b own).calls in
      subst P h.answers.left_open (calls_told b.standard b.top b.held p.signatures leaves b.count is_traced.later b.count (omega arith) (open_at p b [] []) (text_start p b).calls own events is_traced.open_calls h.answers.answers h.answers.whole)

  -- and the next event has the text's number
  events_told : (text_after p b own).events ≡ b.count + length events
  events_told =
      past_events p.signatures (text_start p b) own ∙ ap (λ (n : ℕ). b.count + n) (sym h.answers.whole)

  -- THE LINES OF AN ENTRY tell the stack pointer and the callee-saved registers of its event
  pub enter_lines_are : (ptr : ℕ) (s : Signature) (args : List ValueTree) (e : Event) → IsEntry b.standard b.top b.held (open_at p b x.call_stack.suspended events) (b.count + length events) ptr s args e → enter_lines (traced b.standard b.top leaves) (text_after p b own) ptr s args ≡ a_line (codes "enter " ++ address_text ptr ++ codes " sp " ++ address_text e.image.sp ++ codes " (" ++ join_with_byte 44 (value_texts_of (trees_of s.arguments) (values_of args)) ++ codes ")") ++ a_line (codes "keep" ++ registers_text (register e.image) b.standard.callee_saved)
  enter_lines_are ptr s args e is =
      entry_told b.standard b.top leaves b.held (open_at p b x.call_stack.suspended events) (text_after p b own) (b.count + length events) ptr s args e open_told events_told (λ at. is_traced.later (b.count + length events) at (omega arith)) is

  -- THE LINES OF A RETURN tell the stack pointer and the callee-saved registers of its event
  pub leave_lines_are : (s : Signature) (entry : Event) (outer : List Entered) (v : ValueTree) (e : Event) → open_at p b x.call_stack.suspended events ≡ record { signature = s; event = entry } ∷ outer → IsReturn b.standard (record { signature = s; event = entry }) v e → leave_lines (traced b.standard b.top leaves) (text_after p b own).calls v ≡ a_line (codes "leave sp " ++ address_text e.image.sp ++ codes " " ++ value_text_of s.result_type v) ++ a_line (codes "keep" ++ registers_text (register e.image) b.standard.callee_saved)
  leave_lines_are s entry outer v e opened back =
      let P : List Entered → Type 0 = λ l. AreTracedAsEntered b.standard b.top leaves l (text_after p b own).calls in
      return_told b.standard b.top leaves s entry outer (text_after p b own).calls v e (subst P opened open_told) back

-- ---- of a run of main

pub main_is_traced : (p : Program) (std : Standard) (trace : Bool) → IsTracingOf p (main_base std) trace (main_tracing trace std)
main_is_traced p std false = refl
main_is_traced p std true = (scribble, refl, record { later = λ n at least. refl; open_calls = tt })
