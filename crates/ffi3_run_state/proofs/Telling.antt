-- The lines that tell an event: what they are, and what came of them.
use Rattle.std.proofs.Common.{◌≡◌, ℕ, ◌+◌, ◌-◌, ◌<◌, ◌≤◌, true, false, List, [], ◌∷◌, ◌++◌, length, take, refl, sym, ap, ◌∙◌, subst, arith, length-append}
use Rattle.std.specs.Prelude.{⊤, Bool, Result, codes, slice_index_or}
use Rattle.std.specs.List.{join_with_byte}
use Rattle.std.proofs.lemmas.List.{take-append-le, take_all, take_more}
use Rattle.std.proofs.Math.Seq.{get_or-append_seam, take-append-add}
use Rattle.ffi3_type_spec.specs.Signature.{Signature}
use Rattle.ffi3_type_spec.specs.Tree.{Tree, trees_of}
use Rattle.ffi3_type_spec.specs.Value.{ValueTree, void_value, values_of}
use Rattle.ffi3_type_spec.specs.ValueText.{value_texts_of}
use Rattle.ffi3_place_spec.specs.Event.{Event}
use Rattle.ffi3_place_spec.specs.Standard.{Standard}
use Rattle.ffi3_semantics_spec.specs.Journal.{Entered, IsEntry, IsReturn}
use Rattle.ffi3_semantics_spec.specs.declared.Stop.{Stop}
use Rattle.ffi3_semantics_spec.specs.Lines.{Tracing, a_line, address_text, enter_lines, leave_lines, stop_text}
use Rattle.ffi3_semantics_spec.specs.Meaning.{Program}
use Rattle.ffi3_semantics_spec.specs.Trace.{TraceItem}
use Rattle.ffi3_small_step_spec.specs.Interrupted.{IsPart}
use Rattle.ffi3_small_step_spec.specs.Remainder.{Remainder}
use Rattle.ffi3_small_step_spec.specs.SoFar.{Base, text_after, open_at, HasComeTo}
use Rattle.ffi3_small_step_spec.specs.Path.{Position}
use Rattle.ffi3_small_step_spec.specs.TracingOf.{IsTracingOf}
use Rattle.ffi3_small_step_spec.proofs.TracedCalls.{enter_lines_are, leave_lines_are}
use Rattle.ffi3_machine_spec.specs.Recorded.{event_at}
use Rattle.ffi3_semantics_spec.specs.SeenActivation.{arguments_in}
use Rattle.ffi3_body.proofs.Fitting.{arguments_count}
use Rattle.ffi3_io_spec.specs.Sink.{Adds, AddsSome, Rose, SinkState}
use Rattle.ffi3_io_spec.specs.Written.{TookText, IsCause}
use Rattle.ffi3_io_spec.specs.declared.IoError.{IoError}
use Rattle.ffi3_io_spec.specs.declared.IoError.TheVariants as cut
use Rattle.ffi3_io.proofs.Adding.{Adds-then, Adds-along, Adds-none}
use Rattle.ffi3_text.specs.TraceLines.{enter_text_of, leave_text_of, keep_text_of}
use Rattle.ffi3_run_state.specs.TraceLines.{last_event, entry_lines, return_lines}
use Rattle.ffi3_run_state.specs.declared.configuration.Turn.{Turn}
use Rattle.ffi3_run_state.specs.Going.{StoppedBy}
use Rattle.ffi3_run_state.specs.Turned.{is_in_line, turn_of}
use Rattle.ffi3_io_spec.specs.Written.{LineFailed, LineInterrupted, WroteLine}

-- the event that was just recorded
pub last_is : (events : List Event) (e : Event) → last_event (events ++ e ∷ []) ≡ e
last_is events e =
    let at : length (events ++ e ∷ []) - 1 ≡ length events = omega (arith, length-append events (e ∷ [])) in
    ap (event_at (events ++ e ∷ [])) at ∙ get_or-append_seam events e [] _

-- ---- the arguments in a block

-- one argument more
pub one_argument : (ts : List Tree) (block : List ℕ) (args args' : List ValueTree) (i : ℕ) (v : ValueTree) → i < length ts → args ≡ take i (arguments_in ts block) → v ≡ slice_index_or (arguments_in ts block) i void_value → args' ≡ args ++ v ∷ [] → args' ≡ take (i + 1) (arguments_in ts block)
one_argument ts block args args' i v below so_far is pushed =
    let all = arguments_in ts block in
    let within : i < length all = omega (arith, below, arguments_count ts block) in
    pushed ∙ ap (λ (l : List ValueTree). l ++ v ∷ []) so_far ∙ ap (λ (w : ValueTree). take i all ++ w ∷ []) is ∙ sym (take_more all i void_value within)

-- and all
pub all_arguments : (ts : List Tree) (block : List ℕ) (args : List ValueTree) (i : ℕ) → length ts ≤ i → args ≡ take i (arguments_in ts block) → args ≡ arguments_in ts block
all_arguments ts block args i past so_far =
    so_far ∙ take_all i (arguments_in ts block) (omega (arith, past, arguments_count ts block))

-- ---- two lines, one after the other

-- a write fails in the first line
pub failed_first : (a b : SinkState) (x y : List ℕ) → AddsSome a.taken x b.taken → Rose a.faults b.faults → a.faults ≤ b.faults → LineFailed (x ++ y) a b
failed_first a b x y part rose never_falls =
    let short : part.0 < length (x ++ y) = omega (arith, part.1, length-append x y) in
    let same : take part.0 x ≡ take part.0 (x ++ y) = sym (take-append-le part.0 x y (omega (arith, part.1))) in
    record { part = (part.0, short, Adds-along a.taken b.taken (take part.0 x) (take part.0 (x ++ y)) same part.2); rose = rose; never_falls = never_falls }

-- or in the second
pub failed_then : (a b c : SinkState) (x y : List ℕ) → Adds a.taken x b.taken → b.faults ≡ a.faults → AddsSome b.taken y c.taken → Rose b.faults c.faults → b.faults ≤ c.faults → LineFailed (x ++ y) a c
failed_then a b c x y added same part rose never_falls =
    let short : length x + part.0 < length (x ++ y) = omega (arith, part.1, length-append x y) in
    let both : x ++ take part.0 y ≡ take (length x + part.0) (x ++ y) = sym (take-append-add x y part.0) in
    record {
      part = (length x + part.0, short, Adds-along a.taken c.taken (x ++ take part.0 y) (take (length x + part.0) (x ++ y)) both (Adds-then a.taken b.taken c.taken x (take part.0 y) added part.2));
      rose = subst (λ (n : ℕ). Rose n c.faults) same rose;
      never_falls = subst (λ (n : ℕ). n ≤ c.faults) same never_falls;
    }

-- both are written
pub took_both : (a b c : SinkState) (x y : List ℕ) → Adds a.taken x b.taken → b.faults ≡ a.faults → Adds b.taken y c.taken → c.faults ≡ b.faults → TookText (x ++ y) a c
took_both a b c x y first same second same' =
    record { added = Adds-then a.taken b.taken c.taken x y first second; count = same' ∙ same }

-- the lines that a traced run writes
pub wrote_entry : (trace : Bool) → trace ≡ true → (std : Standard) (s : Signature) (e : Event) (args : List ValueTree) (line : List ℕ) (o o' : SinkState) (r : Result ⊤ IoError) → line ≡ enter_text_of s e args → WroteLine (line ++ keep_text_of std e) o o' r → WroteLine (entry_lines trace std s e args) o o' r
wrote_entry true on std s e args line o o' r is h =
    subst (λ (l : List ℕ). WroteLine (l ++ keep_text_of std e) o o' r) is h
wrote_entry false on std s e args line o o' r is h = cc

pub wrote_return : (trace : Bool) → trace ≡ true → (std : Standard) (s : Signature) (e : Event) (v : ValueTree) (line : List ℕ) (o o' : SinkState) (r : Result ⊤ IoError) → line ≡ leave_text_of s e v → WroteLine (line ++ keep_text_of std e) o o' r → WroteLine (return_lines trace std s e v) o o' r
wrote_return true on std s e v line o o' r is h =
    subst (λ (l : List ℕ). WroteLine (l ++ keep_text_of std e) o o' r) is h
wrote_return false on std s e v line o o' r is h = cc

-- ---- a line that was interrupted

-- how much of it is written, and why no more
pub cut_part : (why : IoError) (line : List ℕ) (a b : SinkState) → LineInterrupted line a b why → (part : ℕ) × IsPart (is_in_line why) part (length line) × Adds a.taken (take part line) b.taken × IsCause why a.faults b.faults
cut_part cut.NoMemory line a b same =
    let P = λ (o : SinkState). (part : ℕ) × IsPart false part (length line) × Adds a.taken (take part line) o.taken × (o.faults ≡ a.faults) in
    subst P (sym same) (0, refl, Adds-none a.taken, refl)
cut_part cut.Failed line a b failed =
    (failed.part.0, failed.part.1, failed.part.2, (failed.rose, failed.never_falls))

-- the line of a stop
pub stopped_off : (ss : List Signature) (stop : Stop) (a b : SinkState) (why : IoError) (t : Turn) → t ≡ turn_of why → LineInterrupted (a_line (stop_text ss stop)) a b why → StoppedBy ss stop a b t
stopped_off ss stop a b cut.NoMemory t is h =
    subst (λ (u : Turn). StoppedBy ss stop a b u) (sym is) h
stopped_off ss stop a b cut.Failed t is h =
    subst (λ (u : Turn). StoppedBy ss stop a b u) (sym is) h

-- the same by a count that is equal
pub cause_from : (why : IoError) (a b c : ℕ) → b ≡ a → IsCause why b c → IsCause why a c
cause_from why a b c is h = subst (λ (n : ℕ). IsCause why n c) is h

-- ---- the lines of an event are those of the text

module _ (p : Program) (b : Base) (all : Remainder) (own : List TraceItem) (events : List Event) (x : Position) (h : HasComeTo p b all own events x) (tracing : Tracing) where
  -- THE LINES OF AN ENTRY, where the run is traced and where it is not
  pub entry_lines_are : (trace : Bool) → IsTracingOf p b trace tracing → (ptr : ℕ) (s : Signature) (args : List ValueTree) (e : Event) → IsEntry b.standard b.top b.held (open_at p b x.call_stack.suspended events) (b.count + length events) ptr s args e → entry_lines trace b.standard s e args ≡ enter_lines tracing (text_after p b own) ptr s args
  entry_lines_are false is ptr s args e entry =
      sym (ap (λ (t : Tracing). enter_lines t (text_after p b own) ptr s args) is)
  entry_lines_are true is ptr s args e entry =
      let line : ℕ → List ℕ = λ k. a_line (codes "enter " ++ address_text k ++ codes " sp " ++ address_text e.image.sp ++ codes " (" ++ join_with_byte 44 (value_texts_of (trees_of s.arguments) (values_of args)) ++ codes ")") ++ keep_text_of b.standard e in
      ap line entry.closure
      ∙ sym (enter_lines_are p b is.0 is.2 all own events x h ptr s args e entry)
      ∙ sym (ap (λ (t : Tracing). enter_lines t (text_after p b own) ptr s args) is.1)

  -- THE LINES OF A RETURN
  pub return_lines_are : (trace : Bool) → IsTracingOf p b trace tracing → (s : Signature) (entry : Event) (outer : List Entered) (v : ValueTree) (e : Event) → open_at p b x.call_stack.suspended events ≡ record { signature = s; event = entry } ∷ outer → IsReturn b.standard (record { signature = s; event = entry }) v e → return_lines trace b.standard s e v ≡ leave_lines tracing (text_after p b own).calls v
  return_lines_are false is s entry outer v e opened back =
      sym (ap (λ (t : Tracing). leave_lines t (text_after p b own).calls v) is)
  return_lines_are true is s entry outer v e opened back =
      sym (leave_lines_are p b is.0 is.2 all own events x h s entry outer v e opened back)
      ∙ sym (ap (λ (t : Tracing). leave_lines t (text_after p b own).calls v) is.1)
