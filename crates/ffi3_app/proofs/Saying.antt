-- What the top call says, from what its parts say.
use Rattle.std.proofs.Common.{◌≡◌, ℕ, ◌<◌, List, inl, inr, refl, sym, subst, ap, ◌∙◌, arith, true≢false}
use Rattle.std.specs.Prelude.{◌⊎◌, Result, Ok, Err, Some, true}
use Rattle.ffi3_io_spec.specs.Sink.{Rose, SinkState}
use Rattle.ffi3_io_spec.specs.Source.{SourceState}
use Rattle.ffi3_script_spec.specs.Natives.{NamedNative}
use Rattle.ffi3_machine_spec.specs.State.{State}
use Rattle.ffi3_semantics_spec.specs.Meaning.{End, returned, stopped}
use Rattle.ffi3_cli_spec.specs.declared.words.InputCommand.{InputCommand}
use Rattle.ffi3_cli_spec.specs.declared.words.Request.{Request}
use Rattle.ffi3_cli_spec.specs.declared.words.Request.TheVariants.{OnInput, Bench}
use Rattle.ffi3_cli_spec.specs.Words.{Takes, IsRefused, IsStated}
use Rattle.ffi3_cli.specs.declared.words.WordsFault.TheVariants as words_fault
use Rattle.ffi3_cli.proofs.Refusals.{one_request, taken_not_refused}
use Rattle.ffi3_cli.proofs.Stated.{stated_is_taken}
use Rattle.ffi3_app.specs.declared.unfinished.Unfinished.{Unfinished}
use Rattle.ffi3_app.specs.declared.unfinished.Unfinished.TheVariants.{Refused, NoMemory, WriteFault}
use Rattle.ffi3_app_spec.specs.Outcome.{Outcome, refuses, tells, runs, benches, IsOutcome, IsOutcomeOn, reads_input, status_of, outcome_status, IsDone}
use Rattle.ffi3_app_spec.specs.FaultLines.{ReportsFault, whole, cut, no_memory_line, read_fault_line}
use Rattle.ffi3_app_spec.specs.Top.{ComesTo, LeftInput, refused, bad_words, read_failed, write_failed, no_memory_for_words, no_memory_to_begin, no_memory_to_end, Says, done, failed, IsReadInPart}
use Rattle.ffi3_app.specs.Work.{IsEndTold, Works}
use Rattle.ffi3_app.proofs.Outcomes.{laws}
use Rattle.ffi3_app.proofs.Coming.{IsReady}

-- ---- words

-- words are taken as what they state
pub same_request : (words : List (List ℕ)) (q r : Request) → Takes words q → IsStated words r → q ≡ r
same_request words q r takes stated =
    one_request words q r takes (stated_is_taken words r stated)

-- stated words are not refused
pub not_refused : (words : List (List ℕ)) (r : Request) → IsRefused words → IsStated words r → ⊥
not_refused words r refuses_words stated =
    taken_not_refused words r refuses_words (stated_is_taken words r stated)

-- ---- work that is done

module _ (output output' : SinkState) (machine machine' : State) where
  done_status : (o : Outcome) (status : ℕ) → IsDone o output output' machine machine' status → status ≡ outcome_status o
  done_status (refuses line) status is = absurd is
  done_status (tells text) status is = is.2
  done_status (runs trace std program) status is = is.1
  done_status (benches seed calls) status is = is.1

  done_count : (o : Outcome) (status : ℕ) → IsDone o output output' machine machine' status → output'.faults ≡ output.faults
  done_count (refuses line) status is = absurd is
  done_count (tells text) status is = is.0.count
  done_count (runs trace std program) status is = is.0.written.count
  done_count (benches seed calls) status is = is.0.0.count

end_not_two : (e : End) → status_of e ≡ 2 → ⊥
end_not_two (returned v) is = cc
end_not_two (stopped stop) is = cc

outcome_not_two : (o : Outcome) → outcome_status o ≡ 2 → ⊥
outcome_not_two (runs trace std program) is = end_not_two _ is
outcome_not_two _ is = cc

-- ---- before the work

module _ (words : List (List ℕ)) (natives : List NamedNative) (input input' : SourceState) (output told told' : SinkState) (machine : State) (command : InputCommand) (takes : Takes words (OnInput command)) (part : IsReadInPart input input') where
  -- there was no memory for the bytes
  pub says_not_begun : (answer : ℕ) → input'.faults ≡ input.faults → ReportsFault no_memory_line 5 told told' answer → Says words natives input input' output output told told' machine machine answer
  says_not_begun answer count tells_line =
      failed (no_memory_to_begin takes part count (λ unread. absurd (true≢false unread)) refl refl) tells_line

  -- a read failed
  pub says_not_read : (answer : ℕ) → Rose input.faults input'.faults → ReportsFault read_fault_line 3 told told' answer → Says words natives input input' output output told told' machine machine answer
  says_not_read answer rose tells_line = failed (read_failed takes rose part refl refl) tells_line

-- ---- from what work came to

module _ (words : List (List ℕ)) (natives : List NamedNative) (input input' : SourceState) (output output' told told' : SinkState) (machine machine' : State) (q : Request) (takes : Takes words q) (bytes : List ℕ) (ready : IsReady q natives input input' bytes) where
  abbrev Said : ℕ → Type 0
  Said answer = Says words natives input input' output output' told told' machine machine' answer

  pub says_end : (end : Result ℕ Unfinished) (answer : ℕ) → Works (IsOutcome q natives bytes) output output' machine machine' end → IsEndTold end told told' answer → Said answer
  says_end (Ok status) answer (o, is, did) (same_status, same) =
      subst Said (sym same_status) (done takes o (ready.comes o is) (ready.left o is) did same)
  says_end (Err (Refused line)) answer (is, same_output, same_machine) tells_line =
      failed (refused takes (ready.comes (refuses line) is) (ready.left (refuses line) is) same_output same_machine) tells_line
  says_end (Err NoMemory) answer (inl (same_output, same_machine), count) tells_line =
      failed (no_memory_to_begin takes ready.part ready.count ready.untouched same_output same_machine) tells_line
  says_end (Err NoMemory) answer (inr (o, is, did), count) tells_line =
      failed (no_memory_to_end takes o (ready.comes o is) (ready.left o is) did count) tells_line
  says_end (Err WriteFault) answer ((o, is, did), rose) tells_line =
      failed (write_failed takes o (ready.comes o is) (ready.left o is) did rose) tells_line

-- ---- what follows from what a status says

module _ (words : List (List ℕ)) (natives : List NamedNative) (input input' : SourceState) (output output' told told' : SinkState) (machine machine' : State) where
  -- what a request comes to is one, of bytes that are known where it reads them
  one_comes : (r : Request) (o p : Outcome) (bytes : List ℕ) → ComesTo r natives input p → (reads_input r ≡ true → input.left ≡ Some bytes) → IsOutcome r natives bytes o → p ≡ o
  one_comes (OnInput command) o p bytes (bytes', had, is') known is =
      let P = λ (b : List ℕ). IsOutcomeOn command natives b p in
      (laws natives command).one bytes p o (subst P (had bytes (known refl)) is') is
  one_comes (Bench seed calls) o p bytes (bytes', had, is') known is = is' ∙ sym is

  -- what the stated words surely come to is what was done
  same_outcome : (q r : Request) (o p : Outcome) (bytes : List ℕ) → Takes words q → IsStated words r → ComesTo q natives input p → (reads_input r ≡ true → input.left ≡ Some bytes) → IsOutcome r natives bytes o → p ≡ o
  same_outcome q r o p bytes takes stated comes known is =
      let P = λ (x : Request). ComesTo x natives input p in
      one_comes r o p bytes (subst P (same_request words q r takes stated) comes) known is

  pub completes : (status : ℕ) → Says words natives input input' output output' told told' machine machine' status → (r : Request) → IsStated words r → (bytes : List ℕ) → (reads_input r ≡ true → input.left ≡ Some bytes) → (o : Outcome) → IsOutcome r natives bytes o → (reads_input r ≡ true → Rose input.faults input'.faults → ⊥) → (Rose output.faults output'.faults → ⊥) → (Rose told.faults told'.faults → ⊥) → (status ≡ outcome_status o) ⊎ (status ≡ 5)
  completes status (done {request = q} takes p comes left did same) r stated bytes known o is no_read no_write no_tell =
      inl (done_status output output' machine machine' p status did ∙ ap (λ (x : Outcome). outcome_status x) (same_outcome q r o p bytes takes stated comes known is))
  completes _ (failed wrong (cut part rose)) r stated bytes known o is no_read no_write no_tell = absurd (no_tell rose)
  completes _ (failed (refused {request = q} takes {line = line} comes left same_output same_machine) (whole took)) r stated bytes known o is no_read no_write no_tell =
      inl (ap (λ (x : Outcome). outcome_status x) (same_outcome q r o (refuses line) bytes takes stated comes known is))
  completes _ (failed (bad_words refuses_words same_input same_output same_machine) (whole took)) r stated bytes known o is no_read no_write no_tell = absurd (not_refused words r refuses_words stated)
  completes _ (failed (read_failed {command = command} takes rose part same_output same_machine) (whole took)) r stated bytes known o is no_read no_write no_tell =
      absurd (no_read (sym (ap (λ (x : Request). reads_input x) (same_request words (OnInput command) r takes stated))) rose)
  completes _ (failed (write_failed takes p comes left part rose) (whole took)) r stated bytes known o is no_read no_write no_tell = absurd (no_write rose)
  completes _ (failed _ (whole took)) r stated bytes known o is no_read no_write no_tell = inr refl

  -- ---- status 2 comes of words that are refused

  two_is_refused : (status : ℕ) → Says words natives input input' output output' told told' machine machine' status → status ≡ 2 → IsRefused words
  two_is_refused status (done takes o comes left did same) two =
      absurd (outcome_not_two o (sym (done_status output output' machine machine' o status did) ∙ two))
  two_is_refused _ (failed (bad_words refuses_words same_input same_output same_machine) (whole took)) two = refuses_words
  two_is_refused _ (failed _ (whole took)) two = cc
  two_is_refused _ (failed wrong (cut part rose)) two = cc

  pub two_asks_nothing : (status : ℕ) → Says words natives input input' output output' told told' machine machine' status → status ≡ 2 → (r : Request) → Takes words r → ⊥
  two_asks_nothing status says two r takes =
      taken_not_refused words r (two_is_refused status says two) takes

  pub knows_words : (status : ℕ) → Says words natives input input' output output' told told' machine machine' status → (r : Request) → IsStated words r → status ≡ 2 → ⊥
  knows_words status says r stated two =
      not_refused words r (two_is_refused status says two) stated

  -- ---- counts that rose show in the status

  left_count : (q : Request) (o : Outcome) → LeftInput q o input input' → input'.faults ≡ input.faults
  left_count (Bench seed calls) o same = ap (λ (t : SourceState). t.faults) same
  left_count (OnInput command) (refuses line) left = left.1
  left_count (OnInput command) _ left = left.2

  unmoved : {P : Type 0} (a b : ℕ) → b ≡ a → a < b → P
  unmoved a b same higher = absurd (omega (arith, same, higher))

  pub read_count : (status : ℕ) → Says words natives input input' output output' told told' machine machine' status → input.faults < input'.faults → (status ≡ 3) ⊎ (status ≡ 4)
  read_count _ (done {request = q} takes o comes left did same) higher = unmoved _ _ (left_count q o left) higher
  read_count _ (failed wrong (cut part rose)) higher = inr refl
  read_count _ (failed (refused {request = q} takes {line = line} comes left same_output same_machine) (whole took)) higher = unmoved _ _ (left_count q (refuses line) left) higher
  read_count _ (failed (bad_words refuses_words same_input same_output same_machine) (whole took)) higher = unmoved _ _ (ap (λ t. t.faults) same_input) higher
  read_count _ (failed (read_failed takes rose part same_output same_machine) (whole took)) higher = inl refl
  read_count _ (failed (write_failed takes o comes left part rose) (whole took)) higher = inr refl
  read_count _ (failed (no_memory_for_words same_input same_output same_machine) (whole took)) higher = unmoved _ _ (ap (λ t. t.faults) same_input) higher
  read_count _ (failed (no_memory_to_begin takes part count untouched same_output same_machine) (whole took)) higher = unmoved _ _ count higher
  read_count _ (failed (no_memory_to_end {request = q} takes o comes left part count) (whole took)) higher = unmoved _ _ (left_count q o left) higher

  -- what wrote nothing left the output as it was
  wrote_none : {P : Type 0} → output' ≡ output → output.faults < output'.faults → P
  wrote_none same higher = unmoved _ _ (ap (λ (t : SinkState). t.faults) same) higher

  pub write_count : (status : ℕ) → Says words natives input input' output output' told told' machine machine' status → output.faults < output'.faults → status ≡ 4
  write_count status (done takes o comes left did same) higher =
      unmoved _ _ (done_count output output' machine machine' o status did) higher
  write_count _ (failed wrong (cut part rose)) higher = refl
  write_count _ (failed (refused takes comes left same_output same_machine) (whole took)) higher = wrote_none same_output higher
  write_count _ (failed (bad_words refuses_words same_input same_output same_machine) (whole took)) higher = wrote_none same_output higher
  write_count _ (failed (read_failed takes rose part same_output same_machine) (whole took)) higher = wrote_none same_output higher
  write_count _ (failed (write_failed takes o comes left part rose) (whole took)) higher = refl
  write_count _ (failed (no_memory_for_words same_input same_output same_machine) (whole took)) higher = wrote_none same_output higher
  write_count _ (failed (no_memory_to_begin takes part count untouched same_output same_machine) (whole took)) higher = wrote_none same_output higher
  write_count _ (failed (no_memory_to_end takes o comes left part count) (whole took)) higher = unmoved _ _ count higher

  pub tell_count : (status : ℕ) → Says words natives input input' output output' told told' machine machine' status → told.faults < told'.faults → status ≡ 4
  tell_count _ (done takes o comes left did same) higher = unmoved _ _ (ap (λ t. t.faults) same) higher
  tell_count _ (failed wrong (cut part rose)) higher = refl
  tell_count _ (failed wrong (whole line)) higher = unmoved _ _ line.count higher
