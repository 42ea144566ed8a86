-- From the outcome of the bytes that were read to that of the input.
use Rattle.std.proofs.Common.{◌≡◌, ℕ, ◌≤◌, List, [], length, refl, sym, ap, ◌∙◌, subst, lit≤, true≢false}
use Rattle.std.specs.Prelude.{false, Option, Some, None}
use Rattle.ffi3_io_spec.specs.Source.{GivesFirst, SourceState}
use Rattle.ffi3_script_spec.specs.Natives.{NamedNative}
use Rattle.ffi3_cli_spec.specs.declared.words.InputCommand.{InputCommand}
use Rattle.ffi3_cli_spec.specs.declared.words.Request.{Request}
use Rattle.ffi3_cli_spec.specs.declared.words.Request.TheVariants.{OnInput, Bench}
use Rattle.ffi3_app_spec.specs.Outcome.{Outcome, refuses, IsOutcome, IsOutcomeOn, reads_input}
use Rattle.ffi3_app_spec.specs.Top.{ComesTo, HadBytes, IsRead, IsAtEnd, IsReadInPart, LeftInput}
use Rattle.ffi3_app.proofs.Inputs.{none_dropped}
use Rattle.ffi3_app.proofs.Outcomes.{IsAccepted, laws}

-- the input is ready for the work: what these bytes come to, it comes to, and it is left so; no read failed
pub record IsReady (q : Request) (natives : List NamedNative) (input input' : SourceState) (bytes : List ℕ) : Type 0 where
  pub comes : (o : Outcome) → IsOutcome q natives bytes o → ComesTo q natives input o
  pub left : (o : Outcome) → IsOutcome q natives bytes o → LeftInput q o input input'
  pub part : IsReadInPart input input'
  pub count : input'.faults ≡ input.faults
  pub untouched : reads_input q ≡ false → input' ≡ input

-- the bytes that an input had: all that it told, or any
had_by : (input : SourceState) (other : List ℕ) (left : Option (List ℕ)) → input.left ≡ left → (bytes : List ℕ) × HadBytes input bytes
had_by input other None known = (other, (λ all known'. cc))
had_by input other (Some all) known = (all, (λ other known'. cc))

-- ---- an input that was read

module _ (input input' : SourceState) (bytes : List ℕ) (gives : GivesFirst 1048577 input.left bytes input'.left) where
  -- all that may be read was read
  all_read : IsRead input input'
  all_read all is = (gives all is).1

  read_in_part : IsReadInPart input input'
  read_in_part =
      let limit : 1048577 ≤ 1048577 = lit≤ tt in (1048577, limit, (λ all is. (gives all is).1))

  at_end : length bytes ≤ 1048576 → IsAtEnd input input'
  at_end short all known =
      let P = λ (b : List ℕ). length b ≤ 1048576 in
      (gives all known).1 ∙ ap (λ (b : List ℕ). Some b) (none_dropped all (subst P (gives all known).0 short))

  module _ (command : InputCommand) (natives : List NamedNative) where
    left_as : (o : Outcome) → input'.faults ≡ input.faults → (IsAccepted o → length bytes ≤ 1048576) → LeftInput (OnInput command) o input input'
    left_as (refuses line) count short = (all_read, count)
    left_as _ count short = (all_read, at_end (short (λ line is. cc)), count)

    comes_by : (o : Outcome) → IsOutcomeOn command natives bytes o → (left : Option (List ℕ)) → input.left ≡ left → ComesTo (OnInput command) natives input o
    comes_by o is None known = (bytes, (λ all known'. cc), is)
    comes_by o is (Some all) known =
        let P = λ (b : List ℕ). IsOutcomeOn command natives b o in
        (all, (λ other known'. cc), (laws natives command).of_all all o (subst P (gives all known).0 is))

    ready_read : input'.faults ≡ input.faults → IsReady (OnInput command) natives input input' bytes
    ready_read count = record {
      comes = λ o is. comes_by o is input.left refl;
      left = λ o is. left_as o count ((laws natives command).short bytes o is);
      part = read_in_part;
      count = count;
      untouched = λ unread. absurd (true≢false unread);
    }

-- with the bytes as they were lent
pub ready_on_input : (command : InputCommand) (natives : List NamedNative) (input input' : SourceState) (bytes lent : List ℕ) → lent ≡ bytes → GivesFirst 1048577 input.left bytes input'.left → input'.faults ≡ input.faults → IsReady (OnInput command) natives input input' lent
ready_on_input command natives input input' bytes lent same gives count =
    let P = λ (b : List ℕ). IsReady (OnInput command) natives input input' b in
    subst P (sym same) (ready_read input input' bytes gives command natives count)

-- ---- an input that is not read

pub ready_for_bench : (seed calls : ℕ) (natives : List NamedNative) (input : SourceState) → IsReady (Bench seed calls) natives input input []
ready_for_bench seed calls natives input =
    let had = had_by input [] input.left refl in
    record {
      comes = λ o is. (had.0, had.1, is);
      left = λ o is. refl;
      part = (0, lit≤ tt, λ all known. known);
      count = refl;
      untouched = λ unread. refl;
    }
