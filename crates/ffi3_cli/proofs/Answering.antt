-- What the reading of words answers, from what clap answers.
use Rattle.std.proofs.Common.{◌≡◌, ◌∙◌, List, [], Some, None, inl, inr, refl, sym, ap, subst, true}
use Rattle.std.specs.Prelude.{IfErr, IfOk, Err, Ok, Result}
use Rattle.clap.specs.Words.{App, HasKind, IsAmong, Text, fault_of, kind_of, is_simple, is_simple_and_free, subcommand_of, subcommand_rows_of}
use Rattle.clap.specs.Simple.{HasMatchesOf}
use Rattle.clap.specs.declared.error.Error.{Error}
use Rattle.clap.specs.declared.parser.matches.ArgMatches.{ArgMatches}
use Rattle.ffi3_cli_spec.specs.declared.words.Request.{Request}
use Rattle.ffi3_cli.specs.declared.words.WordsFault.{WordsFault}
use Rattle.ffi3_cli.specs.declared.words.WordsFault.TheVariants.{Refused, NoMemory}
use Rattle.ffi3_cli_spec.specs.WordCommands.{LacksNumbers, asked, program}
use Rattle.ffi3_cli.specs.CommandParts.{IsProgram}
use Rattle.ffi3_cli_spec.specs.Words.{IsRefusedForNumbers, Takes}
use Rattle.ffi3_cli.specs.WordAnswers.{IsAnswered, IsInRange, IsWordsRefusal, IsToldAs}
use Rattle.ffi3_cli.proofs.Asked.{Decides, something_asked}
use Rattle.ffi3_cli.proofs.Program.{is_free, is_plain}
use Rattle.ffi3_cli.proofs.Anywhere.{same_fault, same_command}
use Rattle.ffi3_cli.proofs.Ranges.{in_range}
use Rattle.ffi3_cli.proofs.Refusals.{one_request, taken_not_refused}
use Rattle.ffi3_cli.proofs.Stated.{stated_is_taken}

none_is_some : {X : Type 0} (x : X) → None ≡ Some x → ⊥
none_is_some x e = cc

-- ---- what clap answers of the program, wherever its texts lie

module _ (a : App) (is : IsProgram a) (words : List Text) where
  free : is_simple_and_free a ≡ true
  free = ap is_simple_and_free is.same ∙ is_free is.placing is.running

  told : fault_of (program is.placing is.running) words ≡ fault_of a words
  told = ap (λ (x : App). fault_of x words) (sym is.same)

  module _ (m : ArgMatches) (passes : is_simple_and_free a ≡ true → fault_of a words ≡ []) (matches : HasMatchesOf a words m) where
    fine : fault_of (program is.placing is.running) words ≡ []
    fine = told ∙ passes free

    met : subcommand_rows_of m ≡ subcommand_of (program is.placing is.running) words
    met =
        (matches (ap is_simple is.same ∙ is_plain is.placing is.running)).1 ∙ ap (λ (x : App). subcommand_of x words) is.same

    pub asks_some : (r : Request) → asked (subcommand_rows_of m) ≡ Some r → Takes words r × IsInRange r
    asks_some r asks = (
      record {
        passes = λ at at'. same_fault at at' is.placing is.running words ∙ fine;
        means = λ at at'. ap asked (same_command at at' is.placing is.running words ∙ sym met) ∙ asks;
      },
      in_range (subcommand_rows_of m) r asks,
    )

    lacking : asked (subcommand_rows_of m) ≡ None → Decides (subcommand_of (program is.placing is.running) words) → LacksNumbers (subcommand_of (program is.placing is.running) words)
    lacking none (inl some) =
        absurd (none_is_some some.0 (sym none ∙ (ap asked met ∙ some.1)))
    lacking none (inr lacks) = lacks

    for_numbers : asked (subcommand_rows_of m) ≡ None → IsRefusedForNumbers words
    for_numbers none =
        let here = lacking none (something_asked is.placing is.running words fine) in
        record {
          passes = λ at at'. same_fault at at' is.placing is.running words ∙ fine;
          lacks = λ at at'. subst LacksNumbers (sym (same_command at at' is.placing is.running words)) here;
        }

    pub asks_none : (f : WordsFault) → asked (subcommand_rows_of m) ≡ None → IsAnswered words (Err f)
    asks_none NoMemory none = tt
    asks_none (Refused text) none = inr (for_numbers none)

  pub fails : (e : Error) (f : WordsFault) → (is_simple_and_free a ≡ true → HasKind (fault_of a words) e) → IsToldAs e f → IsAnswered words (Err f)
  fails e NoMemory has tells = tt
  fails e (Refused text) has tells =
      inl (record { fails = λ at at' none. subst (IsAmong (kind_of e)) (sym told ∙ (same_fault is.placing is.running at at' words ∙ none)) (named (has free)) })
    where
      named : HasKind (fault_of a words) e → IsAmong (kind_of e) (fault_of a words)
      named (inl memory) = absurd (tells memory)
      named (inr among) = among

-- ---- the clauses of a reading, from its answer

pub record Clauses (words : List Text) (res : Result Request WordsFault) : Type 0 where
  pub takes : IfOk res (Takes words)
  pub in_range : IfOk res IsInRange
  pub refused : IfErr res (IsWordsRefusal words)
  pub one : (r : Request) → Takes words r → IfOk res (λ q. q ≡ r) × IfErr res (λ e. e ≡ NoMemory)

pub clauses : (words : List Text) (res : Result Request WordsFault) → IsAnswered words res → Clauses words res
clauses words (Ok q) is = record {
  takes = is.0;
  in_range = is.1;
  refused = tt;
  one = λ r takes. (one_request words q r is.0 takes, tt);
}
clauses words (Err (Refused text)) is = record {
  takes = tt;
  in_range = tt;
  refused = (is, λ r stated. taken_not_refused words r is (stated_is_taken words r stated));
  one = λ r takes. absurd (taken_not_refused words r is takes);
}
clauses words (Err NoMemory) is =
    record { takes = tt; in_range = tt; refused = tt; one = λ r takes. (tt, refl) }
