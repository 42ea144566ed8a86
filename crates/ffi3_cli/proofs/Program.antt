-- The program that the code builds is the one that is described.
use Rattle.std.proofs.Common.{◌≡◌, ◌∙◌, ℕ, zero, suc, true, List, [], ◌∷◌, map, codes, refl, ap, ap₂}
use Rattle.std.specs.Borrow.{Bor}
use Rattle.clap.specs.Words.{App, Rule, Text, app_of, shape_of, is_simple, is_simple_and_free, new_app, with_rule}
use Rattle.clap.specs.declared.builder.command.Command.{Command}
use Rattle.clap.specs.declared.builder.value_parser.ValueParser.{ValueParser}
use Rattle.clap.specs.declared.builder.value_parser.ValueParser.TheVariants as vp
use Rattle.clap.proofs.OnLiterals.{clap_on_literals}
use Rattle.ffi3_cli_spec.specs.WordCommands.{Addresses, lent, one_of_words, target_rule, trace_rule, program}
use Rattle.ffi3_cli.specs.CommandParts.{IsTargetRule, HasTarget, IsTraceable}

-- where texts lie
abbrev addresses : List (Bor Text) → Addresses
addresses [] n = (0, 0)
addresses (x ∷ xs) zero = x.ref_ptr
addresses (x ∷ xs) (suc n) = addresses xs n

is_lent : (xs : List (Bor Text)) → xs ≡ lent (addresses xs) (map (λ x. x.now) xs)
is_lent [] = refl
is_lent (x ∷ xs) = ap (λ (ys : List (Bor Text)). x ∷ ys) (is_lent xs)

abbrev all_addresses : ℕ × ℕ → List (Bor Text) → Addresses
all_addresses list xs zero = list
all_addresses list xs (suc n) = addresses xs n

-- the rule that was built is one of these words
target_words : (ts : List Text) (xs : List (Bor Text)) (rule : Rule) → (is : IsTargetRule xs rule) → map (λ x. x.now) xs ≡ ts → rule ≡ target_rule (one_of_words (all_addresses is.list xs) ts)
target_words ts xs rule is words =
    let same_words : xs ≡ lent (addresses xs) ts = is_lent xs ∙ ap (lent (addresses xs)) words in
    let same_parser : ◌≡◌ {A = ValueParser} (vp.Names (record { ref_ptr = is.list; now = xs })) (one_of_words (all_addresses is.list xs) ts) =
    ap (λ (ys : List (Bor Text)). vp.Names (record { ref_ptr = is.list; now = ys })) same_words in
    is.same ∙ ap target_rule same_parser

pub has_target : (name : Text) (ts : List Text) (xs : List (Bor Text)) (c : Command) (before : App) (rule : Rule) → before ≡ new_app name → IsTargetRule xs rule → map (λ x. x.now) xs ≡ ts → app_of c ≡ with_rule before rule → HasTarget name ts (shape_of c)
has_target name ts xs c before rule new is words added =
    let same_app : app_of c ≡ with_rule (new_app name) (target_rule (one_of_words (all_addresses is.list xs) ts)) =
    added ∙ ap₂ with_rule new (target_words ts xs rule is words) in
    record { at = all_addresses is.list xs; same = ap (λ (a : App). a.top) same_app }

pub is_traceable : (name : Text) (ts : List Text) (xs : List (Bor Text)) (b c : Command) (before : App) (rule trace : Rule) → before ≡ new_app name → IsTargetRule xs rule → map (λ x. x.now) xs ≡ ts → app_of b ≡ with_rule before rule → trace ≡ trace_rule → app_of c ≡ with_rule (app_of b) trace → IsTraceable name ts (shape_of c)
is_traceable name ts xs b c before rule trace new is words added flag then_added =
    let target_added : app_of b ≡ with_rule (new_app name) (target_rule (one_of_words (all_addresses is.list xs) ts)) =
    added ∙ ap₂ with_rule new (target_words ts xs rule is words) in
    record {
      at = all_addresses is.list xs;
      same = ap (λ (a : App). a.top) (then_added ∙ ap₂ with_rule target_added flag);
    }

pub is_free : (at at' : Addresses) → is_simple_and_free (program at at') ≡ true
unfolding clap_on_literals
is_free at at' = refl

pub is_plain : (at at' : Addresses) → is_simple (program at at') ≡ true
unfolding clap_on_literals
is_plain at at' = refl
