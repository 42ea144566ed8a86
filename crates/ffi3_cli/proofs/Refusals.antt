-- Words are taken as one request alone, and words that are refused as none.
use Rattle.std.proofs.Common.{◌≡◌, ◌∙◌, List, Option, Some, None, inl, inr, sym, subst}
use Rattle.clap.specs.Words.{Row, Text, subcommand_of}
use Rattle.ffi3_cli_spec.specs.declared.words.Request.{Request}
use Rattle.ffi3_cli_spec.specs.WordCommands.{Addresses, LacksNumbers, asked, program}
use Rattle.ffi3_cli_spec.specs.Words.{IsRefused, Takes}

none_is_some : {X : Type 0} (x : X) → None ≡ Some x → ⊥
none_is_some x e = cc

some_is : {X : Type 0} (x y : X) → Some x ≡ Some y → x ≡ y
some_is x y e = cc

abbrev nowhere : Addresses
nowhere n = (0, 0)

-- words are taken as one request alone
pub one_request : (words : List Text) (q r : Request) → Takes words q → Takes words r → q ≡ r
one_request words q r takes takes' =
    some_is q r (sym (takes.means nowhere nowhere) ∙ takes'.means nowhere nowhere)

-- `bench` without its numbers asks for nothing
asks_nothing : (met : Option (Text × List Row)) (r : Request) → LacksNumbers met → asked met ≡ Some r → ⊥
asks_nothing None r lacks asks = absurd lacks
asks_nothing (Some p) r lacks asks =
    let P : Text → Type 0 = λ name. asked (Some (name, p.1)) ≡ Some r in
    none_is_some r (sym lacks.1 ∙ subst P lacks.0 asks)

pub taken_not_refused : (words : List Text) (r : Request) → IsRefused words → Takes words r → ⊥
taken_not_refused words r (inl by_clap) takes =
    by_clap.fails nowhere nowhere (takes.passes nowhere nowhere)
taken_not_refused words r (inr for_numbers) takes =
    asks_nothing (subcommand_of (program nowhere nowhere) words) r (for_numbers.lacks nowhere nowhere) (takes.means nowhere nowhere)
