-- What a prototype calls its parameters, of an input that is read: one list of names.
use Rattle.std.proofs.Common.{◌≡◌, ◌∙◌, ℕ, List, [], refl, sym, subst}
use Rattle.ffi3_cdecl_spec.specs.Tokens.{signed}
use Rattle.ffi3_cdecl_spec.specs.Grammar.{Declaration}
use Rattle.ffi3_cdecl_spec.specs.Reading.{Outcome, reads}
use Rattle.ffi3_cdecl_spec.specs.Prototype.{read_as}
use Rattle.ffi3_cdecl_spec.proofs.Prototypes.{read_either}
use Rattle.ffi3_cdecl_spec.specs.ReadingFor.{IsReadingEverywhere, placed_everywhere, is_judged}
use Rattle.ffi3_names_spec.specs.Names.{AreNames, are_names, declaration_names}
use Rattle.ffi3_names_spec.specs.Scan.{names_in}
use Rattle.ffi3_names_spec.proofs.Naming.{name_laws}
use Rattle.ffi3_app_spec.specs.Declarations.{Input, a_text, IsReadWidely}
use Rattle.ffi3_app_spec.specs.Outcome.{HasNames}

called_by : (bytes : List ℕ) (d : Declaration) (o : Outcome) → IsReadingEverywhere signed bytes o → o ≡ reads d → AreNames signed bytes d (names_in signed bytes)
called_by bytes d _ (is_judged {d = x} e p f (placed_everywhere right)) same =
    let these : AreNames signed bytes x (declaration_names p) = are_names e p in
    let Q = λ (y : Declaration). AreNames signed bytes y (names_in signed bytes) in
    let declared : x ≡ d = cc in
    subst Q declared (subst (AreNames signed bytes x) (name_laws.one_list signed bytes x (declaration_names p) these) these)
called_by bytes d _ _ same = cc

pub are_called : (bytes : List ℕ) (d : Declaration) → IsReadWidely bytes (a_text (read_as (reads d))) → AreNames signed bytes d (names_in signed bytes)
are_called bytes d (short, utf8, is) =
    called_by bytes d (reads d) (read_either (λ c o. IsReadingEverywhere c bytes o) d is signed) refl

pub some_names : (bytes : List ℕ) (i : Input) → IsReadWidely bytes i → (ns : List (List ℕ)) × HasNames bytes i ns
some_names bytes (a_text (read_as (reads d))) is = (names_in signed bytes, are_called bytes d is)
some_names bytes _ is = ([], refl)

pub names_once : (bytes : List ℕ) (i : Input) (ns ms : List (List ℕ)) → HasNames bytes i ns → HasNames bytes i ms → ns ≡ ms
names_once bytes (a_text (read_as (reads d))) ns ms e f =
    name_laws.one_list signed bytes d ns e ∙ sym (name_laws.one_list signed bytes d ms f)
names_once bytes _ ns ms e f = e ∙ sym f
