-- A reason that stands behind a comma of members and is not told.
use Rattle.std.proofs.Common.{◌≡◌, List, [], ◌∷◌, ◌++◌, None, refl}
use Rattle.std.specs.Prelude.{codes}
use Rattle.ffi3_type_spec.specs.Tree.{s32}
use Rattle.ffi3_cdecl_spec.specs.Tokens.{signed, Token, type_word, int_word, struct_word, name, open_round, open_curly, star, comma}
use Rattle.ffi3_cdecl_spec.specs.Reasons.{a_type_named, IsByValue}
use Rattle.ffi3_cdecl_spec.specs.Telling.{tell}
use Rattle.ffi3_cdecl_theorem.proofs.Runs.{keeps_viable}

-- int f(struct {
abbrev members : List Token
members =
    int_word ∷ name (codes "f") ∷ open_round ∷ struct_word ∷ open_curly ∷ []

-- FILE *p, q
abbrev behind_file : List Token
behind_file = star ∷ name (codes "p") ∷ comma ∷ []

-- int32_t *p, q in its place
abbrev with_int : List Token
with_int =
    (members ++ type_word s32 ∷ behind_file) ++ name (codes "q") ∷ []

stands_behind_a_comma : IsByValue (members ++ name (codes "FILE") ∷ behind_file) (name (codes "q")) (a_type_named (codes "FILE"))
stands_behind_a_comma =
    record { before = members; behind = behind_file; stands = refl; instead = keeps_viable with_int refl }

is_not_told : (tell signed (codes "int f(struct { FILE *p, q; } x)") 24).reason ≡ None
is_not_told = refl
