-- What a mark does, and that every other token is the end: by whether it is that mark.
use Rattle.std.proofs.Common.{◌≡◌, ℕ, suc, Bool, true, false, List, sym, refl, ◌∙◌}
use Rattle.ffi3_type_spec.specs.Tree.{Tree}
use Rattle.ffi3_cdecl_spec.specs.Tokens.{Token, close_round, close_square, semicolon}
use Rattle.ffi3_cdecl_spec.specs.Grammar.{Kind, Declaration}
use Rattle.ffi3_cdecl_spec.specs.Machine.{Head, Settled, State, parameter_itself, itself_or_bracket, inner_nothing, nothing_or_bracket, ended, function_ends, settled, fewer, bracket_or_end, step_filled, step_list_dots, dead}
use Rattle.ffi3_cdecl.specs.TokenOf.{is_close_round, is_close_square, is_semicolon}

apart : true ≡ false → ⊥
apart e = cc

pub bracket_goes : (n : ℕ) (u : Settled) (x : Token) (b : Bool) (s : State) → b ≡ is_close_round x → b ≡ true → s ≡ settled (fewer u n) → s ≡ bracket_or_end (suc n) u x
bracket_goes n u close_round b s e is same = same
bracket_goes n u x b s e is same = absurd (apart (sym is ∙ e))

pub bracket_dies : (n : ℕ) (u : Settled) (x : Token) (b : Bool) → b ≡ is_close_round x → b ≡ false → dead ≡ bracket_or_end (suc n) u x
bracket_dies n u close_round b e is = absurd (apart (sym e ∙ is))
bracket_dies n u x b e is = refl

pub itself_goes : (k : Kind) (n : ℕ) (head : Head) (ts : List Tree) (x : Token) (b : Bool) → b ≡ is_close_round x → b ≡ true → parameter_itself k n head ts ≡ itself_or_bracket k (suc n) head ts x
itself_goes k n head ts close_round b e is = refl
itself_goes k n head ts x b e is = absurd (apart (sym is ∙ e))

pub itself_dies : (k : Kind) (n : ℕ) (head : Head) (ts : List Tree) (x : Token) (b : Bool) → b ≡ is_close_round x → b ≡ false → dead ≡ itself_or_bracket k (suc n) head ts x
itself_dies k n head ts close_round b e is = absurd (apart (sym e ∙ is))
itself_dies k n head ts x b e is = refl

pub nothing_goes : (n : ℕ) (u : Settled) (x : Token) (b : Bool) → b ≡ is_close_round x → b ≡ true → inner_nothing n u ≡ nothing_or_bracket (suc n) u x
nothing_goes n u close_round b e is = refl
nothing_goes n u x b e is = absurd (apart (sym is ∙ e))

pub nothing_dies : (n : ℕ) (u : Settled) (x : Token) (b : Bool) → b ≡ is_close_round x → b ≡ false → dead ≡ nothing_or_bracket (suc n) u x
nothing_dies n u close_round b e is = absurd (apart (sym e ∙ is))
nothing_dies n u x b e is = refl

pub function_goes : (d : Declaration) (x : Token) (b : Bool) → b ≡ is_semicolon x → b ≡ true → ended d ≡ function_ends d x
function_goes d semicolon b e is = refl
function_goes d x b e is = absurd (apart (sym is ∙ e))

pub function_dies : (d : Declaration) (x : Token) (b : Bool) → b ≡ is_semicolon x → b ≡ false → dead ≡ function_ends d x
function_dies d semicolon b e is = absurd (apart (sym e ∙ is))
function_dies d x b e is = refl

pub filled_goes : (u : Settled) (x : Token) (b : Bool) → b ≡ is_close_square x → b ≡ true → settled u ≡ step_filled u x
filled_goes u close_square b e is = refl
filled_goes u x b e is = absurd (apart (sym is ∙ e))

pub filled_dies : (u : Settled) (x : Token) (b : Bool) → b ≡ is_close_square x → b ≡ false → dead ≡ step_filled u x
filled_dies u close_square b e is = absurd (apart (sym e ∙ is))
filled_dies u x b e is = refl

pub dots_go : (u : Settled) (x : Token) (b : Bool) → b ≡ is_close_round x → b ≡ true → settled u ≡ step_list_dots u x
dots_go u close_round b e is = refl
dots_go u x b e is = absurd (apart (sym is ∙ e))

pub dots_die : (u : Settled) (x : Token) (b : Bool) → b ≡ is_close_round x → b ≡ false → dead ≡ step_list_dots u x
dots_die u close_round b e is = absurd (apart (sym e ∙ is))
dots_die u x b e is = refl
