-- What a prototype calls its parameters: the identifiers of their declarators, empty where one has none. (C11 6.7.6 paragraph 2; 6.7.7 for those that have none)
use Rattle.std.specs.Prelude.{◌≡◌, ℕ, List, [], ◌∷◌, Option}
use Rattle.ffi3_type_spec.specs.Tree.{Tree}
use Rattle.ffi3_cdecl_spec.specs.Tokens.{Dialect, wide, Sign, Token, Placed, tokens, cut_in}
use Rattle.ffi3_cdecl_spec.specs.Grammar.{Shape, Naming, IsDeclarator, a_pointer, a_named, unnamed, in_round, IsParameter}
use Rattle.ffi3_cdecl_spec.specs.Grammar.{without_name, with_name, a_declared_one, IsParameters, last_parameter}
use Rattle.ffi3_cdecl_spec.specs.Grammar.{last_before_dots, before_types, next_parameter, IsParameterList, no_parameters}
use Rattle.ffi3_cdecl_spec.specs.Grammar.{only_void, some_parameters, Function, IsFunction, returns_pointer}
use Rattle.ffi3_cdecl_spec.specs.Grammar.{a_function_here, a_function_inside, Declaration, IsDeclarationIn, declares, declares_by}
use Rattle.ffi3_cdecl_spec.specs.Reading.{tokens_of}

-- the identifier that a declarator declares
abbrev pub declared_name : {r : Dialect} {m : Naming} {d : ℕ} {before after : List Token} {s t : Shape} → IsDeclarator r m d before after s t → List ℕ
declared_name (a_pointer declarator) = declared_name declarator
declared_name (a_named {called = called} suffixes) = called
declared_name (unnamed opens suffixes) = []
declared_name (in_round begins room declarator suffixes) = declared_name declarator

abbrev pub parameter_name : {r : Dialect} {before after : List Token} {t : Tree} → IsParameter r before after t → List ℕ
parameter_name (without_name e is) = []
parameter_name (with_name {called = called} e is) = called
parameter_name (a_declared_one e base declarator is) = declared_name declarator

-- of each parameter, and of each type behind the dots
abbrev pub parameter_names : {r : Dialect} {before after : List Token} {ts : List Tree} {fixed : Option ℕ} → IsParameters r before after ts fixed → List (List ℕ)
parameter_names (last_parameter p) = parameter_name p ∷ []
parameter_names (last_before_dots p) = parameter_name p ∷ []
parameter_names (before_types e p ps) = parameter_name p ∷ parameter_names ps
parameter_names (next_parameter p ps) = parameter_name p ∷ parameter_names ps

abbrev pub list_names : {r : Dialect} {before after : List Token} {ts : List Tree} {fixed : Option ℕ} → IsParameterList r before after ts fixed → List (List ℕ)
list_names no_parameters = []
list_names only_void = []
list_names (some_parameters ps) = parameter_names ps

abbrev pub function_names : {r : Dialect} {f : Function} {d : ℕ} {before after : List Token} {s : Shape} → IsFunction r f d before after s → List (List ℕ)
function_names (returns_pointer function) = function_names function
function_names (a_function_here called is list) = list_names list
function_names (a_function_inside room function suffixes) = function_names function

abbrev pub declaration_names : {r : Dialect} {ts : List Token} {d : Declaration} → IsDeclarationIn r ts d → List (List ℕ)
declaration_names (declares e result list end) = list_names list
declaration_names (declares_by e base function end) = function_names function

-- THE NAMES that a text which declares a function gives its parameters
pub data AreNames (c : Sign) (text : List ℕ) : Declaration → List (List ℕ) → Type 0 where
  are_names : {ps : List Placed} {d : Declaration} → cut_in wide c text ≡ tokens ps
      → (declaration : IsDeclarationIn wide (tokens_of ps) d)
      → AreNames c text d (declaration_names declaration)
