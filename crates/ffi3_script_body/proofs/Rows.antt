-- The elements of the value of a struct or an array, as a list.
use Rattle.std.proofs.Common.{◌≡◌, ℕ, zero, suc, ◌+◌, ◌<◌, ◌≤◌, true, List, [], ◌∷◌, ◌++◌, Vec, Global, length, map, take, refl, ap, sym, ◌∙◌, subst, arith, get_or}
use Rattle.ffi3_type_spec.specs.Tree.{Tree, trees_of, tree_at}
use Rattle.ffi3_type_spec.specs.Value.{ValueTree, list_of_values}
use Rattle.ffi3_type_spec.specs.Value as values
use Rattle.ffi3_script_spec.specs.Script.{expression}
use Rattle.ffi3_script_spec.specs.Script as script
use Rattle.ffi3_script_spec.specs.Meaning.{Known, value_of, values_of}
use Rattle.ffi3_script_spec.specs.Typed.{Kinds, has_type, have_types}
use Rattle.ffi3_script_spec.proofs.Tests.{and_left, and_right}
use Rattle.ffi3_script_body.specs.ExprOf.{expression_of, row_of, expressions_in}
use Rattle.ffi3_script_body.specs.declared.expr.Expr.{Expr, Composed, Composed', Row_of-Expr, end_of-Expr, more_of-Expr, items-the_row-Expr, items_hidden-the_row-Expr-0}

row_is : (n : _) (row : Row_of-Expr n) → row_of row ≡ expressions_in (items-the_row-Expr n row)
row_is n end_of-Expr = refl
row_is n (more_of-Expr e es) = ap (expression (expression_of e)) (row_is _ es)

abbrev row_of_value : Expr → (n : _) × Row_of-Expr n
row_of_value (Composed' shape row) = (_, row)
row_of_value _ = (_, end_of-Expr)

-- such a value is composed of those in its list
pub composed_is : (es : Vec Expr Global) → expression_of (Composed es) ≡ script.composed (expressions_in es.items)
composed_is es =
    ap script.composed (row_is _ (row_of_value (Composed es)).1 ∙ ap expressions_in (items_hidden-the_row-Expr-0 es))

-- one value for each type
pub as_many : (k : Kinds) (ts : List Tree) (es : List Expr) → have_types k (trees_of ts) (expressions_in es) ≡ true → length es ≡ length ts
as_many k [] [] h = refl
as_many k [] (e ∷ es) h = cc
as_many k (t ∷ ts) [] h = cc
as_many k (t ∷ ts) (e ∷ es) h =
    ap suc (as_many k ts es (and_right (has_type k t (expression_of e)) _ h))

-- and it is of that type
pub typed_at : (k : Kinds) (ts : List Tree) (es : List Expr) (i : ℕ) (e : Expr) → have_types k (trees_of ts) (expressions_in es) ≡ true → i < length ts → e ≡ get_or es i e → has_type k (tree_at ts i) (expression_of e) ≡ true
typed_at k [] es i e h below is = absurd (omega arith)
typed_at k (t ∷ ts) [] i e h below is = cc
typed_at k (t ∷ ts) (x ∷ es) zero e h below is =
    subst (λ y. has_type k t (expression_of y) ≡ true) (sym is) (and_left (has_type k t (expression_of x)) _ h)
typed_at k (t ∷ ts) (x ∷ es) (suc i) e h below is =
    typed_at k ts es i e (and_right (has_type k t (expression_of x)) _ h) (omega arith) is

-- what they are
abbrev pub evaluated : Known → List Expr → List ValueTree
evaluated k es = map (λ e. value_of k (expression_of e)) es

pub evaluated-is : (k : Known) (es : List Expr) → list_of_values (values_of k (expressions_in es)) ≡ evaluated k es
evaluated-is k [] = refl
evaluated-is k (e ∷ es) = ap (λ vs. value_of k (expression_of e) ∷ vs) (evaluated-is k es)

evaluated-suc : (k : Known) (es : List Expr) (i : ℕ) (e : Expr) → i < length es → e ≡ get_or es i e → evaluated k (take (suc i) es) ≡ evaluated k (take i es) ++ value_of k (expression_of e) ∷ []
evaluated-suc k [] i e below is = absurd (omega arith)
evaluated-suc k (x ∷ es) zero e below is =
    ap (λ y. value_of k (expression_of y) ∷ []) (sym is)
evaluated-suc k (x ∷ es) (suc i) e below is =
    ap (λ vs. value_of k (expression_of x) ∷ vs) (evaluated-suc k es i e (omega arith) is)

pub evaluated-next : (k : Known) (es : List Expr) (i : ℕ) (e : Expr) → i < length es → e ≡ get_or es i e → evaluated k (take (i + 1) es) ≡ evaluated k (take i es) ++ value_of k (expression_of e) ∷ []
evaluated-next k es i e below is =
    let next : i + 1 ≡ suc i = omega arith in
    ap (λ j. evaluated k (take j es)) next ∙ evaluated-suc k es i e below is

pub evaluated-count : (k : Known) (es : List Expr) (i : ℕ) → i ≤ length es → length (evaluated k (take i es)) ≡ i
evaluated-count k es zero below = refl
evaluated-count k [] (suc i) below = absurd (omega arith)
evaluated-count k (e ∷ es) (suc i) below = ap suc (evaluated-count k es i (omega arith))

pub evaluated-all : (k : Known) (es : List Expr) (i : ℕ) → length es ≡ i → evaluated k (take i es) ≡ evaluated k es
evaluated-all k [] i n = search
evaluated-all k (e ∷ es) zero n = absurd (omega arith)
evaluated-all k (e ∷ es) (suc i) n =
    ap (λ vs. value_of k (expression_of e) ∷ vs) (evaluated-all k es i (omega arith))

-- the values of a list, and back
pub list_and_back : (vs : List ValueTree) → list_of_values (values.values_of vs) ≡ vs
list_and_back [] = refl
list_and_back (v ∷ vs) = ap (λ ws. v ∷ ws) (list_and_back vs)
