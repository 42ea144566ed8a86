-- The value and move of a script that the Rust ones stand for.
use Rattle.std.specs.Prelude.{List, map, option_map, string_bytes}
use Rattle.ffi3_type_spec.specs.Integer.{scalar_of}
use Rattle.ffi3_types.specs.TreeOf.{tree_of}
use Rattle.ffi3_script_spec.specs.Script as script
use Rattle.ffi3_script_spec.specs.Script.{Expression, Expressions, no_expressions, expression, expressions_of, Typed}
use Rattle.ffi3_script_body.specs.declared.expr.Expr.{Expr, Constant, Composed', Argument, Outcome, User, Element'}
use Rattle.ffi3_script_body.specs.declared.expr.Expr.{TypedAs', Sum', Difference', Cast', Row_of-Expr, end_of-Expr}
use Rattle.ffi3_script_body.specs.declared.expr.Expr.{more_of-Expr}
use Rattle.ffi3_script_body.specs.declared.moves.TypedExpr.{TypedExpr}
use Rattle.ffi3_script_body.specs.declared.moves.Act.{Act}
use Rattle.ffi3_script_body.specs.declared.moves.Act.TheVariants.{Call, Make, Free, Print, Return, ReturnVoid}
use Rattle.ffi3_script_body.specs.declared.moves.ScriptMove.{ScriptMove}

abbrev mutual
  pub expression_of : Expr → Expression
  expression_of (Constant bytes) = script.constant bytes
  expression_of (Composed' shape es) = script.composed (row_of es)
  expression_of (Argument i) = script.argument i
  expression_of (Outcome i) = script.outcome i
  expression_of User = script.user_data
  expression_of (Element' p e i) = script.element (expression_of e) i
  expression_of (TypedAs' ty p e) = script.typed_as (tree_of ty) (expression_of e)
  expression_of (Sum' ty p e q f) =
      script.sum (scalar_of (tree_of ty)) (expression_of e) (expression_of f)
  expression_of (Difference' ty p e q f) =
      script.difference (scalar_of (tree_of ty)) (expression_of e) (expression_of f)
  expression_of (Cast' from to p e) =
      script.cast (scalar_of (tree_of from)) (scalar_of (tree_of to)) (expression_of e)

  -- those of the elements of a struct or an array
  pub row_of : {m : _} → Row_of-Expr m → Expressions
  row_of end_of-Expr = no_expressions
  row_of (more_of-Expr e es) = expression (expression_of e) (row_of es)

-- those of a list
abbrev pub expressions_in : List Expr → Expressions
expressions_in es = expressions_of (map expression_of es)

abbrev pub typed_of : TypedExpr → Typed
typed_of v = record { type = tree_of v.ty; value = expression_of v.value }

abbrev pub act_of : Act → script.Act
act_of (Call ptr sig args) = script.call (expression_of ptr) sig (expressions_in args.items)
act_of (Make func user) = script.make func (expression_of user)
act_of (Free ptr) = script.free (expression_of ptr)
act_of (Print v) = script.print (typed_of v)
act_of (Return e) = script.return (expression_of e)
act_of ReturnVoid = script.return_void

abbrev pub script_move_of : ScriptMove → script.ScriptMove
script_move_of m = record {
  condition = option_map typed_of m.condition;
  act = act_of m.act;
  name = option_map string_bytes m.name;
}

abbrev pub script_moves_of : List ScriptMove → List script.ScriptMove
script_moves_of ms = map script_move_of ms
