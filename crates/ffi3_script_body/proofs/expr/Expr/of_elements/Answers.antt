use Rattle.ffi3_script_body.proofs.Rows.{composed_is}
use Rattle.ffi3_script_body.proofs.expr.Expr.of_elements.Goals as goal

pub returns : goal.returns
returns c = composed_is c.args.values
