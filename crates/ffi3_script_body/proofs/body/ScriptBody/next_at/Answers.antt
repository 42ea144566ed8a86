use Rattle.ffi3_script_body.proofs.Agreed.{agrees_more}
use Rattle.ffi3_script_body.proofs.body.ScriptBody.next_at.Goals as goal

pub returns-in_err-m-clause-after : goal.returns-in_err-m-clause-after
returns-in_err-m-clause-after c r =
    agrees_more c.args.self.now c.args.seen.now c.step.new.cursor r c.step.ensures.agrees

pub returns-in-Some-clause-after : goal.returns-in-Some-clause-after
returns-in-Some-clause-after c r =
    agrees_more c.args.self.now c.args.seen.now c.step.new.cursor r c.step.ensures.agrees
