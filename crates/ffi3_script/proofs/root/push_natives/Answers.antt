use Rattle.ffi3_script.proofs.RootParts.{natives-turn}
use Rattle.ffi3_script.proofs.root.push_natives.Goals as goal

pub loop-i-preserved : goal.loop-i-preserved
loop-i-preserved c = natives-turn c.args.names.now c.loop-i.names c.push.new.self c.args.natives.now c.loop-i.i c.get.result.now c.loop-i.invariant c.get.ensures c.in_ok-push.ensures
