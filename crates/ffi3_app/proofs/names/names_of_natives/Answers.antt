use Rattle.std.proofs.Common.{rules}
use Rattle.ffi3_script_spec.specs.Handed.{handed}
use Rattle.ffi3_app.proofs.Naming.{all_names, mapped_below, one_name_more}
use Rattle.ffi3_app.proofs.names.names_of_natives.Goals as goal

pub loop-i-preserved : goal.loop-i-preserved
loop-i-preserved g c =
    one_name_more (handed _ _ _ c.args.natives.now.items) c.loop-i.i c.loop-i.names c.push.new.self c.name_at.result.now _ c.loop-i.invariant c.name_at.ensures c.in_ok-from_str.ensures.ok c.in_ok-push.ensures.ok

pub returns : goal.returns
returns g c =
    all_names (handed _ _ _ c.args.natives.now.items) c.loop-i.i c.loop-i.names (mapped_below _ c.args.natives.now.items c.loop-i.i (search rules)) c.loop-i.invariant
