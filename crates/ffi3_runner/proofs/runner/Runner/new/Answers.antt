use Rattle.std.proofs.Common.{length}
use Rattle.ffi3_runner.proofs.Preparing.{is_prepared, mapped_length}
use Rattle.ffi3_runner.proofs.runner.Runner.new.Goals as goal

pub returns-clause-prepared : goal.returns-clause-prepared
returns-clause-prepared g c =
    is_prepared g.A.Abi.standard c.args.script.now _ (length c.args.natives.now.items) c.in_ok-prepare_all.field-0 (mapped_length _ c.args.natives.now.items) c.requires.beside c.requires.few_natives c.requires.few_signatures (c.in_ok-prepare_all.ensures g.A.Abi.standard)
