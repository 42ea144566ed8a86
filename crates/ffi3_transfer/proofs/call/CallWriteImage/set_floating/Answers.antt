use Rattle.ffi3_transfer.proofs.call.CallWriteImage.set_floating.Goals as goal

pub returns-clause-set : goal.returns-clause-set
returns-clause-set c = c.put_floating.ensures.set c.args.self.now.stack.now
