use Rattle.std.proofs.Common.{ap}
use Rattle.ffi3_semantics_spec.specs.Meaning.{main, function}
use Rattle.ffi3_body.specs.MoveOf.{move_of}
use Rattle.ffi3_next_move.specs.Stands.{who_of}
use Rattle.ffi3_next_move.proofs.Asked.{who_same, mapped_few}
use Rattle.ffi3_next_move.proofs.asking.ask.Goals as goal

pub returns-in-InMain-clause-asked : goal.returns-in-InMain-clause-asked
returns-in-InMain-clause-asked g c std =
    who_same _ _ main _ _ _ move_of (ap who_of c.in-InMain.is) (c.ask_main.ensures.asked std _ (mapped_few _ c.args.natives.now.items _ c.requires.beside))

pub returns-in-InFunction-clause-asked : goal.returns-in-InFunction-clause-asked
returns-in-InFunction-clause-asked g c std =
    who_same _ _ (function c.in-InFunction.number) _ _ _ move_of (ap who_of c.in-InFunction.is) (c.ask_function.ensures.asked std _ (mapped_few _ c.args.natives.now.items _ c.requires.beside))

pub returns-in-InNative-clause-asked : goal.returns-in-InNative-clause-asked
returns-in-InNative-clause-asked g c std =
    who_same _ _ (function c.in-InNative.number) _ _ _ move_of (ap who_of c.in-InNative.is) (c.ask_native.ensures std)
