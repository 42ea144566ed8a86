use Rattle.std.proofs.Common.{suc, inr, List, [], ◌∷◌, refl, sym, subst, arith}
use Rattle.ffi3_type_spec.specs.Tree.{Tree}
use Rattle.ffi3_type_spec.specs.Value.{ValueTree, void_value}
use Rattle.ffi3_type_spec.specs.ValueText.{value_text_of}
use Rattle.ffi3_types.specs.TreeOf.{tree_of}
use Rattle.ffi3_values.specs.ValueOf.{value_of}
use Rattle.ffi3_place_spec.specs.Event.{Event}
use Rattle.ffi3_semantics_spec.specs.Lines.{a_line}
use Rattle.ffi3_semantics_spec.specs.Meaning.{Program}
use Rattle.ffi3_semantics_spec.specs.Move.{print}
use Rattle.ffi3_semantics_spec.specs.Trace.{TraceItem, Line}
use Rattle.ffi3_small_step_spec.specs.Remainder.{Remainder}
use Rattle.ffi3_small_step_spec.specs.SoFar.{Base}
use Rattle.ffi3_io_spec.specs.Sink.{SinkState}
use Rattle.ffi3_io_spec.specs.declared.IoError.{IoError}
use Rattle.ffi3_io_spec.specs.declared.IoError.TheVariants as cut
use Rattle.ffi3_io_spec.specs.Written.{LineInterrupted}
use Rattle.ffi3_run_state.specs.Between.{Beginning, RunState, IsAsking, asking, run_state}
use Rattle.ffi3_run_state.specs.Turned.{WasInterruptedAfter}
use Rattle.ffi3_run_state.proofs.Configuring.{goes, goes_off}
use Rattle.ffi3_run_state.proofs.Moving.{cut_between, looks_as_itself, print_on, print_failed}
use Rattle.ffi3_run_state.proofs.configuration.Configuration.print.Goals as goal

-- a print whose line was interrupted
print_cut : (p : Program) (base : Base) (all : Remainder) (first : Beginning) (own : List TraceItem) (events : List Event) (x : RunState) (t : Tree) (v : ValueTree) → IsAsking p base all first own events x (print t v) → (why : IoError) (output : SinkState) → LineInterrupted (a_line (value_text_of t v)) x.output output why → WasInterruptedAfter p base all first own (suc x.moves) why x.closures x.moves x.machine output
print_cut p base all first own events x t v is cut.NoMemory output same =
    let P = λ (o : SinkState). WasInterruptedAfter p base all first own (suc x.moves) cut.NoMemory x.closures x.moves x.machine o in
    subst P (sym same) (cut_between p base all first own events (asking x) (suc x.moves) x.moves x.machine (inr refl) (omega arith, omega arith) (omega arith) (looks_as_itself x.machine) is.between)
print_cut p base all first own events x t v is cut.Failed output failed =
    print_failed p base all first own events x (print t v) is t v refl output failed

pub returns-in-Ok-clause-turned : goal.returns-in-Ok-clause-turned
returns-in-Ok-clause-turned g c = λ p base all first own events machine is.
    let o = g.O.Sink.state c.args.output.now in
    let o' = g.O.Sink.state c.write_print.new.output in
    let b = c.args.self.now in
    let t = tree_of c.args.ty.now in
    let v = value_of c.args.value.now in
    let x = run_state p.signatures c.args.current b machine o in
    goes p base all first own b c.go_on.new.self c.args.current machine o' void_value (Line t v ∷ []) events c.go_on.result (omega arith) c.go_on.ensures (print_on p base all first own events x (print t v) is t v refl o' c.in-Ok.ensures)

pub returns-in-Err-clause-turned : goal.returns-in-Err-clause-turned
returns-in-Err-clause-turned g c = λ p base all first own events machine is.
    let o = g.O.Sink.state c.args.output.now in
    let o' = g.O.Sink.state c.write_print.new.output in
    let b = c.args.self.now in
    let asked = run_state p.signatures c.args.current b machine o in
    goes_off p base all first own b machine o' c.in-Err.why c.cut_off.result c.cut_off.ensures.is (print_cut p base all first own events asked (tree_of c.args.ty.now) (value_of c.args.value.now) is c.in-Err.why o' c.in-Err.ensures)
