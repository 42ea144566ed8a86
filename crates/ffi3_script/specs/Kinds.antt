-- The kind of moves that each Rust one stands for.
use Rattle.ffi3_script_spec.specs.Bodies as bodies
use Rattle.ffi3_script.specs.declared.acts.Kind.{Kind}
use Rattle.ffi3_script.specs.declared.acts.Kind.TheVariants.{Call, Make, Free, Print, Return}

abbrev pub kind_from : Kind → bodies.Kind
kind_from Call = bodies.call_kind
kind_from Make = bodies.make_kind
kind_from Free = bodies.free_kind
kind_from Print = bodies.print_kind
kind_from Return = bodies.return_kind
