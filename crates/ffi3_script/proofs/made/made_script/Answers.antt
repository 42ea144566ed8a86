use Rattle.std.proofs.Common.{◌≡◌, true, ◌∷◌, [], map, sym, ap, subst, ◌∙◌}
use Rattle.ffi3_script_spec.specs.Script as script
use Rattle.ffi3_script_spec.specs.Made.{made, made_types, made_signature, made_function, made_main}
use Rattle.ffi3_script_spec.specs.Typed.{script_is_typed}
use Rattle.ffi3_script_spec.proofs.Made.{made_is_typed}
use Rattle.ffi3_bench_script.specs.ShapesOf.{types_in}
use Rattle.ffi3_bench_script.specs.KindOf.{state_of}
use Rattle.ffi3_script_body.specs.ExprOf.{script_moves_of}
use Rattle.ffi3_script.specs.PartsOf.{part_of, script_in}
use Rattle.ffi3_script.proofs.made.made_script.Goals as goal

pub script_of-requires-clause-typed : goal.script_of-requires-clause-typed
script_of-requires-clause-typed c =
    let seed = c.args.seed in
    let calls = c.args.calls in
    let begun = c.of_seed-draws.ensures in
    let types : types_in c.in_ok-shapes.shapes ≡ made_types seed = c.in_ok-shapes.ensures.are seed begun in
    let signatures : c.in_ok-sigs.sigs ≡ map made_signature (made_types seed) = c.in_ok-sigs.ensures ∙ ap (map made_signature) types in
    let functions : map part_of c.in_ok-functions.functions.items ≡ (made seed calls).functions = c.in_ok-functions.ensures.are ∙ ap (λ ts. made_function ts 0 ∷ made_function ts 1 ∷ made_function ts 2 ∷ made_function ts 3 ∷ []) types in
    let main : script_moves_of c.in_ok-main.main.items ≡ (made seed calls).main = c.in_ok-main.ensures.are ∙ ap (λ ts. made_main ts calls (state_of c.drawn.new.draws)) types ∙ ap (made_main (made_types seed) calls) (c.in_ok-shapes.ensures.moved seed begun) in
    let same : script_in 1 c.in_ok-sigs.sigs c.in_ok-functions.functions.items c.in_ok-main.main.items ≡ made seed calls = λ i. record { version = 1; signatures = signatures i; functions = functions i; main = main i } in
    subst (λ (s : script.Script). script_is_typed 0 s ≡ true) (sym same) (made_is_typed seed calls)
