use Rattle.std.proofs.Common.{◌≡◌, List, refl, map, ap, sym, ◌∙◌, subst, rules}
use Rattle.ffi3_type_spec.specs.declared.Target.{Target}
use Rattle.ffi3_type_spec.specs.Signature.{Signature, signature_at}
use Rattle.ffi3_semantics_spec.specs.Closures.{Closures}
use Rattle.ffi3_semantics_spec.specs.Meaning.{Program}
use Rattle.ffi3_script_spec.specs.Natives.{NamedNative, program_beside}
use Rattle.ffi3_script.specs.ScriptOf.{script_of}
use Rattle.ffi3_machine_spec.specs.Slots.{HoldsMap}
use Rattle.ffi3_script_spec.specs.Handed.{handed_in}
use Rattle.ffi3_run_state.specs.Served.{IsIdle}
use Rattle.ffi3_runner.specs.declared.run.RunEnd.TheVariants as run
use Rattle.ffi3_runner_tests.proofs.Shown.{at_entry, bottom, frame}
use Rattle.ffi3_runner_tests.proofs.serving.call_after_main.Goals as goal

pub serve-requires-clause-idle : goal.serve-requires-clause-idle
serve-requires-clause-idle g c =
    let done : c.run_main.result ≡ run.Done = search rules in
    let same : ◌≡◌ {A = Program} _ _ = λ i. program_beside g.A.Abi.standard (map {B = NamedNative} (λ b. handed_in ((goal.Native-dyn g (b.vtable, b.value)).Native.title b.value) ((goal.Native-dyn g (b.vtable, b.value)).Body.meaning b.value) ((goal.Native-dyn g (b.vtable, b.value)).Body.signatures b.value)) (c.run_main.ensures.prepared i).natives.now.items) (script_of (c.run_main.ensures.prepared i).script.now) in
    subst (λ (p : Program). IsIdle p c.run_main.new.self.configuration) (sym same) (c.run_main.ensures.left done).idle

pub serve-requires-clause-entry : goal.serve-requires-clause-entry
serve-requires-clause-entry g c =
    let same : ◌≡◌ {A = Program} _ _ = λ i. program_beside g.A.Abi.standard (map {B = NamedNative} (λ b. handed_in ((goal.Native-dyn g (b.vtable, b.value)).Native.title b.value) ((goal.Native-dyn g (b.vtable, b.value)).Body.meaning b.value) ((goal.Native-dyn g (b.vtable, b.value)).Body.signatures b.value)) (c.run_main.ensures.prepared i).natives.now.items) (script_of (c.run_main.ensures.prepared i).script.now) in
    let are = c.cifs.ensures ∙ ap (λ x. x.cifs) c.run_main.ensures.prepared ∙ c.in_ok-runner.ensures.prepared.are ∙ ap (λ (p : Program). p.signatures) (sym same) in
    at_entry g.A.Abi.standard _ c.cifs.result.now c.run_main.new.self.configuration.table c.table.result.now _ c.show_at-sig.new.machine c.show_at-sig.result c.show_at-sig.ensures.shown c.table.ensures are

pub take_text-requires-clause-bottom : goal.take_text-requires-clause-bottom
take_text-requires-clause-bottom g c =
    let same : ◌≡◌ {A = Program} _ _ = λ i. program_beside g.A.Abi.standard (map {B = NamedNative} (λ b. handed_in ((goal.Native-dyn g (b.vtable, b.value)).Native.title b.value) ((goal.Native-dyn g (b.vtable, b.value)).Body.meaning b.value) ((goal.Native-dyn g (b.vtable, b.value)).Body.signatures b.value)) (c.run_main.ensures.prepared i).natives.now.items) (script_of (c.run_main.ensures.prepared i).script.now) in
    let are = c.cifs.ensures ∙ ap (λ x. x.cifs) c.run_main.ensures.prepared ∙ c.in_ok-runner.ensures.prepared.are ∙ ap (λ (p : Program). p.signatures) (sym same) in
    let done : c.serve.result ≡ run.Done = search rules in
    bottom g.A.Abi.standard _ c.cifs.result.now c.run_main.new.self.configuration.table c.table.result.now _ c.show_at-sig.new.machine c.show_at-sig.result c.show_at-sig.ensures.shown c.table.ensures are c.run_main.new.self.configuration c.serve.new.self.configuration c.serve.new.machine _ _ c.serve.result done refl c.serve.ensures.served

pub take_text-requires-clause-frame : goal.take_text-requires-clause-frame
take_text-requires-clause-frame g c =
    let same : ◌≡◌ {A = Program} _ _ = λ i. program_beside g.A.Abi.standard (map {B = NamedNative} (λ b. handed_in ((goal.Native-dyn g (b.vtable, b.value)).Native.title b.value) ((goal.Native-dyn g (b.vtable, b.value)).Body.meaning b.value) ((goal.Native-dyn g (b.vtable, b.value)).Body.signatures b.value)) (c.run_main.ensures.prepared i).natives.now.items) (script_of (c.run_main.ensures.prepared i).script.now) in
    let are = c.cifs.ensures ∙ ap (λ x. x.cifs) c.run_main.ensures.prepared ∙ c.in_ok-runner.ensures.prepared.are ∙ ap (λ (p : Program). p.signatures) (sym same) in
    let done : c.serve.result ≡ run.Done = search rules in
    let cifs_are = c.cifs-2.ensures ∙ ap (λ x. x.cifs) c.serve.ensures.prepared ∙ sym c.cifs.ensures in
    frame g.A.Abi.standard _ c.cifs.result.now c.run_main.new.self.configuration.table c.table.result.now _ c.show_at-sig.new.machine c.show_at-sig.result c.show_at-sig.ensures.shown c.table.ensures are c.run_main.new.self.configuration c.serve.new.self.configuration c.serve.new.machine _ _ c.serve.result done refl c.serve.ensures.served c.get.result.now (c.get.ensures ∙ ap (λ (l : List Signature). signature_at l c.show_at-sig.result) cifs_are)

pub show_at-sig-requires-clause-target : goal.show_at-sig-requires-clause-target
show_at-sig-requires-clause-target g c =
    let done : c.run_main.result ≡ run.Done = search rules in
    (c.run_main.ensures.done done).target ∙ g.met.A.Abi.target_is

pub show_at-sig-requires-clause-holds : goal.show_at-sig-requires-clause-holds
show_at-sig-requires-clause-holds g c =
    let done : c.run_main.result ≡ run.Done = search rules in
    let std = g.A.Abi.standard in
    let matches = c.run_main.ensures.done done in
    let table = c.table.ensures ∙ (c.run_main.ensures.left done).closures in
    let held : HoldsMap std.target c.table.result.now c.run_main.new.machine.code = subst (λ (t : Closures). HoldsMap std.target t c.run_main.new.machine.code) (sym table) matches.code in
    subst (λ (t : Target). HoldsMap t c.table.result.now c.run_main.new.machine.code) (sym matches.target) held
