use Rattle.std.proofs.Common.{◌≡◌, ℕ, ◌+◌, ◌-◌, ◌<◌, ◌≤◌, Bool, true, false, length, sym, ap, ◌∙◌, arith}
use Rattle.std.proofs.lemmas.Bool.{lt-ltb, le-ltb}
use Rattle.ffi3_type_spec.specs.declared.limits.TheConstants.{STACK}
use Rattle.ffi3_type_spec.specs.Signature.{Signature, signature_at}
use Rattle.ffi3_place_spec.specs.Standard.{Standard, need_of}
use Rattle.ffi3_semantics_spec.specs.declared.Stop.TheVariants.{StackFull}
use Rattle.ffi3_semantics_spec.specs.Meaning.{Program, stops, need_at}
use Rattle.ffi3_caller.specs.declared.StackFull as caller
use Rattle.ffi3_run_state.proofs.Acts.{call_is_wrong, call_has_no_room, call_enters}
use Rattle.ffi3_run_state.proofs.Closed.{below_at}
use Rattle.ffi3_run_state.proofs.Tests.{same_signatures, other_signatures}
use Rattle.ffi3_run_state.proofs.Transports.{numbered}
use Rattle.ffi3_run_state.proofs.configuration.Configuration.callee.Goals as goal

differ : (a b s r : Signature) (test : Bool) → s ≡ a → r ≡ b → test ≡ false → (s ≡ r → test ≡ true) → a ≡ b → ⊥
differ a b s r test s_is r_is is_false same e =
    let t : test ≡ true = same (s_is ∙ e ∙ sym r_is) in cc

-- the need of a call by the program's own numbers
need_is : (p : Program) (std : Standard) (sig : ℕ) (s : Signature) → p.need ≡ need_of std → s ≡ signature_at p.signatures sig → need_at p sig ≡ need_of std s
need_is p std sig s needs site =
    ap p.need (sym site) ∙ ap (λ (f : Signature → ℕ). f s) needs

-- a stop for want of stack, with its numbers
full_is : (need need' left left' : ℕ) → need ≡ need' → left ≡ left' → stops (StackFull need left) ≡ stops (StackFull need' left')
full_is need need' left left' a b =
    ap (λ (n : ℕ). stops (StackFull n left)) a ∙ ap (λ (n : ℕ). stops (StackFull need' n)) b

pub get-requires : goal.get-requires
get-requires g c =
    let found = below_at (length c.args.cifs.now) c.args.self.now.table c.args.ptr c.in-Some.closure c.requires.below (sym c.find.ensures.value ∙ c.in-Some.is) in
    omega (arith, c.requires.site, found)

pub returns-then-not-same_sig-clause-numbers : goal.returns-then-not-same_sig-clause-numbers
returns-then-not-same_sig-clause-numbers g c = (
  c.requires.site,
  below_at (length c.args.cifs.now) c.args.self.now.table c.args.ptr c.in-Some.closure c.requires.below (sym c.find.ensures.value ∙ c.in-Some.is),
)

pub returns-then-not-same_sig-clause-does : goal.returns-then-not-same_sig-clause-does
returns-then-not-same_sig-clause-does g c = λ p a args signatures needs left.
    let live = sym c.find.ensures.value ∙ c.in-Some.is in
    let site = numbered p c.args.cifs.now c.args.sig c.sig.result.now signatures (c.sig.ensures.value ∙ c.get-cif.ensures) in
    let found = numbered p c.args.cifs.now c.in-Some.closure.sig c.sig-2.result.now signatures (c.sig-2.ensures.value ∙ c.get.ensures) in
    let other = differ (signature_at p.signatures c.args.sig) (signature_at p.signatures c.in-Some.closure.sig) c.sig.result.now c.sig-2.result.now c.same_sig.result site found c.if-not-same_sig.true c.same_sig.ensures.1 in
    call_is_wrong p a c.args.self.now.table c.args.ptr c.args.sig args c.in-Some.closure live (other_signatures (signature_at p.signatures c.args.sig) (signature_at p.signatures c.in-Some.closure.sig) other)

pub returns-in-Err-clause-does : goal.returns-in-Err-clause-does
returns-in-Err-clause-does g c = λ p a args signatures needs left.
    let live = sym c.find.ensures.value ∙ c.in-Some.is in
    let cif = numbered p c.args.cifs.now c.args.sig c.get-cif.result.now signatures c.get-cif.ensures in
    let site = numbered p c.args.cifs.now c.args.sig c.sig.result.now signatures (c.sig.ensures.value ∙ c.get-cif.ensures) in
    let found = numbered p c.args.cifs.now c.in-Some.closure.sig c.sig-2.result.now signatures (c.sig-2.ensures.value ∙ c.get.ensures) in
    let same = sym site ∙ c.same_sig.ensures.0 c.if-not-same_sig.false ∙ found in
    let need : need_at p c.args.sig ≡ need_of g.A.Abi.standard c.get-cif.result.now = need_is p g.A.Abi.standard c.args.sig c.get-cif.result.now needs cif in
    let lacks : c.args.machine.now.sp < STACK + need_of g.A.Abi.standard c.get-cif.result.now = c.in-Err.ensures.full in
    let full = lt-ltb a.left (need_at p c.args.sig) (omega (arith, need, lacks, left)) in
    let numbers = c.in-Err.ensures.numbers in
    let needed : need_at p c.args.sig ≡ c.in-Err.full.need = need ∙ sym (ap (λ (f : caller.StackFull). f.need) numbers) in
    let had : c.in-Err.full.left ≡ c.args.machine.now.sp - STACK = ap (λ (f : caller.StackFull). f.left) numbers in
    call_has_no_room p a c.args.self.now.table c.args.ptr c.args.sig args c.in-Some.closure live (same_signatures (signature_at p.signatures c.args.sig) (signature_at p.signatures c.in-Some.closure.sig) same) full
    ∙ full_is (need_at p c.args.sig) c.in-Err.full.need a.left c.in-Err.full.left needed (omega (arith, left, had))

pub returns-clause-does : goal.returns-clause-does
returns-clause-does g c = λ p a args signatures needs left.
    let live = sym c.find.ensures.value ∙ c.in-Some.is in
    let cif = numbered p c.args.cifs.now c.args.sig c.get-cif.result.now signatures c.get-cif.ensures in
    let site = numbered p c.args.cifs.now c.args.sig c.sig.result.now signatures (c.sig.ensures.value ∙ c.get-cif.ensures) in
    let found = numbered p c.args.cifs.now c.in-Some.closure.sig c.sig-2.result.now signatures (c.sig-2.ensures.value ∙ c.get.ensures) in
    let same = sym site ∙ c.same_sig.ensures.0 c.if-not-same_sig.false ∙ found in
    let need : need_at p c.args.sig ≡ need_of g.A.Abi.standard c.get-cif.result.now = need_is p g.A.Abi.standard c.args.sig c.get-cif.result.now needs cif in
    let has : STACK + need_of g.A.Abi.standard c.get-cif.result.now ≤ c.args.machine.now.sp = c.in_default-room_for.ensures.ok in
    let room = le-ltb a.left (need_at p c.args.sig) (omega (arith, need, has, left)) in
    call_enters p a c.args.self.now.table c.args.ptr c.args.sig args c.in-Some.closure live (same_signatures (signature_at p.signatures c.args.sig) (signature_at p.signatures c.in-Some.closure.sig) same) room
