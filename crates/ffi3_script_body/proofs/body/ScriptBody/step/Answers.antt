use Rattle.std.proofs.Common.{◌≡◌, ◌+◌, ◌<◌, true, length, drop, refl, sym, ap, ◌∙◌, subst, arith}
use Rattle.std.specs.Prelude.{option_map}
use Rattle.ffi3_type_spec.specs.Tree.{trees_of}
use Rattle.ffi3_type_spec.specs.Value.{all_fit, values_of}
use Rattle.ffi3_semantics_spec.specs.Move.{MoveFits}
use Rattle.ffi3_semantics_spec.specs.SeenActivation.{arguments_of}
use Rattle.ffi3_script_spec.specs.Meaning as meaning
use Rattle.ffi3_script_spec.specs.Typed.{is_condition, act_is_typed}
use Rattle.ffi3_script_spec.proofs.Fits.{body_fits}
use Rattle.ffi3_script_spec.proofs.BodyRules.{condition_typed, act_typed}
use Rattle.ffi3_script_body.specs.ExprOf.{typed_of, act_of, script_move_of}
use Rattle.ffi3_script_body.specs.BodyOf.{signature_of, setting_of, moves_of}
use Rattle.ffi3_script_body.specs.KnownAt.{known_of}
use Rattle.ffi3_script_body.specs.Agrees.{Agrees, kinds_at}
use Rattle.ffi3_script_body.proofs.Agreed.{stands, knows, ready_agrees, next_is, done_agrees, undone_agrees}
use Rattle.ffi3_script_body.proofs.body.ScriptBody.step.Goals.{then-branch+else-cursor-results+in_ok-push, else-branch+in_ok-push-2}
use Rattle.ffi3_script_body.proofs.body.ScriptBody.step.Goals as goal

pub is_ready-requires : goal.is_ready-requires
is_ready-requires c =
    let b = c.args.self.now in
    let a = c.args.seen.now in
    let cursor = c.args.cursor.now in
    let m = c.move_at-m.result.now in
    let g = c.requires.agrees in
    let rest = drop (cursor.first + length cursor.marks.items + 1) (moves_of b) in
    let w = stands b a cursor m g c.move_at-m.ensures in
    record {
      typed = subst (λ k. is_condition k (option_map typed_of m.condition) ≡ true) (sym c.known_at-known.ensures.kinds) (condition_typed (setting_of b) (kinds_at b a cursor) (script_move_of m) rest w.typed);
      done = λ h. ap (λ k. meaning.is_done k (option_map typed_of m.condition)) c.known_at-known.ensures.is ∙ knows b a cursor m g c.move_at-m.ensures h;
    }

pub move_of-requires : goal.move_of-requires
move_of-requires c =
    let b = c.args.self.now in
    let a = c.args.seen.now in
    let cursor = c.args.cursor.now in
    let m = c.move_at-m.result.now in
    let rest = drop (cursor.first + length cursor.marks.items + 1) (moves_of b) in
    let w = stands b a cursor m c.requires.agrees c.move_at-m.ensures in
    subst (λ k. act_is_typed (setting_of b) k (act_of m.act) ≡ true) (sym c.known_at-known.ensures.kinds) (act_typed (setting_of b) (kinds_at b a cursor) (script_move_of m) rest w.typed)

pub returns-then-cursor-results-clause-is : goal.returns-then-cursor-results-clause-is
returns-then-cursor-results-clause-is c =
    let m = c.move_at-m.result.now in
    let test = ap (λ k. meaning.is_done k (option_map typed_of m.condition)) (sym c.known_at-known.ensures.is) ∙ sym c.in_ok-is_ready.ensures in
    c.in_ok-next.ensures ∙ ap (λ k. meaning.move_of k (act_of m.act)) c.known_at-known.ensures.is ∙ sym (next_is c.args.self.now c.args.seen.now c.args.cursor.now m c.requires.agrees c.move_at-m.ensures (test ∙ c.if-branch.true) (c.if-cursor-results.true ∙ c.results.ensures))

pub returns-then-cursor-results-clause-fits : goal.returns-then-cursor-results-clause-fits
returns-then-cursor-results-clause-fits c =
    let b = c.args.self.now in
    let a = c.args.seen.now in
    let known = c.known_at-known in
    let types_are = ap (λ k. k.arguments) known.ensures.kinds ∙ ap (λ s. s.arguments) c.requires.own in
    let fit = subst (λ vs. all_fit (trees_of (signature_of b).arguments) (values_of vs) ≡ true) (ap (λ k. k.arguments) known.ensures.is) (subst (λ ts. all_fit (trees_of ts) (values_of (known_of known.result).arguments) ≡ true) types_are known.result.arguments_fit) in
    let fits = body_fits b.sigs.value b.functions (signature_of b) (moves_of b) (arguments_of a) a.user a.results b.right b.typed fit c.requires.follow in
    subst (MoveFits b.sigs.value b.functions (signature_of b).result_type) (sym (returns-then-cursor-results-clause-is c)) fits

pub returns-then-cursor-results-clause-agrees : goal.returns-then-cursor-results-clause-agrees
returns-then-cursor-results-clause-agrees c =
    let m = c.move_at-m.result.now in
    let test = ap (λ k. meaning.is_done k (option_map typed_of m.condition)) (sym c.known_at-known.ensures.is) ∙ sym c.in_ok-is_ready.ensures in
    ready_agrees c.args.self.now c.args.seen.now c.args.cursor.now m c.requires.agrees c.move_at-m.ensures (test ∙ c.if-branch.true)

pub returns-clause-agrees : goal.returns-clause-agrees
returns-clause-agrees c =
    let b = c.args.self.now in
    let a = c.args.seen.now in
    let cursor = c.args.cursor.now in
    let m = c.move_at-m.result.now in
    let g = c.requires.agrees in
    let test = ap (λ k. meaning.is_done k (option_map typed_of m.condition)) (sym c.known_at-known.ensures.is) ∙ sym c.in_ok-is_ready.ensures in
    elim c.if-branch.branch [
      | then-branch+else-cursor-results+in_ok-push w ↦
          let more : cursor.taken < length a.results = omega (arith, w.results.ensures, w.if-cursor-results.false, g.walked.within) in
          subst (Agrees b a) (sym w.cursor-is) (done_agrees b a cursor m g c.move_at-m.ensures _ c.requires.follow more (test ∙ w.if-branch.true) refl w.in_ok-push.ensures.items refl refl)
      | else-branch+in_ok-push-2 w ↦
          subst (Agrees b a) (sym w.cursor-is) (undone_agrees b a cursor m g c.move_at-m.ensures _ (test ∙ w.if-branch.false) refl w.in_ok-push-2.ensures.items refl refl)
    ]
