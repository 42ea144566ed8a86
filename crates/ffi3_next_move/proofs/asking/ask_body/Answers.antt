use Rattle.std.proofs.Common.{sym, subst}
use Rattle.ffi3_semantics_spec.specs.Move.{MoveFits}
use Rattle.ffi3_body.specs.MoveOf.{move_of}
use Rattle.ffi3_script_body.specs.BodyOf.{signatures_of, functions_of}
use Rattle.ffi3_next_move.proofs.Asked.{ok_both, body_after}
use Rattle.ffi3_next_move.proofs.asking.ask_body.Goals as goal

pub next_at-requires : goal.next_at-requires
next_at-requires c =
    record { own = c.requires.own; follow = c.requires.follow; agrees = c.requires.agrees }

pub returns-clause-next : goal.returns-clause-next
returns-clause-next c =
    let b = c.args.body.now in
    let a = c.args.seen.now in
    ok_both c.next_at.result _ _ _ c.next_at.ensures.is c.next_at.ensures.fits (λ m is fits. record {
      is = is;
      fits = subst (λ s. MoveFits (signatures_of b) (functions_of b) s.result_type (move_of m)) (sym c.requires.own) fits;
      after = λ r of_type. body_after b a c.next_at.new.cursor (move_of m) r c.requires.own c.requires.follow is (c.next_at.ensures.after r) of_type;
    })

pub returns-clause-stands : goal.returns-clause-stands
returns-clause-stands c =
    record { own = c.requires.own; follow = c.requires.follow; agrees = c.next_at.ensures.agrees }
