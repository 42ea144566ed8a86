use Rattle.std.proofs.Common.{◌≡◌, List, length, nat_lt, sym, subst, true}
use Rattle.std.specs.List.{list_all}
use Rattle.ffi3_type_spec.specs.Signature.{Signature, signature_at}
use Rattle.ffi3_script_spec.specs.Typed.{body_is_typed, signature_is_right}
use Rattle.ffi3_script_spec.proofs.Tests.{and_left, and_right}
use Rattle.ffi3_script_body.specs.ExprOf.{script_moves_of}
use Rattle.ffi3_script.proofs.read.function_of.Goals as goal

pub new-body-requires : goal.new-body-requires
new-body-requires c =
    let ss = c.args.sigs.now.value in
    let part = c.args.part in
    let same : c.in_ok-clone.field-0.value ≡ ss = c.in_ok-clone.ensures.cases in
    record {
      typed = subst (λ (rs : List Signature). body_is_typed rs c.args.count (signature_at rs part.sig) (script_moves_of part.moves.items) ≡ true) (sym same) (and_right (nat_lt part.sig (length ss)) _ c.requires.typed);
      right = subst (λ (rs : List Signature). list_all signature_is_right rs ≡ true) (sym same) c.requires.right;
      few = c.requires.few;
      own_there = subst (λ (rs : List Signature). nat_lt part.sig (length rs) ≡ true) (sym same) (and_left (nat_lt part.sig (length ss)) _ c.requires.typed);
    }
