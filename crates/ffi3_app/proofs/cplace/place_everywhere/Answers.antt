use Rattle.std.proofs.Common.{rules, ◌≡◌, [], ◌∷◌}
use Rattle.std.specs.Prelude.{Err}
use Rattle.std.proofs.lemmas.List.{append-nil}
use Rattle.ffi3_type_spec.specs.declared.Target.TheVariants.{Amd64, Aapcs64, Riscv, Win64, Apple}
use Rattle.ffi3_names.specs.NamesOf.{names_of}
use Rattle.ffi3_app_spec.specs.Declarations.{placed_on}
use Rattle.ffi3_app.proofs.Pieces.{continues_from, continues_last, target_ended, target_on}
use Rattle.ffi3_app.proofs.cplace.place_everywhere.Goals as goal

pub returns-in_err-place_on : goal.returns-in_err-place_on
returns-in_err-place_on g c =
    let part = placed_on (names_of c.args.names.now.items) c.args.sig.now in
    let ended : c.from_residual.result ≡ Err c.in_err-place_on.field-0.0 = search rules in
    target_ended part _ _ _ _ Amd64 (Aapcs64 ∷ Riscv ∷ Win64 ∷ Apple ∷ []) (continues_from _ _) _ _ c.in_err-place_on.ensures ended

pub returns-in_err-place_on-2 : goal.returns-in_err-place_on-2
returns-in_err-place_on-2 g c =
    let part = placed_on (names_of c.args.names.now.items) c.args.sig.now in
    let went1 = target_on part _ (g.O.Sink.state c.args.output.now) _ _ Amd64 (Aapcs64 ∷ Riscv ∷ Win64 ∷ Apple ∷ []) (continues_from _ _) c.in_ok-place_on.ensures in
    let ended : c.from_residual-in_err-place_on-2.result ≡ Err c.in_err-place_on-2.field-0.0 = search rules in
    target_ended part _ _ _ _ Aapcs64 (Riscv ∷ Win64 ∷ Apple ∷ []) went1 _ _ c.in_err-place_on-2.ensures ended

pub returns-in_err-place_on-3 : goal.returns-in_err-place_on-3
returns-in_err-place_on-3 g c =
    let part = placed_on (names_of c.args.names.now.items) c.args.sig.now in
    let went1 = target_on part _ (g.O.Sink.state c.args.output.now) _ _ Amd64 (Aapcs64 ∷ Riscv ∷ Win64 ∷ Apple ∷ []) (continues_from _ _) c.in_ok-place_on.ensures in
    let went2 = target_on part _ _ _ _ Aapcs64 (Riscv ∷ Win64 ∷ Apple ∷ []) went1 c.in_ok-place_on-2.ensures in
    let ended : c.from_residual-in_err-place_on-3.result ≡ Err c.in_err-place_on-3.field-0.0 = search rules in
    target_ended part _ _ _ _ Riscv (Win64 ∷ Apple ∷ []) went2 _ _ c.in_err-place_on-3.ensures ended

pub returns-in_err-place_on-4 : goal.returns-in_err-place_on-4
returns-in_err-place_on-4 g c =
    let part = placed_on (names_of c.args.names.now.items) c.args.sig.now in
    let went1 = target_on part _ (g.O.Sink.state c.args.output.now) _ _ Amd64 (Aapcs64 ∷ Riscv ∷ Win64 ∷ Apple ∷ []) (continues_from _ _) c.in_ok-place_on.ensures in
    let went2 = target_on part _ _ _ _ Aapcs64 (Riscv ∷ Win64 ∷ Apple ∷ []) went1 c.in_ok-place_on-2.ensures in
    let went3 = target_on part _ _ _ _ Riscv (Win64 ∷ Apple ∷ []) went2 c.in_ok-place_on-3.ensures in
    let ended : c.from_residual-in_err-place_on-4.result ≡ Err c.in_err-place_on-4.field-0.0 = search rules in
    target_ended part _ _ _ _ Win64 (Apple ∷ []) went3 _ _ c.in_err-place_on-4.ensures ended

pub returns : goal.returns
returns g c =
    let part = placed_on (names_of c.args.names.now.items) c.args.sig.now in
    let went1 = target_on part _ (g.O.Sink.state c.args.output.now) _ _ Amd64 (Aapcs64 ∷ Riscv ∷ Win64 ∷ Apple ∷ []) (continues_from _ _) c.in_ok-place_on.ensures in
    let went2 = target_on part _ _ _ _ Aapcs64 (Riscv ∷ Win64 ∷ Apple ∷ []) went1 c.in_ok-place_on-2.ensures in
    let went3 = target_on part _ _ _ _ Riscv (Win64 ∷ Apple ∷ []) went2 c.in_ok-place_on-3.ensures in
    let went4 = target_on part _ _ _ _ Win64 (Apple ∷ []) went3 c.in_ok-place_on-4.ensures in
    continues_last _ _ _ _ went4 (part Apple) _ _ (append-nil (part Apple)) c.place_on-5.ensures
