use Rattle.std.proofs.Common.{◌<◌, ℕ, get_or, subst}
use Rattle.ffi3_explain_spec.specs.Laws.{HasWords}
use Rattle.ffi3_explain.specs.ImageOf.{image_of}
use Rattle.ffi3_explain.proofs.Top.{values_held, values_fit, held_values, held_fault}
use Rattle.ffi3_explain.proofs.explain.Goals as goal

pub returns-in-Ok-clause-holds : goal.returns-in-Ok-clause-holds
returns-in-Ok-clause-holds g c =
    let s = c.args.cif.now in
    let right = c.sig-sig.ensures.faultless in
    let bytes : (i : ℕ) → get_or c.args.image.now.stack i 0 < 256 = λ i. subst (λ b. get_or b i 0 < 256) c.as_slice.ensures (c.are_small.ensures.stack i) in
    let has : HasWords (image_of c.args.image.now) = record { general = c.are_small.ensures.general; floating = c.are_small.ensures.floating; bytes = bytes } in
    values_held g.A.Abi.standard s (image_of c.args.image.now) right (g.met.A.Abi.sound s) has c.requires.stack c.in-Ok.values c.in-Ok.ensures.values

pub returns-in-Ok-clause-fits : goal.returns-in-Ok-clause-fits
returns-in-Ok-clause-fits g c =
    let s = c.args.cif.now in
    let right = c.sig-sig.ensures.faultless in
    let bytes : (i : ℕ) → get_or c.args.image.now.stack i 0 < 256 = λ i. subst (λ b. get_or b i 0 < 256) c.as_slice.ensures (c.are_small.ensures.stack i) in
    let has : HasWords (image_of c.args.image.now) = record { general = c.are_small.ensures.general; floating = c.are_small.ensures.floating; bytes = bytes } in
    values_fit g.A.Abi.standard s (image_of c.args.image.now) right (g.met.A.Abi.sound s) has c.requires.stack c.in-Ok.values c.in-Ok.ensures.values

pub returns-in-Ok-clause-complete : goal.returns-in-Ok-clause-complete
returns-in-Ok-clause-complete g c = λ vs holds. let s = c.args.cif.now in
    let right = c.sig-sig.ensures.faultless in
    let bytes : (i : ℕ) → get_or c.args.image.now.stack i 0 < 256 = λ i. subst (λ b. get_or b i 0 < 256) c.as_slice.ensures (c.are_small.ensures.stack i) in
    let has : HasWords (image_of c.args.image.now) = record { general = c.are_small.ensures.general; floating = c.are_small.ensures.floating; bytes = bytes } in
    (held_values g.A.Abi.standard s (image_of c.args.image.now) right (g.met.A.Abi.sound s) has c.requires.stack vs holds c.in-Ok.values c.in-Ok.ensures.values, tt)

pub returns-in-Err-clause-complete : goal.returns-in-Err-clause-complete
returns-in-Err-clause-complete g c = λ vs holds. let s = c.args.cif.now in
    let right = c.sig-sig.ensures.faultless in
    let bytes : (i : ℕ) → get_or c.args.image.now.stack i 0 < 256 = λ i. subst (λ b. get_or b i 0 < 256) c.as_slice.ensures (c.are_small.ensures.stack i) in
    let has : HasWords (image_of c.args.image.now) = record { general = c.are_small.ensures.general; floating = c.are_small.ensures.floating; bytes = bytes } in
    (tt, held_fault g.A.Abi.standard s (image_of c.args.image.now) right (g.met.A.Abi.sound s) has c.requires.stack vs holds c.in-Err.fault c.in-Err.ensures.broken)
