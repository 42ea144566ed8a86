use Rattle.std.proofs.Common.{◌≡◌, ◌+◌, ◌-◌, ◌*◌, arith, ap, ◌∙◌, refl, length}
use Rattle.ffi3_machine_spec.specs.Memory.{low_bytes, Memory}
use Rattle.ffi3_machine_spec.specs.State.{free_word}
use Rattle.ffi3_machine.proofs.Slots.{freed-turn, filled-all, length-replaced}
use Rattle.ffi3_machine.proofs.stub.fill_words.Goals as goal

pub loop-k-preserved : goal.loop-k-preserved
loop-k-preserved c =
    let turn = freed-turn (low_bytes 4 c.free_word-word.result) (free_word c.args.isa) c.loop-k.region.bytes c.args.region.now.bytes (4096 + 4 * c.loop-k.k - c.loop-k.region.base) (4096 + 4 * c.loop-k.k - c.loop-k.region.base + 4) c.loop-k.k c.free_word-word.ensures refl (omega arith) refl c.loop-k.invariant.freed in
    record {
      base = ap (λ (m : Memory). m.base) c.store.ensures ∙ c.loop-k.invariant.base;
      size = ap (λ (m : Memory). length m.bytes) c.store.ensures ∙ length-replaced c.loop-k.region.bytes (low_bytes 4 c.free_word-word.result) (4096 + 4 * c.loop-k.k - c.loop-k.region.base) (4096 + 4 * c.loop-k.k - c.loop-k.region.base + 4) refl (omega arith) ∙ c.loop-k.invariant.size;
      freed = ap (λ (m : Memory). m.bytes) c.store.ensures ∙ turn;
    }

pub returns : goal.returns
returns c =
    let base : c.loop-k.region.base ≡ c.args.region.now.base = cc in
    let bytes = c.loop-k.invariant.freed ∙ filled-all c.loop-k.k (free_word c.args.isa) c.args.region.now.bytes (omega arith) c.requires.length in
    ap (λ b. let m : Memory = record { base = b; bytes = c.loop-k.region.bytes } in m) base ∙ ap (λ b. let m : Memory = record { base = c.args.region.now.base; bytes = b } in m) bytes
