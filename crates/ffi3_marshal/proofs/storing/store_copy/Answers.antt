use Rattle.std.proofs.Common.{◌≡◌, ◌+◌, ◌-◌, length, ap, sym, ◌∙◌, subst, arith}
use Rattle.ffi3_marshal.specs.Stored.{IsPlaceIn, IsWordPut, stored}
use Rattle.ffi3_marshal.proofs.Puts.{stored_size}
use Rattle.ffi3_marshal.proofs.Copying.{copied}
use Rattle.ffi3_marshal.proofs.Taking.{still_takes_at}
use Rattle.ffi3_marshal.proofs.storing.store_copy.Goals as goal

pub put_word-requires-clause-lies : goal.put_word-requires-clause-lies
put_word-requires-clause-lies g c =
    let old = g.W.ReadImage.image c.args.state.now in
    let same : length (g.W.ReadImage.image c.write_stack.new.self).stack ≡ length old.stack = ap (λ m. length m.stack) c.write_stack.ensures.stored ∙ stored_size (c.args.base + c.args.copy) c.args.bytes.now old (omega (arith, c.requires.fits, c.requires.sized)) in
    subst (λ n. IsPlaceIn g.W.ReadImage.floatings (n - c.args.base) c.args.at) (sym same) c.requires.lies

pub put_word-requires-clause-takes : goal.put_word-requires-clause-takes
put_word-requires-clause-takes g c =
    let takes = g.W.WriteImage.takes in
    let low = c.args.base + c.args.copy in
    let high = c.args.base + c.args.copy + length c.args.bytes.now in
    still_takes_at (takes c.args.state.now) (takes c.write_stack.new.self) (λ k h. g.met.W.WriteImage.still_takes low high k c.args.state.now c.write_stack.new.self (c.write_stack.ensures.wrote low high (omega arith) (omega arith)) h) c.args.at c.requires.takes

pub returns-clause-copied : goal.returns-clause-copied
returns-clause-copied g c =
    let old = g.W.ReadImage.image c.args.state.now in
    let new = g.W.ReadImage.image c.put_word.new.state in
    let address : c.address_of-address.result ≡ old.sp + c.args.base + c.args.copy = omega (arith, c.sp.ensures, c.address_of-address.ensures) in
    copied c.args.base c.args.ty.now c.args.at c.args.copy c.args.bytes.now old new c.requires.sized c.requires.fits c.requires.apart
    (subst (λ w. IsWordPut c.args.base c.args.at w (stored (c.args.base + c.args.copy) c.args.bytes.now old) new) address (subst (λ m. IsWordPut c.args.base c.args.at c.address_of-address.result m new) c.write_stack.ensures.stored c.put_word.ensures.put))

pub returns-clause-within : goal.returns-clause-within
returns-clause-within g c = λ room lies fits.
    g.met.W.WriteImage.wrote_then c.args.base (c.args.base + room) c.args.state.now c.write_stack.new.self c.put_word.new.state (c.write_stack.ensures.wrote c.args.base (c.args.base + room) (omega arith) (omega (arith, fits, c.requires.sized))) (c.put_word.ensures.within room lies)
