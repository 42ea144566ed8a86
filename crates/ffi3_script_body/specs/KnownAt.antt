-- What is known, and its types.
use Rattle.ffi3_script_spec.specs.Meaning as meaning
use Rattle.ffi3_script_spec.specs.Typed.{Kinds}
use Rattle.ffi3_script_body.specs.KnownOf.{pasts_of, kinds_from, known_from}
use Rattle.ffi3_script_body.specs.declared.known.Known.{Known}

abbrev pub kinds_of : Known → Kinds
kinds_of k = kinds_from k.sigs.now k.seen.now (pasts_of k.done.now k.later.now k.marks.now)

abbrev pub known_of : Known → meaning.Known
known_of k = known_from k.sigs.now k.seen.now (pasts_of k.done.now k.later.now k.marks.now)
