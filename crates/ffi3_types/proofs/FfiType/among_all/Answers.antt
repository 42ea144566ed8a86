use Rattle.std.proofs.Common.{ap, sym, inl, inr}
use Rattle.std.specs.Prelude.{ℕ, List, Option}
use Rattle.ffi3_type_spec.specs.Tree.{Tree}
use Rattle.ffi3_type_spec.specs.Names.{type_beside, type_names}
use Rattle.ffi3_type_spec.proofs.Names.{beside-none}
use Rattle.ffi3_types.proofs.FfiType.among_all.Goals as goal

abbrev named : List ℕ → Option Tree
named word = type_beside word type_names

pub returns-in-void : goal.returns-in-void
returns-in-void c = sym (ap named c.in-void.is)

pub returns-in-float : goal.returns-in-float
returns-in-float c = sym (ap named c.in-float.is)

pub returns-in-double : goal.returns-in-double
returns-in-double c = sym (ap named c.in-double.is)

pub returns-in-pointer : goal.returns-in-pointer
returns-in-pointer c = sym (ap named c.in-pointer.is)

pub returns-in-longdouble : goal.returns-in-longdouble
returns-in-longdouble c = sym (ap named c.in-longdouble.is)

pub returns-in-vector : goal.returns-in-vector
returns-in-vector c = sym (ap named c.in-vector.is)

pub returns-in-uint8 : goal.returns-in-uint8
returns-in-uint8 c = elim c.in-uint8.is [ inl a ↦ sym (ap named a) | inr b ↦ sym (ap named b) ]

pub returns-in-sint8 : goal.returns-in-sint8
returns-in-sint8 c = elim c.in-sint8.is [ inl a ↦ sym (ap named a) | inr b ↦ sym (ap named b) ]

pub returns-in-uint16 : goal.returns-in-uint16
returns-in-uint16 c = elim c.in-uint16.is [ inl a ↦ sym (ap named a) | inr b ↦ sym (ap named b) ]

pub returns-in-sint16 : goal.returns-in-sint16
returns-in-sint16 c = elim c.in-sint16.is [ inl a ↦ sym (ap named a) | inr b ↦ sym (ap named b) ]

pub returns-in-uint32 : goal.returns-in-uint32
returns-in-uint32 c = elim c.in-uint32.is [ inl a ↦ sym (ap named a) | inr b ↦ sym (ap named b) ]

pub returns-in-sint32 : goal.returns-in-sint32
returns-in-sint32 c = elim c.in-sint32.is [ inl a ↦ sym (ap named a) | inr b ↦ sym (ap named b) ]

pub returns-in-uint64 : goal.returns-in-uint64
returns-in-uint64 c = elim c.in-uint64.is [ inl a ↦ sym (ap named a) | inr b ↦ sym (ap named b) ]

pub returns-in-sint64 : goal.returns-in-sint64
returns-in-sint64 c = elim c.in-sint64.is [ inl a ↦ sym (ap named a) | inr b ↦ sym (ap named b) ]

pub returns-in-complex_float : goal.returns-in-complex_float
returns-in-complex_float c = elim c.in-complex_float.is [ inl a ↦ sym (ap named a) | inr b ↦ elim b [ inl d ↦ sym (ap named d) | inr e ↦ sym (ap named e) ] ]

pub returns-in_default : goal.returns-in_default
returns-in_default c =
    let d = c.in_default in
    sym (beside-none c.args.name.now type_names (d.not-void, (d.not-uint8, (d.not-sint8, (d.not-uint16, (d.not-sint16, (d.not-uint32, (d.not-sint32, (d.not-uint64, (d.not-sint64, (d.not-float, (d.not-double, (d.not-pointer, (d.not-uchar, (d.not-schar, (d.not-ushort, (d.not-sshort, (d.not-uint, (d.not-sint, (d.not-ulong, (d.not-slong, (d.not-longdouble, (d.not-complex_float, (d.not-complex_double, (d.not-complex_longdouble, (d.not-vector, tt))))))))))))))))))))))))))
