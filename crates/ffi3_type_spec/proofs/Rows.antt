-- Layouts that C compilers for 64-bit targets give.
use Rattle.std.proofs.Common.{◌≡◌, [], ◌∷◌, refl}
use Rattle.ffi3_type_spec.specs.Tree.{scalar, struct_of, void, u8, s8, u16, s16, u32, s32, u64, s64, u128, s128, float, double, pointer}
use Rattle.std.specs.Prelude.{Some, None, codes}
use Rattle.ffi3_type_spec.specs.Names.{type_named}
use Rattle.ffi3_type_spec.specs.Layout.{layout, least_multiple, offset_of}

pub void-layout : layout void ≡ record { size = 0; align = 1; leaves = [] }
void-layout = refl

pub pointer-layout : layout (scalar pointer) ≡ record { size = 8; align = 8; leaves = record { at = 0; kind = pointer } ∷ [] }
pointer-layout = refl

-- struct{sint8,struct{sint16,double},float}
pub nested-layout : layout (struct_of (scalar s8 ∷ struct_of (scalar s16 ∷ scalar double ∷ []) ∷ scalar float ∷ [])) ≡ record { size = 32; align = 8; leaves = record { at = 0; kind = s8 } ∷ record { at = 8; kind = s16 } ∷ record { at = 16; kind = double } ∷ record { at = 24; kind = float } ∷ [] }
unfolding least_multiple
nested-layout = refl

pub nested-offset : offset_of (struct_of (scalar s8 ∷ struct_of (scalar s16 ∷ scalar double ∷ []) ∷ scalar float ∷ [])) 2 ≡ 24
unfolding least_multiple
nested-offset = refl

-- struct{uint8,uint32,uint16}
pub padded-layout : layout (struct_of (scalar u8 ∷ scalar u32 ∷ scalar u16 ∷ [])) ≡ record { size = 12; align = 4; leaves = record { at = 0; kind = u8 } ∷ record { at = 4; kind = u32 } ∷ record { at = 8; kind = u16 } ∷ [] }
unfolding least_multiple
padded-layout = refl

-- struct{sint32,float}
pub two_words-layout : layout (struct_of (scalar s32 ∷ scalar float ∷ [])) ≡ record { size = 8; align = 4; leaves = record { at = 0; kind = s32 } ∷ record { at = 4; kind = float } ∷ [] }
unfolding least_multiple
two_words-layout = refl

-- struct{double,sint8}
pub tail-layout : layout (struct_of (scalar double ∷ scalar s8 ∷ [])) ≡ record { size = 16; align = 8; leaves = record { at = 0; kind = double } ∷ record { at = 8; kind = s8 } ∷ [] }
unfolding least_multiple
tail-layout = refl

-- struct{sint64,sint64}
pub pair-layout : layout (struct_of (scalar s64 ∷ scalar s64 ∷ [])) ≡ record { size = 16; align = 8; leaves = record { at = 0; kind = s64 } ∷ record { at = 8; kind = s64 } ∷ [] }
unfolding least_multiple
pair-layout = refl

-- struct{float,float,float,float}
pub floats-layout : layout (struct_of (scalar float ∷ scalar float ∷ scalar float ∷ scalar float ∷ [])) ≡ record { size = 16; align = 4; leaves = record { at = 0; kind = float } ∷ record { at = 4; kind = float } ∷ record { at = 8; kind = float } ∷ record { at = 12; kind = float } ∷ [] }
unfolding least_multiple
floats-layout = refl

-- struct{uint64,uint64,uint64}
pub three-layout : layout (struct_of (scalar u64 ∷ scalar u64 ∷ scalar u64 ∷ [])) ≡ record { size = 24; align = 8; leaves = record { at = 0; kind = u64 } ∷ record { at = 8; kind = u64 } ∷ record { at = 16; kind = u64 } ∷ [] }
unfolding least_multiple
three-layout = refl

-- struct{sint8,sint16}
pub short-layout : layout (struct_of (scalar s8 ∷ scalar s16 ∷ [])) ≡ record { size = 4; align = 2; leaves = record { at = 0; kind = s8 } ∷ record { at = 2; kind = s16 } ∷ [] }
unfolding least_multiple
short-layout = refl

-- struct{struct{uint8}}: a struct of one byte in a struct
pub inner-layout : layout (struct_of (struct_of (scalar u8 ∷ []) ∷ [])) ≡ record { size = 1; align = 1; leaves = record { at = 0; kind = u8 } ∷ [] }
unfolding least_multiple
inner-layout = refl

-- struct{uint8,uint128}
pub wide-layout : layout (struct_of (scalar u8 ∷ scalar u128 ∷ [])) ≡ record { size = 32; align = 16; leaves = record { at = 0; kind = u8 } ∷ record { at = 16; kind = u128 } ∷ [] }
unfolding least_multiple
wide-layout = refl

-- struct{sint128,struct{double,uint128},sint8}
pub wide_nested-layout : layout (struct_of (scalar s128 ∷ struct_of (scalar double ∷ scalar u128 ∷ []) ∷ scalar s8 ∷ [])) ≡ record { size = 64; align = 16; leaves = record { at = 0; kind = s128 } ∷ record { at = 16; kind = double } ∷ record { at = 32; kind = u128 } ∷ record { at = 48; kind = s8 } ∷ [] }
unfolding least_multiple
wide_nested-layout = refl

-- the words of the 128-bit integers are no words of version 1
pub wide_named : type_named 2 (codes "uint128") ≡ Some (scalar u128)
unfolding type_named
wide_named = refl

pub wide_named_signed : type_named 2 (codes "sint128") ≡ Some (scalar s128)
unfolding type_named
wide_named_signed = refl

pub narrow_named : type_named 2 (codes "slong") ≡ Some (scalar s64)
unfolding type_named
narrow_named = refl

pub not_in_version_1 : type_named 1 (codes "uint128") ≡ None
unfolding type_named
not_in_version_1 = refl

pub signed_not_in_version_1 : type_named 1 (codes "sint128") ≡ None
unfolding type_named
signed_not_in_version_1 = refl
