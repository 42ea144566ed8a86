-- Types that are one of the scalars.
use Rattle.std.proofs.Common.{◌≡◌, ◌⊎◌, inl, inr, refl, ap}
use Rattle.ffi3_type_spec.specs.Tree.{Tree, void, left_out, structure, array, Scalar, scalar, u8, s8, u16, s16, u32, s32, u64, s64, u128, s128, float, double, pointer, x87, binary128}
use Rattle.ffi3_types.specs.ScalarSize.{scalar_size_of}
use Rattle.ffi3_types.specs.TreeOf.{tree_of}
use Rattle.ffi3_types.specs.declared.FfiType.{FfiType}
use Rattle.ffi3_types.specs.declared.FfiType.TheVariants.{U8, S8, U16, S16, U32, S32, U64, S64, U128, S128, Float, Double, Pointer, X87, Binary128}

-- the type is one of the fifteen, as a match tells it
abbrev pub IsOneScalar : FfiType → Type 0
IsOneScalar t =
    (t ≡ U8) ⊎ ((t ≡ S8) ⊎ ((t ≡ U16) ⊎ ((t ≡ S16) ⊎ ((t ≡ U32) ⊎ ((t ≡ S32) ⊎ ((t ≡ U64) ⊎ ((t ≡ S64) ⊎ ((t ≡ U128) ⊎ ((t ≡ S128) ⊎ ((t ≡ Float) ⊎ ((t ≡ Double) ⊎ ((t ≡ Pointer) ⊎ ((t ≡ X87) ⊎ (t ≡ Binary128))))))))))))))

pub one_scalar : (t : FfiType) → IsOneScalar t → (s : Scalar) × (tree_of t ≡ scalar s)
one_scalar t (inl e) = (u8, ap tree_of e)
one_scalar t (inr (inl e)) = (s8, ap tree_of e)
one_scalar t (inr (inr (inl e))) = (u16, ap tree_of e)
one_scalar t (inr (inr (inr (inl e)))) = (s16, ap tree_of e)
one_scalar t (inr (inr (inr (inr (inl e))))) = (u32, ap tree_of e)
one_scalar t (inr (inr (inr (inr (inr (inl e)))))) = (s32, ap tree_of e)
one_scalar t (inr (inr (inr (inr (inr (inr (inl e))))))) = (u64, ap tree_of e)
one_scalar t (inr (inr (inr (inr (inr (inr (inr (inl e)))))))) = (s64, ap tree_of e)
one_scalar t (inr (inr (inr (inr (inr (inr (inr (inr (inl e))))))))) = (u128, ap tree_of e)
one_scalar t (inr (inr (inr (inr (inr (inr (inr (inr (inr (inl e)))))))))) = (s128, ap tree_of e)
one_scalar t (inr (inr (inr (inr (inr (inr (inr (inr (inr (inr (inl e))))))))))) = (float, ap tree_of e)
one_scalar t (inr (inr (inr (inr (inr (inr (inr (inr (inr (inr (inr (inl e)))))))))))) = (double, ap tree_of e)
one_scalar t (inr (inr (inr (inr (inr (inr (inr (inr (inr (inr (inr (inr (inl e))))))))))))) = (pointer, ap tree_of e)
one_scalar t (inr (inr (inr (inr (inr (inr (inr (inr (inr (inr (inr (inr (inr (inl e)))))))))))))) = (x87, ap tree_of e)
one_scalar t (inr (inr (inr (inr (inr (inr (inr (inr (inr (inr (inr (inr (inr (inr e)))))))))))))) = (binary128, ap tree_of e)

-- what has such a size is a scalar
pub sized_scalar : (t : Tree) → ¬ (scalar_size_of t ≡ 0) → (s : Scalar) × (t ≡ scalar s)
sized_scalar void h = absurd (h refl)
sized_scalar (scalar s) h = (s, refl)
sized_scalar (left_out k) h = absurd (h refl)
sized_scalar (structure ts) h = absurd (h refl)
sized_scalar (array ts n) h = absurd (h refl)
