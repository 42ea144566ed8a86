-- No state of the wide reading alone is dead.
use Rattle.std.proofs.Common.{◌≡◌, false, refl}
use Rattle.ffi3_cdecl_spec.specs.Machine.{is_dead}
use Rattle.ffi3_cdecl.specs.StateOf.{wide_of}
use Rattle.ffi3_cdecl.specs.declared.state.Wide.{Wide}
use Rattle.ffi3_cdecl.specs.declared.state.Wide.TheVariants as w

pub wide_lives : (x : Wide) → false ≡ is_dead (wide_of x)
wide_lives (w.AfterWords said at) = refl
wide_lives (w.AfterStructTag at) = refl
wide_lives (w.WantsTag at) = refl
wide_lives (w.Declarator k o at) = refl
wide_lives (w.RoundOpened k o at) = refl
wide_lives (w.FunctionNamed called t o) = refl
wide_lives (w.Closing o d) = refl
wide_lives (w.ParameterItself k n head ts) = refl
wide_lives (w.InnerNothing n u) = refl
wide_lives (w.MemberAt b ts at) = refl
wide_lives (w.MemberBound b ts at) = refl
wide_lives (w.MemberBounded b ts at) = refl
wide_lives (w.Settled u) = refl
wide_lives (w.SquareOpened u) = refl
wide_lives (w.SquareFilled u) = refl
wide_lives (w.ListOpened u) = refl
wide_lives (w.ListVoid u) = refl
wide_lives (w.ListComma u) = refl
wide_lives (w.ListDots u) = refl
wide_lives (w.Dots head ts) = refl
