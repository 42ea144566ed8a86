-- The type that a value has of its own, and the typed value that a Rust one stands for.
use Rattle.std.specs.Prelude.{ℕ, Option, option_and_then, slice_get}
use Rattle.ffi3_type_spec.specs.Tree.{Tree}
use Rattle.ffi3_types.specs.TreeOf.{tree_of}
use Rattle.ffi3_script_spec.specs.Script.{Typed}
use Rattle.ffi3_script_body.specs.ExprOf.{expression_of}
use Rattle.ffi3_script_body.specs.ListTypes.{element_types}
use Rattle.ffi3_script.specs.declared.own_type.OwnType.{OwnType}
use Rattle.ffi3_script.specs.declared.own_type.OwnType.TheVariants as one
use Rattle.ffi3_script.specs.declared.own_type.TypedValue.{TypedValue}

abbrev pub own_type_of : OwnType → Tree
own_type_of (one.Lent ty) = tree_of ty.now
own_type_of (one.Given ty) = tree_of ty

abbrev pub typed_value_of : TypedValue → Typed
typed_value_of v = record { type = own_type_of v.ty; value = expression_of v.value }

-- the type of an element of a struct or an array
abbrev pub element_at : Tree → ℕ → Option Tree
element_at t i = option_and_then (λ ts. slice_get ts i) (element_types t)
