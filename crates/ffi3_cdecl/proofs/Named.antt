-- What words of a type name, as they stand.
use Rattle.std.proofs.Common.{◌≡◌, Bool, true, false, Option, Some, None, ap, sym, subst, refl, ◌∙◌}
use Rattle.ffi3_type_spec.specs.Tree.{scalar, s32, left_out, float, double, long_double, complex}
use Rattle.ffi3_types.specs.TreeOf.{tree_of}
use Rattle.ffi3_types.specs.declared.FfiType.{FfiType}
use Rattle.ffi3_cdecl_spec.specs.Tokens as cut
use Rattle.ffi3_cdecl_spec.specs.Grammar.{Kind, whole, named_by, complex_of, char_of, short_of, int_of, long_of, int128_of}
use Rattle.ffi3_cdecl_spec.specs.Machine.{of_no_size, said_short, said_long, said_long_long, an_integer, a_character, of_128_bits, a_float, a_double, a_complex, words_of}
use Rattle.ffi3_cdecl.specs.TokenOf.{sign_of}
use Rattle.ffi3_cdecl.specs.SaidOf.{sign_by, sign_or_not, sign_said, size_of}
use Rattle.ffi3_cdecl.specs.declared.token.Sign.{Sign}
use Rattle.ffi3_cdecl.specs.declared.said.Size.{Size}
use Rattle.ffi3_cdecl.specs.declared.said.Size.TheVariants.{No, Short, Long, LongLong}

pub nothing_said : (g : Option Sign) (i : Bool) → g ≡ None → i ≡ false → None ≡ named_by (words_of (an_integer (sign_or_not g) of_no_size i))
nothing_said g i eg ei =
    subst (λ o. None ≡ named_by (words_of (an_integer (sign_or_not o) of_no_size i))) (sym eg) (subst (λ b. None ≡ named_by (words_of (an_integer None of_no_size b))) (sym ei) refl)

pub int_said : (g : Option Sign) (i : Bool) → g ≡ None → i ≡ true → Some (whole (scalar s32)) ≡ named_by (words_of (an_integer (sign_or_not g) of_no_size i))
int_said g i eg ei =
    subst (λ o. Some (whole (scalar s32)) ≡ named_by (words_of (an_integer (sign_or_not o) of_no_size i))) (sym eg) (subst (λ b. Some (whole (scalar s32)) ≡ named_by (words_of (an_integer None of_no_size b))) (sym ei) refl)

sign_alone-is : (h : cut.Sign) (i : Bool) → Some (whole (scalar (int_of h))) ≡ named_by (words_of (an_integer (Some h) of_no_size i))
sign_alone-is cut.signed true = refl
sign_alone-is cut.signed false = refl
sign_alone-is cut.unsigned true = refl
sign_alone-is cut.unsigned false = refl

pub sign_alone : (g : Option Sign) (h : Sign) (i : Bool) (t : FfiType) → g ≡ Some h → tree_of t ≡ scalar (int_of (sign_of h)) → Some (whole (tree_of t)) ≡ named_by (words_of (an_integer (sign_or_not g) of_no_size i))
sign_alone g h i t eg et =
    ap (λ t. Some (whole t)) et ∙ sign_alone-is (sign_of h) i ∙ ap (λ o. named_by (words_of (an_integer (sign_or_not o) of_no_size i))) (sym eg)

pub no_size : (g : Option Sign) (z : Size) (i : Bool) (k : Option Kind) → z ≡ No → k ≡ named_by (words_of (an_integer (sign_or_not g) of_no_size i)) → k ≡ named_by (words_of (an_integer (sign_or_not g) (size_of z) i))
no_size g z i k ez e =
    e ∙ ap (λ y. named_by (words_of (an_integer (sign_or_not g) (size_of y) i))) (sym ez)

a_short-is : (g : Option cut.Sign) (i : Bool) → Some (whole (scalar (short_of (sign_said g)))) ≡ named_by (words_of (an_integer g said_short i))
a_short-is None true = refl
a_short-is None false = refl
a_short-is (Some cut.signed) true = refl
a_short-is (Some cut.signed) false = refl
a_short-is (Some cut.unsigned) true = refl
a_short-is (Some cut.unsigned) false = refl

pub a_short : (g : Option Sign) (z : Size) (i : Bool) (h : Sign) (t : FfiType) → z ≡ Short → sign_of h ≡ sign_said (sign_or_not g) → tree_of t ≡ scalar (short_of (sign_of h)) → Some (whole (tree_of t)) ≡ named_by (words_of (an_integer (sign_or_not g) (size_of z) i))
a_short g z i h t ez eh et =
    ap (λ t. Some (whole t)) et ∙ ap (λ h. Some (whole (scalar (short_of h)))) eh ∙ a_short-is (sign_or_not g) i ∙ ap (λ y. named_by (words_of (an_integer (sign_or_not g) (size_of y) i))) (sym ez)

a_long-is : (g : Option cut.Sign) (i : Bool) → Some (whole (scalar (long_of (sign_said g)))) ≡ named_by (words_of (an_integer g said_long i))
a_long-is None true = refl
a_long-is None false = refl
a_long-is (Some cut.signed) true = refl
a_long-is (Some cut.signed) false = refl
a_long-is (Some cut.unsigned) true = refl
a_long-is (Some cut.unsigned) false = refl

pub a_long : (g : Option Sign) (z : Size) (i : Bool) (h : Sign) (t : FfiType) → z ≡ Long → sign_of h ≡ sign_said (sign_or_not g) → tree_of t ≡ scalar (long_of (sign_of h)) → Some (whole (tree_of t)) ≡ named_by (words_of (an_integer (sign_or_not g) (size_of z) i))
a_long g z i h t ez eh et =
    ap (λ t. Some (whole t)) et ∙ ap (λ h. Some (whole (scalar (long_of h)))) eh ∙ a_long-is (sign_or_not g) i ∙ ap (λ y. named_by (words_of (an_integer (sign_or_not g) (size_of y) i))) (sym ez)

a_long_long-is : (g : Option cut.Sign) (i : Bool) → Some (whole (scalar (long_of (sign_said g)))) ≡ named_by (words_of (an_integer g said_long_long i))
a_long_long-is None true = refl
a_long_long-is None false = refl
a_long_long-is (Some cut.signed) true = refl
a_long_long-is (Some cut.signed) false = refl
a_long_long-is (Some cut.unsigned) true = refl
a_long_long-is (Some cut.unsigned) false = refl

pub a_long_long : (g : Option Sign) (z : Size) (i : Bool) (h : Sign) (t : FfiType) → z ≡ LongLong → sign_of h ≡ sign_said (sign_or_not g) → tree_of t ≡ scalar (long_of (sign_of h)) → Some (whole (tree_of t)) ≡ named_by (words_of (an_integer (sign_or_not g) (size_of z) i))
a_long_long g z i h t ez eh et =
    ap (λ t. Some (whole t)) et ∙ ap (λ h. Some (whole (scalar (long_of h)))) eh ∙ a_long_long-is (sign_or_not g) i ∙ ap (λ y. named_by (words_of (an_integer (sign_or_not g) (size_of y) i))) (sym ez)

a_char-is : (c : cut.Sign) (g : Option cut.Sign) → Some (whole (scalar (char_of (sign_by c g)))) ≡ named_by (words_of (a_character c g))
a_char-is cut.signed None = refl
a_char-is cut.signed (Some cut.signed) = refl
a_char-is cut.signed (Some cut.unsigned) = refl
a_char-is cut.unsigned None = refl
a_char-is cut.unsigned (Some cut.signed) = refl
a_char-is cut.unsigned (Some cut.unsigned) = refl

pub a_char : (c : Sign) (g : Option Sign) (h : Sign) (t : FfiType) → sign_of h ≡ sign_by (sign_of c) (sign_or_not g) → tree_of t ≡ scalar (char_of (sign_of h)) → Some (whole (tree_of t)) ≡ named_by (words_of (a_character (sign_of c) (sign_or_not g)))
a_char c g h t eh et =
    ap (λ t. Some (whole t)) et ∙ ap (λ h. Some (whole (scalar (char_of h)))) eh ∙ a_char-is (sign_of c) (sign_or_not g)

an_int128-is : (g : Option cut.Sign) → Some (whole (scalar (int128_of (sign_said g)))) ≡ named_by (words_of (of_128_bits g))
an_int128-is None = refl
an_int128-is (Some cut.signed) = refl
an_int128-is (Some cut.unsigned) = refl

pub an_int128 : (g : Option Sign) (h : Sign) (t : FfiType) → sign_of h ≡ sign_said (sign_or_not g) → tree_of t ≡ scalar (int128_of (sign_of h)) → Some (whole (tree_of t)) ≡ named_by (words_of (of_128_bits (sign_or_not g)))
an_int128 g h t eh et =
    ap (λ t. Some (whole t)) et ∙ ap (λ h. Some (whole (scalar (int128_of h)))) eh ∙ an_int128-is (sign_or_not g)

pub float_alone : (c : Bool) → c ≡ false → Some (whole (scalar float)) ≡ named_by (words_of (a_float c))
float_alone c e =
    subst (λ b. Some (whole (scalar float)) ≡ named_by (words_of (a_float b))) (sym e) refl

pub float_complex : (c : Bool) (t : FfiType) → c ≡ true → tree_of t ≡ complex_of float → Some (whole (tree_of t)) ≡ named_by (words_of (a_float c))
float_complex c t e et =
    ap (λ t. Some (whole t)) et ∙ subst (λ b. Some (whole (complex_of float)) ≡ named_by (words_of (a_float b))) (sym e) refl

pub double_alone : (l c : Bool) → l ≡ false → c ≡ false → Some (whole (scalar double)) ≡ named_by (words_of (a_double l c))
double_alone l c el ec =
    subst (λ a. Some (whole (scalar double)) ≡ named_by (words_of (a_double a c))) (sym el) (subst (λ b. Some (whole (scalar double)) ≡ named_by (words_of (a_double false b))) (sym ec) refl)

pub double_complex : (l c : Bool) (t : FfiType) → l ≡ false → c ≡ true → tree_of t ≡ complex_of double → Some (whole (tree_of t)) ≡ named_by (words_of (a_double l c))
double_complex l c t el ec et =
    ap (λ t. Some (whole t)) et ∙ subst (λ a. Some (whole (complex_of double)) ≡ named_by (words_of (a_double a c))) (sym el) (subst (λ b. Some (whole (complex_of double)) ≡ named_by (words_of (a_double false b))) (sym ec) refl)

pub long_double_alone : (l c : Bool) → l ≡ true → c ≡ false → Some (whole (left_out long_double)) ≡ named_by (words_of (a_double l c))
long_double_alone l c el ec =
    subst (λ a. Some (whole (left_out long_double)) ≡ named_by (words_of (a_double a c))) (sym el) (subst (λ b. Some (whole (left_out long_double)) ≡ named_by (words_of (a_double true b))) (sym ec) refl)

pub long_double_complex : (l c : Bool) → l ≡ true → c ≡ true → Some (whole (left_out complex)) ≡ named_by (words_of (a_double l c))
long_double_complex l c el ec =
    subst (λ a. Some (whole (left_out complex)) ≡ named_by (words_of (a_double a c))) (sym el) (subst (λ b. Some (whole (left_out complex)) ≡ named_by (words_of (a_double true b))) (sym ec) refl)

pub complex_alone : (l : Bool) → None ≡ named_by (words_of (a_complex l))
complex_alone true = refl
complex_alone false = refl
