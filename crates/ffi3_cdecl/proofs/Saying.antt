-- Words of a type, said one by one: what is said with one more.
use Rattle.std.proofs.Common.{◌≡◌, Bool, true, false, Option, Some, None, sym, subst, refl, true≢false}
use Rattle.ffi3_type_spec.specs.Tree.{float, double}
use Rattle.ffi3_cdecl_spec.specs.Tokens as cut
use Rattle.ffi3_cdecl_spec.specs.Tokens.{type_word, sign_word, short_word, int_word, long_word, int128_word, char_word, complex_word}
use Rattle.ffi3_cdecl_spec.specs.Machine as machine
use Rattle.ffi3_cdecl_spec.specs.Machine.{of_no_size, said_short, said_long, said_long_long, an_integer, a_character, of_128_bits, a_float, a_double, a_complex, integer_and, say}
use Rattle.ffi3_cdecl.specs.TokenOf.{sign_of}
use Rattle.ffi3_cdecl.specs.SaidOf.{sign_or_not, size_of}
use Rattle.ffi3_cdecl.specs.declared.token.Sign.{Sign}
use Rattle.ffi3_cdecl.specs.declared.said.Size.{Size}
use Rattle.ffi3_cdecl.specs.declared.said.Size.TheVariants.{No, Short, Long, LongLong}

sign_no_sign-is : (z : machine.Size) (i : Bool) (h : cut.Sign) → Some (an_integer (Some h) z i) ≡ integer_and None z i (sign_word h)
sign_no_sign-is of_no_size true h = refl
sign_no_sign-is of_no_size false h = refl
sign_no_sign-is said_short true h = refl
sign_no_sign-is said_short false h = refl
sign_no_sign-is said_long true h = refl
sign_no_sign-is said_long false h = refl
sign_no_sign-is said_long_long true h = refl
sign_no_sign-is said_long_long false h = refl

pub sign_no_sign : (g : Option Sign) (z : Size) (i : Bool) (h : Sign) → g ≡ None → Some (an_integer (Some (sign_of h)) (size_of z) i) ≡ integer_and (sign_or_not g) (size_of z) i (sign_word (sign_of h))
sign_no_sign g z i h eg =
    subst (λ o. Some (an_integer (Some (sign_of h)) (size_of z) i) ≡ integer_and (sign_or_not o) (size_of z) i (sign_word (sign_of h))) (sym eg) (sign_no_sign-is (size_of z) i (sign_of h))

sign_sign-is : (k : cut.Sign) (z : machine.Size) (i : Bool) (h : cut.Sign) → None ≡ integer_and (Some k) z i (sign_word h)
sign_sign-is k of_no_size true h = refl
sign_sign-is k of_no_size false h = refl
sign_sign-is k said_short true h = refl
sign_sign-is k said_short false h = refl
sign_sign-is k said_long true h = refl
sign_sign-is k said_long false h = refl
sign_sign-is k said_long_long true h = refl
sign_sign-is k said_long_long false h = refl

pub sign_sign : (g : Option Sign) (z : Size) (i : Bool) (k : Sign) (h : Sign) → g ≡ Some k → None ≡ integer_and (sign_or_not g) (size_of z) i (sign_word (sign_of h))
sign_sign g z i k h eg =
    subst (λ o. None ≡ integer_and (sign_or_not o) (size_of z) i (sign_word (sign_of h))) (sym eg) (sign_sign-is (sign_of k) (size_of z) i (sign_of h))

pub a_float_and_sign : (c : Bool) (h : Sign) → None ≡ say (a_float c) (sign_word (sign_of h))
a_float_and_sign true h = refl
a_float_and_sign false h = refl

pub a_double_and_sign : (l : Bool) (c : Bool) (h : Sign) → None ≡ say (a_double l c) (sign_word (sign_of h))
a_double_and_sign true true h = refl
a_double_and_sign true false h = refl
a_double_and_sign false true h = refl
a_double_and_sign false false h = refl

pub a_complex_and_sign : (l : Bool) (h : Sign) → None ≡ say (a_complex l) (sign_word (sign_of h))
a_complex_and_sign true h = refl
a_complex_and_sign false h = refl

short_no_size-is : (g : Option cut.Sign) (i : Bool) → Some (an_integer g said_short i) ≡ integer_and g of_no_size i short_word
short_no_size-is None true = refl
short_no_size-is None false = refl
short_no_size-is (Some k) true = refl
short_no_size-is (Some k) false = refl

pub short_no_size : (g : Option Sign) (z : Size) (i : Bool) → z ≡ No → Some (an_integer (sign_or_not g) said_short i) ≡ integer_and (sign_or_not g) (size_of z) i (short_word)
short_no_size g z i ez =
    subst (λ y. Some (an_integer (sign_or_not g) said_short i) ≡ integer_and (sign_or_not g) (size_of y) i (short_word)) (sym ez) (short_no_size-is (sign_or_not g) i)

short_short-is : (g : Option cut.Sign) (i : Bool) → None ≡ integer_and g said_short i short_word
short_short-is None true = refl
short_short-is None false = refl
short_short-is (Some k) true = refl
short_short-is (Some k) false = refl

pub short_short : (g : Option Sign) (z : Size) (i : Bool) → z ≡ Short → None ≡ integer_and (sign_or_not g) (size_of z) i (short_word)
short_short g z i ez =
    subst (λ y. None ≡ integer_and (sign_or_not g) (size_of y) i (short_word)) (sym ez) (short_short-is (sign_or_not g) i)

short_long-is : (g : Option cut.Sign) (i : Bool) → None ≡ integer_and g said_long i short_word
short_long-is None true = refl
short_long-is None false = refl
short_long-is (Some k) true = refl
short_long-is (Some k) false = refl

pub short_long : (g : Option Sign) (z : Size) (i : Bool) → z ≡ Long → None ≡ integer_and (sign_or_not g) (size_of z) i (short_word)
short_long g z i ez =
    subst (λ y. None ≡ integer_and (sign_or_not g) (size_of y) i (short_word)) (sym ez) (short_long-is (sign_or_not g) i)

short_long_long-is : (g : Option cut.Sign) (i : Bool) → None ≡ integer_and g said_long_long i short_word
short_long_long-is None true = refl
short_long_long-is None false = refl
short_long_long-is (Some k) true = refl
short_long_long-is (Some k) false = refl

pub short_long_long : (g : Option Sign) (z : Size) (i : Bool) → z ≡ LongLong → None ≡ integer_and (sign_or_not g) (size_of z) i (short_word)
short_long_long g z i ez =
    subst (λ y. None ≡ integer_and (sign_or_not g) (size_of y) i (short_word)) (sym ez) (short_long_long-is (sign_or_not g) i)

pub a_character_and_short : (c : cut.Sign) (g : Option cut.Sign) → None ≡ say (a_character c g) (short_word)
a_character_and_short c None = refl
a_character_and_short c (Some k) = refl

pub of_128_bits_and_short : (g : Option cut.Sign) → None ≡ say (of_128_bits g) (short_word)
of_128_bits_and_short None = refl
of_128_bits_and_short (Some k) = refl

pub a_float_and_short : (c : Bool) → None ≡ say (a_float c) (short_word)
a_float_and_short true = refl
a_float_and_short false = refl

pub a_double_and_short : (l : Bool) (c : Bool) → None ≡ say (a_double l c) (short_word)
a_double_and_short true true = refl
a_double_and_short true false = refl
a_double_and_short false true = refl
a_double_and_short false false = refl

pub a_complex_and_short : (l : Bool) → None ≡ say (a_complex l) (short_word)
a_complex_and_short true = refl
a_complex_and_short false = refl

int_with_int-is : (g : Option cut.Sign) (z : machine.Size) → None ≡ integer_and g z true int_word
int_with_int-is None of_no_size = refl
int_with_int-is None said_short = refl
int_with_int-is None said_long = refl
int_with_int-is None said_long_long = refl
int_with_int-is (Some k) of_no_size = refl
int_with_int-is (Some k) said_short = refl
int_with_int-is (Some k) said_long = refl
int_with_int-is (Some k) said_long_long = refl

pub int_with_int : (g : Option Sign) (z : Size) (i : Bool) → i ≡ true → None ≡ integer_and (sign_or_not g) (size_of z) i (int_word)
int_with_int g z i ei =
    subst (λ b. None ≡ integer_and (sign_or_not g) (size_of z) b (int_word)) (sym ei) (int_with_int-is (sign_or_not g) (size_of z))

int_no_int-is : (g : Option cut.Sign) (z : machine.Size) → Some (an_integer g z true) ≡ integer_and g z false int_word
int_no_int-is None of_no_size = refl
int_no_int-is None said_short = refl
int_no_int-is None said_long = refl
int_no_int-is None said_long_long = refl
int_no_int-is (Some k) of_no_size = refl
int_no_int-is (Some k) said_short = refl
int_no_int-is (Some k) said_long = refl
int_no_int-is (Some k) said_long_long = refl

pub int_no_int : (g : Option Sign) (z : Size) (i : Bool) → i ≡ false → Some (an_integer (sign_or_not g) (size_of z) true) ≡ integer_and (sign_or_not g) (size_of z) i (int_word)
int_no_int g z i ei =
    subst (λ b. Some (an_integer (sign_or_not g) (size_of z) true) ≡ integer_and (sign_or_not g) (size_of z) b (int_word)) (sym ei) (int_no_int-is (sign_or_not g) (size_of z))

pub a_character_and_int : (c : cut.Sign) (g : Option cut.Sign) → None ≡ say (a_character c g) (int_word)
a_character_and_int c None = refl
a_character_and_int c (Some k) = refl

pub of_128_bits_and_int : (g : Option cut.Sign) → None ≡ say (of_128_bits g) (int_word)
of_128_bits_and_int None = refl
of_128_bits_and_int (Some k) = refl

pub a_float_and_int : (c : Bool) → None ≡ say (a_float c) (int_word)
a_float_and_int true = refl
a_float_and_int false = refl

pub a_double_and_int : (l : Bool) (c : Bool) → None ≡ say (a_double l c) (int_word)
a_double_and_int true true = refl
a_double_and_int true false = refl
a_double_and_int false true = refl
a_double_and_int false false = refl

pub a_complex_and_int : (l : Bool) → None ≡ say (a_complex l) (int_word)
a_complex_and_int true = refl
a_complex_and_int false = refl

long_no_size-is : (g : Option cut.Sign) (i : Bool) → Some (an_integer g said_long i) ≡ integer_and g of_no_size i long_word
long_no_size-is None true = refl
long_no_size-is None false = refl
long_no_size-is (Some k) true = refl
long_no_size-is (Some k) false = refl

pub long_no_size : (g : Option Sign) (z : Size) (i : Bool) → z ≡ No → Some (an_integer (sign_or_not g) said_long i) ≡ integer_and (sign_or_not g) (size_of z) i (long_word)
long_no_size g z i ez =
    subst (λ y. Some (an_integer (sign_or_not g) said_long i) ≡ integer_and (sign_or_not g) (size_of y) i (long_word)) (sym ez) (long_no_size-is (sign_or_not g) i)

long_short-is : (g : Option cut.Sign) (i : Bool) → None ≡ integer_and g said_short i long_word
long_short-is None true = refl
long_short-is None false = refl
long_short-is (Some k) true = refl
long_short-is (Some k) false = refl

pub long_short : (g : Option Sign) (z : Size) (i : Bool) → z ≡ Short → None ≡ integer_and (sign_or_not g) (size_of z) i (long_word)
long_short g z i ez =
    subst (λ y. None ≡ integer_and (sign_or_not g) (size_of y) i (long_word)) (sym ez) (long_short-is (sign_or_not g) i)

long_long-is : (g : Option cut.Sign) (i : Bool) → Some (an_integer g said_long_long i) ≡ integer_and g said_long i long_word
long_long-is None true = refl
long_long-is None false = refl
long_long-is (Some k) true = refl
long_long-is (Some k) false = refl

pub long_long : (g : Option Sign) (z : Size) (i : Bool) → z ≡ Long → Some (an_integer (sign_or_not g) said_long_long i) ≡ integer_and (sign_or_not g) (size_of z) i (long_word)
long_long g z i ez =
    subst (λ y. Some (an_integer (sign_or_not g) said_long_long i) ≡ integer_and (sign_or_not g) (size_of y) i (long_word)) (sym ez) (long_long-is (sign_or_not g) i)

long_long_long-is : (g : Option cut.Sign) (i : Bool) → None ≡ integer_and g said_long_long i long_word
long_long_long-is None true = refl
long_long_long-is None false = refl
long_long_long-is (Some k) true = refl
long_long_long-is (Some k) false = refl

pub long_long_long : (g : Option Sign) (z : Size) (i : Bool) → z ≡ LongLong → None ≡ integer_and (sign_or_not g) (size_of z) i (long_word)
long_long_long g z i ez =
    subst (λ y. None ≡ integer_and (sign_or_not g) (size_of y) i (long_word)) (sym ez) (long_long_long-is (sign_or_not g) i)

pub a_character_and_long : (c : cut.Sign) (g : Option cut.Sign) → None ≡ say (a_character c g) (long_word)
a_character_and_long c None = refl
a_character_and_long c (Some k) = refl

pub of_128_bits_and_long : (g : Option cut.Sign) → None ≡ say (of_128_bits g) (long_word)
of_128_bits_and_long None = refl
of_128_bits_and_long (Some k) = refl

pub a_float_and_long : (c : Bool) → None ≡ say (a_float c) (long_word)
a_float_and_long true = refl
a_float_and_long false = refl

pub a_double_and_long_l_yes : (l : Bool) (c : Bool) → l ≡ true → None ≡ say (a_double l c) (long_word)
a_double_and_long_l_yes true true el = refl
a_double_and_long_l_yes true false el = refl
a_double_and_long_l_yes false true el = absurd (true≢false (sym el))
a_double_and_long_l_yes false false el = absurd (true≢false (sym el))

pub a_double_and_long_l_no : (l : Bool) (c : Bool) → l ≡ false → Some (a_double true c) ≡ say (a_double l c) (long_word)
a_double_and_long_l_no true true el = absurd (true≢false el)
a_double_and_long_l_no true false el = absurd (true≢false el)
a_double_and_long_l_no false true el = refl
a_double_and_long_l_no false false el = refl

pub a_complex_and_long_l_yes : (l : Bool) → l ≡ true → None ≡ say (a_complex l) (long_word)
a_complex_and_long_l_yes true el = refl
a_complex_and_long_l_yes false el = absurd (true≢false (sym el))

pub a_complex_and_long_l_no : (l : Bool) → l ≡ false → Some (a_complex true) ≡ say (a_complex l) (long_word)
a_complex_and_long_l_no true el = absurd (true≢false el)
a_complex_and_long_l_no false el = refl

int128_no_size_with_int-is : (g : Option cut.Sign) → None ≡ integer_and g of_no_size true int128_word
int128_no_size_with_int-is None = refl
int128_no_size_with_int-is (Some k) = refl

pub int128_no_size_with_int : (g : Option Sign) (z : Size) (i : Bool) → z ≡ No → i ≡ true → None ≡ integer_and (sign_or_not g) (size_of z) i (int128_word)
int128_no_size_with_int g z i ez ei =
    subst (λ b. None ≡ integer_and (sign_or_not g) (size_of z) b (int128_word)) (sym ei) (subst (λ y. None ≡ integer_and (sign_or_not g) (size_of y) true (int128_word)) (sym ez) (int128_no_size_with_int-is (sign_or_not g)))

int128_no_size_no_int-is : (g : Option cut.Sign) → Some (of_128_bits g) ≡ integer_and g of_no_size false int128_word
int128_no_size_no_int-is None = refl
int128_no_size_no_int-is (Some k) = refl

pub int128_no_size_no_int : (g : Option Sign) (z : Size) (i : Bool) → z ≡ No → i ≡ false → Some (of_128_bits (sign_or_not g)) ≡ integer_and (sign_or_not g) (size_of z) i (int128_word)
int128_no_size_no_int g z i ez ei =
    subst (λ b. Some (of_128_bits (sign_or_not g)) ≡ integer_and (sign_or_not g) (size_of z) b (int128_word)) (sym ei) (subst (λ y. Some (of_128_bits (sign_or_not g)) ≡ integer_and (sign_or_not g) (size_of y) false (int128_word)) (sym ez) (int128_no_size_no_int-is (sign_or_not g)))

int128_short-is : (g : Option cut.Sign) (i : Bool) → None ≡ integer_and g said_short i int128_word
int128_short-is None true = refl
int128_short-is None false = refl
int128_short-is (Some k) true = refl
int128_short-is (Some k) false = refl

pub int128_short : (g : Option Sign) (z : Size) (i : Bool) → z ≡ Short → None ≡ integer_and (sign_or_not g) (size_of z) i (int128_word)
int128_short g z i ez =
    subst (λ y. None ≡ integer_and (sign_or_not g) (size_of y) i (int128_word)) (sym ez) (int128_short-is (sign_or_not g) i)

int128_long-is : (g : Option cut.Sign) (i : Bool) → None ≡ integer_and g said_long i int128_word
int128_long-is None true = refl
int128_long-is None false = refl
int128_long-is (Some k) true = refl
int128_long-is (Some k) false = refl

pub int128_long : (g : Option Sign) (z : Size) (i : Bool) → z ≡ Long → None ≡ integer_and (sign_or_not g) (size_of z) i (int128_word)
int128_long g z i ez =
    subst (λ y. None ≡ integer_and (sign_or_not g) (size_of y) i (int128_word)) (sym ez) (int128_long-is (sign_or_not g) i)

int128_long_long-is : (g : Option cut.Sign) (i : Bool) → None ≡ integer_and g said_long_long i int128_word
int128_long_long-is None true = refl
int128_long_long-is None false = refl
int128_long_long-is (Some k) true = refl
int128_long_long-is (Some k) false = refl

pub int128_long_long : (g : Option Sign) (z : Size) (i : Bool) → z ≡ LongLong → None ≡ integer_and (sign_or_not g) (size_of z) i (int128_word)
int128_long_long g z i ez =
    subst (λ y. None ≡ integer_and (sign_or_not g) (size_of y) i (int128_word)) (sym ez) (int128_long_long-is (sign_or_not g) i)

pub a_character_and_int128 : (c : cut.Sign) (g : Option cut.Sign) → None ≡ say (a_character c g) (int128_word)
a_character_and_int128 c None = refl
a_character_and_int128 c (Some k) = refl

pub of_128_bits_and_int128 : (g : Option cut.Sign) → None ≡ say (of_128_bits g) (int128_word)
of_128_bits_and_int128 None = refl
of_128_bits_and_int128 (Some k) = refl

pub a_float_and_int128 : (c : Bool) → None ≡ say (a_float c) (int128_word)
a_float_and_int128 true = refl
a_float_and_int128 false = refl

pub a_double_and_int128 : (l : Bool) (c : Bool) → None ≡ say (a_double l c) (int128_word)
a_double_and_int128 true true = refl
a_double_and_int128 true false = refl
a_double_and_int128 false true = refl
a_double_and_int128 false false = refl

pub a_complex_and_int128 : (l : Bool) → None ≡ say (a_complex l) (int128_word)
a_complex_and_int128 true = refl
a_complex_and_int128 false = refl

char_no_size_with_int-is : (g : Option cut.Sign) (h : cut.Sign) → None ≡ integer_and g of_no_size true (char_word h)
char_no_size_with_int-is None h = refl
char_no_size_with_int-is (Some k) h = refl

pub char_no_size_with_int : (g : Option Sign) (z : Size) (i : Bool) (h : Sign) → z ≡ No → i ≡ true → None ≡ integer_and (sign_or_not g) (size_of z) i (char_word (sign_of h))
char_no_size_with_int g z i h ez ei =
    subst (λ b. None ≡ integer_and (sign_or_not g) (size_of z) b (char_word (sign_of h))) (sym ei) (subst (λ y. None ≡ integer_and (sign_or_not g) (size_of y) true (char_word (sign_of h))) (sym ez) (char_no_size_with_int-is (sign_or_not g) (sign_of h)))

char_no_size_no_int-is : (g : Option cut.Sign) (h : cut.Sign) → Some (a_character h g) ≡ integer_and g of_no_size false (char_word h)
char_no_size_no_int-is None h = refl
char_no_size_no_int-is (Some k) h = refl

pub char_no_size_no_int : (g : Option Sign) (z : Size) (i : Bool) (h : Sign) → z ≡ No → i ≡ false → Some (a_character (sign_of h) (sign_or_not g)) ≡ integer_and (sign_or_not g) (size_of z) i (char_word (sign_of h))
char_no_size_no_int g z i h ez ei =
    subst (λ b. Some (a_character (sign_of h) (sign_or_not g)) ≡ integer_and (sign_or_not g) (size_of z) b (char_word (sign_of h))) (sym ei) (subst (λ y. Some (a_character (sign_of h) (sign_or_not g)) ≡ integer_and (sign_or_not g) (size_of y) false (char_word (sign_of h))) (sym ez) (char_no_size_no_int-is (sign_or_not g) (sign_of h)))

char_short-is : (g : Option cut.Sign) (i : Bool) (h : cut.Sign) → None ≡ integer_and g said_short i (char_word h)
char_short-is None true h = refl
char_short-is None false h = refl
char_short-is (Some k) true h = refl
char_short-is (Some k) false h = refl

pub char_short : (g : Option Sign) (z : Size) (i : Bool) (h : Sign) → z ≡ Short → None ≡ integer_and (sign_or_not g) (size_of z) i (char_word (sign_of h))
char_short g z i h ez =
    subst (λ y. None ≡ integer_and (sign_or_not g) (size_of y) i (char_word (sign_of h))) (sym ez) (char_short-is (sign_or_not g) i (sign_of h))

char_long-is : (g : Option cut.Sign) (i : Bool) (h : cut.Sign) → None ≡ integer_and g said_long i (char_word h)
char_long-is None true h = refl
char_long-is None false h = refl
char_long-is (Some k) true h = refl
char_long-is (Some k) false h = refl

pub char_long : (g : Option Sign) (z : Size) (i : Bool) (h : Sign) → z ≡ Long → None ≡ integer_and (sign_or_not g) (size_of z) i (char_word (sign_of h))
char_long g z i h ez =
    subst (λ y. None ≡ integer_and (sign_or_not g) (size_of y) i (char_word (sign_of h))) (sym ez) (char_long-is (sign_or_not g) i (sign_of h))

char_long_long-is : (g : Option cut.Sign) (i : Bool) (h : cut.Sign) → None ≡ integer_and g said_long_long i (char_word h)
char_long_long-is None true h = refl
char_long_long-is None false h = refl
char_long_long-is (Some k) true h = refl
char_long_long-is (Some k) false h = refl

pub char_long_long : (g : Option Sign) (z : Size) (i : Bool) (h : Sign) → z ≡ LongLong → None ≡ integer_and (sign_or_not g) (size_of z) i (char_word (sign_of h))
char_long_long g z i h ez =
    subst (λ y. None ≡ integer_and (sign_or_not g) (size_of y) i (char_word (sign_of h))) (sym ez) (char_long_long-is (sign_or_not g) i (sign_of h))

pub a_character_and_char : (c : cut.Sign) (g : Option cut.Sign) (h : Sign) → None ≡ say (a_character c g) (char_word (sign_of h))
a_character_and_char c None h = refl
a_character_and_char c (Some k) h = refl

pub of_128_bits_and_char : (g : Option cut.Sign) (h : Sign) → None ≡ say (of_128_bits g) (char_word (sign_of h))
of_128_bits_and_char None h = refl
of_128_bits_and_char (Some k) h = refl

pub a_float_and_char : (c : Bool) (h : Sign) → None ≡ say (a_float c) (char_word (sign_of h))
a_float_and_char true h = refl
a_float_and_char false h = refl

pub a_double_and_char : (l : Bool) (c : Bool) (h : Sign) → None ≡ say (a_double l c) (char_word (sign_of h))
a_double_and_char true true h = refl
a_double_and_char true false h = refl
a_double_and_char false true h = refl
a_double_and_char false false h = refl

pub a_complex_and_char : (l : Bool) (h : Sign) → None ≡ say (a_complex l) (char_word (sign_of h))
a_complex_and_char true h = refl
a_complex_and_char false h = refl

float_no_sign_no_size_with_int-is : None ≡ integer_and None of_no_size true (type_word float)
float_no_sign_no_size_with_int-is = refl

pub float_no_sign_no_size_with_int : (g : Option Sign) (z : Size) (i : Bool) → g ≡ None → z ≡ No → i ≡ true → None ≡ integer_and (sign_or_not g) (size_of z) i (type_word float)
float_no_sign_no_size_with_int g z i eg ez ei =
    subst (λ b. None ≡ integer_and (sign_or_not g) (size_of z) b (type_word float)) (sym ei) (subst (λ y. None ≡ integer_and (sign_or_not g) (size_of y) true (type_word float)) (sym ez) (subst (λ o. None ≡ integer_and (sign_or_not o) (of_no_size) true (type_word float)) (sym eg) (float_no_sign_no_size_with_int-is)))

float_no_sign_no_size_no_int-is : Some (a_float false) ≡ integer_and None of_no_size false (type_word float)
float_no_sign_no_size_no_int-is = refl

pub float_no_sign_no_size_no_int : (g : Option Sign) (z : Size) (i : Bool) → g ≡ None → z ≡ No → i ≡ false → Some (a_float false) ≡ integer_and (sign_or_not g) (size_of z) i (type_word float)
float_no_sign_no_size_no_int g z i eg ez ei =
    subst (λ b. Some (a_float false) ≡ integer_and (sign_or_not g) (size_of z) b (type_word float)) (sym ei) (subst (λ y. Some (a_float false) ≡ integer_and (sign_or_not g) (size_of y) false (type_word float)) (sym ez) (subst (λ o. Some (a_float false) ≡ integer_and (sign_or_not o) (of_no_size) false (type_word float)) (sym eg) (float_no_sign_no_size_no_int-is)))

float_no_sign_short-is : (i : Bool) → None ≡ integer_and None said_short i (type_word float)
float_no_sign_short-is true = refl
float_no_sign_short-is false = refl

pub float_no_sign_short : (g : Option Sign) (z : Size) (i : Bool) → g ≡ None → z ≡ Short → None ≡ integer_and (sign_or_not g) (size_of z) i (type_word float)
float_no_sign_short g z i eg ez =
    subst (λ y. None ≡ integer_and (sign_or_not g) (size_of y) i (type_word float)) (sym ez) (subst (λ o. None ≡ integer_and (sign_or_not o) (said_short) i (type_word float)) (sym eg) (float_no_sign_short-is i))

float_no_sign_long-is : (i : Bool) → None ≡ integer_and None said_long i (type_word float)
float_no_sign_long-is true = refl
float_no_sign_long-is false = refl

pub float_no_sign_long : (g : Option Sign) (z : Size) (i : Bool) → g ≡ None → z ≡ Long → None ≡ integer_and (sign_or_not g) (size_of z) i (type_word float)
float_no_sign_long g z i eg ez =
    subst (λ y. None ≡ integer_and (sign_or_not g) (size_of y) i (type_word float)) (sym ez) (subst (λ o. None ≡ integer_and (sign_or_not o) (said_long) i (type_word float)) (sym eg) (float_no_sign_long-is i))

float_no_sign_long_long-is : (i : Bool) → None ≡ integer_and None said_long_long i (type_word float)
float_no_sign_long_long-is true = refl
float_no_sign_long_long-is false = refl

pub float_no_sign_long_long : (g : Option Sign) (z : Size) (i : Bool) → g ≡ None → z ≡ LongLong → None ≡ integer_and (sign_or_not g) (size_of z) i (type_word float)
float_no_sign_long_long g z i eg ez =
    subst (λ y. None ≡ integer_and (sign_or_not g) (size_of y) i (type_word float)) (sym ez) (subst (λ o. None ≡ integer_and (sign_or_not o) (said_long_long) i (type_word float)) (sym eg) (float_no_sign_long_long-is i))

float_sign-is : (k : cut.Sign) (z : machine.Size) (i : Bool) → None ≡ integer_and (Some k) z i (type_word float)
float_sign-is k of_no_size true = refl
float_sign-is k of_no_size false = refl
float_sign-is k said_short true = refl
float_sign-is k said_short false = refl
float_sign-is k said_long true = refl
float_sign-is k said_long false = refl
float_sign-is k said_long_long true = refl
float_sign-is k said_long_long false = refl

pub float_sign : (g : Option Sign) (z : Size) (i : Bool) (k : Sign) → g ≡ Some k → None ≡ integer_and (sign_or_not g) (size_of z) i (type_word float)
float_sign g z i k eg =
    subst (λ o. None ≡ integer_and (sign_or_not o) (size_of z) i (type_word float)) (sym eg) (float_sign-is (sign_of k) (size_of z) i)

pub a_character_and_float : (c : cut.Sign) (g : Option cut.Sign) → None ≡ say (a_character c g) (type_word float)
a_character_and_float c None = refl
a_character_and_float c (Some k) = refl

pub of_128_bits_and_float : (g : Option cut.Sign) → None ≡ say (of_128_bits g) (type_word float)
of_128_bits_and_float None = refl
of_128_bits_and_float (Some k) = refl

pub a_float_and_float : (c : Bool) → None ≡ say (a_float c) (type_word float)
a_float_and_float true = refl
a_float_and_float false = refl

pub a_double_and_float : (l : Bool) (c : Bool) → None ≡ say (a_double l c) (type_word float)
a_double_and_float true true = refl
a_double_and_float true false = refl
a_double_and_float false true = refl
a_double_and_float false false = refl

pub a_complex_and_float_l_yes : (l : Bool) → l ≡ true → None ≡ say (a_complex l) (type_word float)
a_complex_and_float_l_yes true el = refl
a_complex_and_float_l_yes false el = absurd (true≢false (sym el))

pub a_complex_and_float_l_no : (l : Bool) → l ≡ false → Some (a_float true) ≡ say (a_complex l) (type_word float)
a_complex_and_float_l_no true el = absurd (true≢false el)
a_complex_and_float_l_no false el = refl

double_no_sign_no_size_with_int-is : None ≡ integer_and None of_no_size true (type_word double)
double_no_sign_no_size_with_int-is = refl

pub double_no_sign_no_size_with_int : (g : Option Sign) (z : Size) (i : Bool) → g ≡ None → z ≡ No → i ≡ true → None ≡ integer_and (sign_or_not g) (size_of z) i (type_word double)
double_no_sign_no_size_with_int g z i eg ez ei =
    subst (λ b. None ≡ integer_and (sign_or_not g) (size_of z) b (type_word double)) (sym ei) (subst (λ y. None ≡ integer_and (sign_or_not g) (size_of y) true (type_word double)) (sym ez) (subst (λ o. None ≡ integer_and (sign_or_not o) (of_no_size) true (type_word double)) (sym eg) (double_no_sign_no_size_with_int-is)))

double_no_sign_no_size_no_int-is : Some (a_double false false) ≡ integer_and None of_no_size false (type_word double)
double_no_sign_no_size_no_int-is = refl

pub double_no_sign_no_size_no_int : (g : Option Sign) (z : Size) (i : Bool) → g ≡ None → z ≡ No → i ≡ false → Some (a_double false false) ≡ integer_and (sign_or_not g) (size_of z) i (type_word double)
double_no_sign_no_size_no_int g z i eg ez ei =
    subst (λ b. Some (a_double false false) ≡ integer_and (sign_or_not g) (size_of z) b (type_word double)) (sym ei) (subst (λ y. Some (a_double false false) ≡ integer_and (sign_or_not g) (size_of y) false (type_word double)) (sym ez) (subst (λ o. Some (a_double false false) ≡ integer_and (sign_or_not o) (of_no_size) false (type_word double)) (sym eg) (double_no_sign_no_size_no_int-is)))

double_no_sign_short-is : (i : Bool) → None ≡ integer_and None said_short i (type_word double)
double_no_sign_short-is true = refl
double_no_sign_short-is false = refl

pub double_no_sign_short : (g : Option Sign) (z : Size) (i : Bool) → g ≡ None → z ≡ Short → None ≡ integer_and (sign_or_not g) (size_of z) i (type_word double)
double_no_sign_short g z i eg ez =
    subst (λ y. None ≡ integer_and (sign_or_not g) (size_of y) i (type_word double)) (sym ez) (subst (λ o. None ≡ integer_and (sign_or_not o) (said_short) i (type_word double)) (sym eg) (double_no_sign_short-is i))

double_no_sign_long_with_int-is : None ≡ integer_and None said_long true (type_word double)
double_no_sign_long_with_int-is = refl

pub double_no_sign_long_with_int : (g : Option Sign) (z : Size) (i : Bool) → g ≡ None → z ≡ Long → i ≡ true → None ≡ integer_and (sign_or_not g) (size_of z) i (type_word double)
double_no_sign_long_with_int g z i eg ez ei =
    subst (λ b. None ≡ integer_and (sign_or_not g) (size_of z) b (type_word double)) (sym ei) (subst (λ y. None ≡ integer_and (sign_or_not g) (size_of y) true (type_word double)) (sym ez) (subst (λ o. None ≡ integer_and (sign_or_not o) (said_long) true (type_word double)) (sym eg) (double_no_sign_long_with_int-is)))

double_no_sign_long_no_int-is : Some (a_double true false) ≡ integer_and None said_long false (type_word double)
double_no_sign_long_no_int-is = refl

pub double_no_sign_long_no_int : (g : Option Sign) (z : Size) (i : Bool) → g ≡ None → z ≡ Long → i ≡ false → Some (a_double true false) ≡ integer_and (sign_or_not g) (size_of z) i (type_word double)
double_no_sign_long_no_int g z i eg ez ei =
    subst (λ b. Some (a_double true false) ≡ integer_and (sign_or_not g) (size_of z) b (type_word double)) (sym ei) (subst (λ y. Some (a_double true false) ≡ integer_and (sign_or_not g) (size_of y) false (type_word double)) (sym ez) (subst (λ o. Some (a_double true false) ≡ integer_and (sign_or_not o) (said_long) false (type_word double)) (sym eg) (double_no_sign_long_no_int-is)))

double_no_sign_long_long-is : (i : Bool) → None ≡ integer_and None said_long_long i (type_word double)
double_no_sign_long_long-is true = refl
double_no_sign_long_long-is false = refl

pub double_no_sign_long_long : (g : Option Sign) (z : Size) (i : Bool) → g ≡ None → z ≡ LongLong → None ≡ integer_and (sign_or_not g) (size_of z) i (type_word double)
double_no_sign_long_long g z i eg ez =
    subst (λ y. None ≡ integer_and (sign_or_not g) (size_of y) i (type_word double)) (sym ez) (subst (λ o. None ≡ integer_and (sign_or_not o) (said_long_long) i (type_word double)) (sym eg) (double_no_sign_long_long-is i))

double_sign-is : (k : cut.Sign) (z : machine.Size) (i : Bool) → None ≡ integer_and (Some k) z i (type_word double)
double_sign-is k of_no_size true = refl
double_sign-is k of_no_size false = refl
double_sign-is k said_short true = refl
double_sign-is k said_short false = refl
double_sign-is k said_long true = refl
double_sign-is k said_long false = refl
double_sign-is k said_long_long true = refl
double_sign-is k said_long_long false = refl

pub double_sign : (g : Option Sign) (z : Size) (i : Bool) (k : Sign) → g ≡ Some k → None ≡ integer_and (sign_or_not g) (size_of z) i (type_word double)
double_sign g z i k eg =
    subst (λ o. None ≡ integer_and (sign_or_not o) (size_of z) i (type_word double)) (sym eg) (double_sign-is (sign_of k) (size_of z) i)

pub a_character_and_double : (c : cut.Sign) (g : Option cut.Sign) → None ≡ say (a_character c g) (type_word double)
a_character_and_double c None = refl
a_character_and_double c (Some k) = refl

pub of_128_bits_and_double : (g : Option cut.Sign) → None ≡ say (of_128_bits g) (type_word double)
of_128_bits_and_double None = refl
of_128_bits_and_double (Some k) = refl

pub a_float_and_double : (c : Bool) → None ≡ say (a_float c) (type_word double)
a_float_and_double true = refl
a_float_and_double false = refl

pub a_double_and_double : (l : Bool) (c : Bool) → None ≡ say (a_double l c) (type_word double)
a_double_and_double true true = refl
a_double_and_double true false = refl
a_double_and_double false true = refl
a_double_and_double false false = refl

pub a_complex_and_double : (l : Bool) → Some (a_double l true) ≡ say (a_complex l) (type_word double)
a_complex_and_double true = refl
a_complex_and_double false = refl

complex_no_sign_no_size_with_int-is : None ≡ integer_and None of_no_size true complex_word
complex_no_sign_no_size_with_int-is = refl

pub complex_no_sign_no_size_with_int : (g : Option Sign) (z : Size) (i : Bool) → g ≡ None → z ≡ No → i ≡ true → None ≡ integer_and (sign_or_not g) (size_of z) i (complex_word)
complex_no_sign_no_size_with_int g z i eg ez ei =
    subst (λ b. None ≡ integer_and (sign_or_not g) (size_of z) b (complex_word)) (sym ei) (subst (λ y. None ≡ integer_and (sign_or_not g) (size_of y) true (complex_word)) (sym ez) (subst (λ o. None ≡ integer_and (sign_or_not o) (of_no_size) true (complex_word)) (sym eg) (complex_no_sign_no_size_with_int-is)))

complex_no_sign_no_size_no_int-is : Some (a_complex false) ≡ integer_and None of_no_size false complex_word
complex_no_sign_no_size_no_int-is = refl

pub complex_no_sign_no_size_no_int : (g : Option Sign) (z : Size) (i : Bool) → g ≡ None → z ≡ No → i ≡ false → Some (a_complex false) ≡ integer_and (sign_or_not g) (size_of z) i (complex_word)
complex_no_sign_no_size_no_int g z i eg ez ei =
    subst (λ b. Some (a_complex false) ≡ integer_and (sign_or_not g) (size_of z) b (complex_word)) (sym ei) (subst (λ y. Some (a_complex false) ≡ integer_and (sign_or_not g) (size_of y) false (complex_word)) (sym ez) (subst (λ o. Some (a_complex false) ≡ integer_and (sign_or_not o) (of_no_size) false (complex_word)) (sym eg) (complex_no_sign_no_size_no_int-is)))

complex_no_sign_short-is : (i : Bool) → None ≡ integer_and None said_short i complex_word
complex_no_sign_short-is true = refl
complex_no_sign_short-is false = refl

pub complex_no_sign_short : (g : Option Sign) (z : Size) (i : Bool) → g ≡ None → z ≡ Short → None ≡ integer_and (sign_or_not g) (size_of z) i (complex_word)
complex_no_sign_short g z i eg ez =
    subst (λ y. None ≡ integer_and (sign_or_not g) (size_of y) i (complex_word)) (sym ez) (subst (λ o. None ≡ integer_and (sign_or_not o) (said_short) i (complex_word)) (sym eg) (complex_no_sign_short-is i))

complex_no_sign_long_with_int-is : None ≡ integer_and None said_long true complex_word
complex_no_sign_long_with_int-is = refl

pub complex_no_sign_long_with_int : (g : Option Sign) (z : Size) (i : Bool) → g ≡ None → z ≡ Long → i ≡ true → None ≡ integer_and (sign_or_not g) (size_of z) i (complex_word)
complex_no_sign_long_with_int g z i eg ez ei =
    subst (λ b. None ≡ integer_and (sign_or_not g) (size_of z) b (complex_word)) (sym ei) (subst (λ y. None ≡ integer_and (sign_or_not g) (size_of y) true (complex_word)) (sym ez) (subst (λ o. None ≡ integer_and (sign_or_not o) (said_long) true (complex_word)) (sym eg) (complex_no_sign_long_with_int-is)))

complex_no_sign_long_no_int-is : Some (a_complex true) ≡ integer_and None said_long false complex_word
complex_no_sign_long_no_int-is = refl

pub complex_no_sign_long_no_int : (g : Option Sign) (z : Size) (i : Bool) → g ≡ None → z ≡ Long → i ≡ false → Some (a_complex true) ≡ integer_and (sign_or_not g) (size_of z) i (complex_word)
complex_no_sign_long_no_int g z i eg ez ei =
    subst (λ b. Some (a_complex true) ≡ integer_and (sign_or_not g) (size_of z) b (complex_word)) (sym ei) (subst (λ y. Some (a_complex true) ≡ integer_and (sign_or_not g) (size_of y) false (complex_word)) (sym ez) (subst (λ o. Some (a_complex true) ≡ integer_and (sign_or_not o) (said_long) false (complex_word)) (sym eg) (complex_no_sign_long_no_int-is)))

complex_no_sign_long_long-is : (i : Bool) → None ≡ integer_and None said_long_long i complex_word
complex_no_sign_long_long-is true = refl
complex_no_sign_long_long-is false = refl

pub complex_no_sign_long_long : (g : Option Sign) (z : Size) (i : Bool) → g ≡ None → z ≡ LongLong → None ≡ integer_and (sign_or_not g) (size_of z) i (complex_word)
complex_no_sign_long_long g z i eg ez =
    subst (λ y. None ≡ integer_and (sign_or_not g) (size_of y) i (complex_word)) (sym ez) (subst (λ o. None ≡ integer_and (sign_or_not o) (said_long_long) i (complex_word)) (sym eg) (complex_no_sign_long_long-is i))

complex_sign-is : (k : cut.Sign) (z : machine.Size) (i : Bool) → None ≡ integer_and (Some k) z i complex_word
complex_sign-is k of_no_size true = refl
complex_sign-is k of_no_size false = refl
complex_sign-is k said_short true = refl
complex_sign-is k said_short false = refl
complex_sign-is k said_long true = refl
complex_sign-is k said_long false = refl
complex_sign-is k said_long_long true = refl
complex_sign-is k said_long_long false = refl

pub complex_sign : (g : Option Sign) (z : Size) (i : Bool) (k : Sign) → g ≡ Some k → None ≡ integer_and (sign_or_not g) (size_of z) i (complex_word)
complex_sign g z i k eg =
    subst (λ o. None ≡ integer_and (sign_or_not o) (size_of z) i (complex_word)) (sym eg) (complex_sign-is (sign_of k) (size_of z) i)

pub a_character_and_complex : (c : cut.Sign) (g : Option cut.Sign) → None ≡ say (a_character c g) (complex_word)
a_character_and_complex c None = refl
a_character_and_complex c (Some k) = refl

pub of_128_bits_and_complex : (g : Option cut.Sign) → None ≡ say (of_128_bits g) (complex_word)
of_128_bits_and_complex None = refl
of_128_bits_and_complex (Some k) = refl

pub a_float_and_complex_c_yes : (c : Bool) → c ≡ true → None ≡ say (a_float c) (complex_word)
a_float_and_complex_c_yes true ec = refl
a_float_and_complex_c_yes false ec = absurd (true≢false (sym ec))

pub a_float_and_complex_c_no : (c : Bool) → c ≡ false → Some (a_float true) ≡ say (a_float c) (complex_word)
a_float_and_complex_c_no true ec = absurd (true≢false ec)
a_float_and_complex_c_no false ec = refl

pub a_double_and_complex_c_yes : (l : Bool) (c : Bool) → c ≡ true → None ≡ say (a_double l c) (complex_word)
a_double_and_complex_c_yes true true ec = refl
a_double_and_complex_c_yes true false ec = absurd (true≢false (sym ec))
a_double_and_complex_c_yes false true ec = refl
a_double_and_complex_c_yes false false ec = absurd (true≢false (sym ec))

pub a_double_and_complex_c_no : (l : Bool) (c : Bool) → c ≡ false → Some (a_double l true) ≡ say (a_double l c) (complex_word)
a_double_and_complex_c_no true true ec = absurd (true≢false ec)
a_double_and_complex_c_no true false ec = refl
a_double_and_complex_c_no false true ec = absurd (true≢false ec)
a_double_and_complex_c_no false false ec = refl

pub a_complex_and_complex : (l : Bool) → None ≡ say (a_complex l) (complex_word)
a_complex_and_complex true = refl
a_complex_and_complex false = refl
