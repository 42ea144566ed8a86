-- 128-bit integers and version 2 of the language: its faults, and values computed.
use Rattle.std.specs.Prelude.{◌≡◌, codes, refl}
use Rattle.ffi3_place_spec.specs.Standard.{Standard}
use Rattle.ffi3_script_spec.proofs.RowForms.{scripts_on_literals, tells, of_signature, in_main, print_of, in_2, is_in_2}

-- ---- the version

version_3 : tells (codes "{'main':0,'functions':0,'signatures':0,'version':3}") ≡ codes "/version: version not known"
unfolding scripts_on_literals
version_3 = refl

version_text : tells (codes "{'main':0,'functions':0,'signatures':0,'version':'2'}") ≡ codes "/version: version not known"
unfolding scripts_on_literals
version_text = refl

version_float : tells (codes "{'main':0,'functions':0,'signatures':0,'version':2.0}") ≡ codes "/version: version not known"
unfolding scripts_on_literals
version_float = refl

version_2 : tells (codes "{'main':0,'functions':0,'signatures':0,'version':2}") ≡ codes "/signatures: not an array"
unfolding scripts_on_literals
version_2 = refl

result_in_version_1 : of_signature (codes "{'ret':'uint128','args':[]}") ≡ codes "/signatures/0/ret: unknown type"
unfolding scripts_on_literals
result_in_version_1 = refl

argument_in_version_1 : of_signature (codes "{'ret':'void','args':[{'struct':['sint128']}]}") ≡ codes "/signatures/0/args/0/struct/0: unknown type"
unfolding scripts_on_literals
argument_in_version_1 = refl

value_in_version_1 : in_main (print_of (codes "'sint128'") (codes "0")) ≡ codes "/main/0/print/of/0: unknown type"
unfolding scripts_on_literals
value_in_version_1 = refl

-- ---- texts

empty : in_2 (codes "'uint128'") (codes "''") ≡ codes "/main/0/print/of/1: bad integer"
unfolding scripts_on_literals
empty = refl

minus_zero : in_2 (codes "'sint128'") (codes "'-0'") ≡ codes "/main/0/print/of/1: bad integer"
unfolding scripts_on_literals
minus_zero = refl

minus_alone : in_2 (codes "'sint128'") (codes "'-'") ≡ codes "/main/0/print/of/1: bad integer"
unfolding scripts_on_literals
minus_alone = refl

plus : in_2 (codes "'uint128'") (codes "'+5'") ≡ codes "/main/0/print/of/1: bad integer"
unfolding scripts_on_literals
plus = refl

minus_plus : in_2 (codes "'sint128'") (codes "'-+5'") ≡ codes "/main/0/print/of/1: bad integer"
unfolding scripts_on_literals
minus_plus = refl

two_zeros : in_2 (codes "'uint128'") (codes "'00'") ≡ codes "/main/0/print/of/1: bad integer"
unfolding scripts_on_literals
two_zeros = refl

leading_zero : in_2 (codes "'uint128'") (codes "'05'") ≡ codes "/main/0/print/of/1: bad integer"
unfolding scripts_on_literals
leading_zero = refl

exponent : in_2 (codes "'uint128'") (codes "'1e3'") ≡ codes "/main/0/print/of/1: bad integer"
unfolding scripts_on_literals
exponent = refl

space : in_2 (codes "'uint128'") (codes "'5 '") ≡ codes "/main/0/print/of/1: bad integer"
unfolding scripts_on_literals
space = refl

greatest_uint128 : in_2 (codes "'uint128'") (codes "'340282366920938463463374607431768211455'") ≡ codes "read"
unfolding scripts_on_literals
greatest_uint128 = refl

above_uint128 : in_2 (codes "'uint128'") (codes "'340282366920938463463374607431768211456'") ≡ codes "/main/0/print/of/1: out of range"
unfolding scripts_on_literals
above_uint128 = refl

forty_digits : in_2 (codes "'uint128'") (codes "'1111111111111111111111111111111111111111'") ≡ codes "/main/0/print/of/1: out of range"
unfolding scripts_on_literals
forty_digits = refl

negative_uint128 : in_2 (codes "'uint128'") (codes "'-5'") ≡ codes "/main/0/print/of/1: out of range"
unfolding scripts_on_literals
negative_uint128 = refl

greatest_sint128 : in_2 (codes "'sint128'") (codes "'170141183460469231731687303715884105727'") ≡ codes "read"
unfolding scripts_on_literals
greatest_sint128 = refl

above_sint128 : in_2 (codes "'sint128'") (codes "'170141183460469231731687303715884105728'") ≡ codes "/main/0/print/of/1: out of range"
unfolding scripts_on_literals
above_sint128 = refl

least_sint128 : in_2 (codes "'sint128'") (codes "'-170141183460469231731687303715884105728'") ≡ codes "read"
unfolding scripts_on_literals
least_sint128 = refl

below_sint128 : in_2 (codes "'sint128'") (codes "'-170141183460469231731687303715884105729'") ≡ codes "/main/0/print/of/1: out of range"
unfolding scripts_on_literals
below_sint128 = refl

text_of_uint64 : in_2 (codes "'uint64'") (codes "'5'") ≡ codes "/main/0/print/of/1: wrong type"
unfolding scripts_on_literals
text_of_uint64 = refl

-- ---- numbers

number_beyond_64_bits : in_2 (codes "'uint128'") (codes "18446744073709551616") ≡ codes "/main/0/print/of/1: not an integer"
unfolding scripts_on_literals
number_beyond_64_bits = refl

negative_number : in_2 (codes "'uint128'") (codes "-1") ≡ codes "/main/0/print/of/1: out of range"
unfolding scripts_on_literals
negative_number = refl

float_number : in_2 (codes "'sint128'") (codes "1.0") ≡ codes "/main/0/print/of/1: not an integer"
unfolding scripts_on_literals
float_number = refl

array : in_2 (codes "'sint128'") (codes "[1]") ≡ codes "/main/0/print/of/1: wrong type"
unfolding scripts_on_literals
array = refl

module _ (standard : Standard) where
  -- ---- values

  zero_text : is_in_2 standard (codes "'uint128'") (codes "'0'") ≡ codes "0"
  unfolding scripts_on_literals
  zero_text = refl

  negative_text : is_in_2 standard (codes "'sint128'") (codes "'-5'") ≡ codes "-5"
  unfolding scripts_on_literals
  negative_text = refl

  least_text : is_in_2 standard (codes "'sint128'") (codes "'-170141183460469231731687303715884105728'") ≡ codes "-170141183460469231731687303715884105728"
  unfolding scripts_on_literals
  least_text = refl

  greatest_number : is_in_2 standard (codes "'sint128'") (codes "18446744073709551615") ≡ codes "18446744073709551615"
  unfolding scripts_on_literals
  greatest_number = refl

  least_number : is_in_2 standard (codes "'sint128'") (codes "-9223372036854775808") ≡ codes "-9223372036854775808"
  unfolding scripts_on_literals
  least_number = refl

  -- ---- sums, differences and casts

  past_64_bits : is_in_2 standard (codes "'uint128'") (codes "{'add':['18446744073709551615',1]}") ≡ codes "18446744073709551616"
  unfolding scripts_on_literals
  past_64_bits = refl

  sum_past_the_end : is_in_2 standard (codes "'uint128'") (codes "{'add':['340282366920938463463374607431768211455',2]}") ≡ codes "1"
  unfolding scripts_on_literals
  sum_past_the_end = refl

  signed_sum_past_the_end : is_in_2 standard (codes "'sint128'") (codes "{'add':['170141183460469231731687303715884105727',1]}") ≡ codes "-170141183460469231731687303715884105728"
  unfolding scripts_on_literals
  signed_sum_past_the_end = refl

  difference_below_zero : is_in_2 standard (codes "'uint128'") (codes "{'sub':[0,1]}") ≡ codes "340282366920938463463374607431768211455"
  unfolding scripts_on_literals
  difference_below_zero = refl

  signed_difference_past_the_end : is_in_2 standard (codes "'sint128'") (codes "{'sub':['-170141183460469231731687303715884105728',1]}") ≡ codes "170141183460469231731687303715884105727"
  unfolding scripts_on_literals
  signed_difference_past_the_end = refl

  cast_by_sign : is_in_2 standard (codes "'uint128'") (codes "{'cast':{'of':['sint8',-1]}}") ≡ codes "340282366920938463463374607431768211455"
  unfolding scripts_on_literals
  cast_by_sign = refl

  cast_of_unsigned : is_in_2 standard (codes "'sint128'") (codes "{'cast':{'of':['uint64',18446744073709551615]}}") ≡ codes "18446744073709551615"
  unfolding scripts_on_literals
  cast_of_unsigned = refl

  cast_of_pointer : is_in_2 standard (codes "'sint128'") (codes "{'cast':{'of':['pointer',18446744073709551615]}}") ≡ codes "18446744073709551615"
  unfolding scripts_on_literals
  cast_of_pointer = refl

  cast_to_signed : is_in_2 standard (codes "'sint128'") (codes "{'cast':{'of':['uint128','170141183460469231731687303715884105728']}}") ≡ codes "-170141183460469231731687303715884105728"
  unfolding scripts_on_literals
  cast_to_signed = refl

  cast_to_sint64 : is_in_2 standard (codes "'sint64'") (codes "{'cast':{'of':['uint128','9223372036854775808']}}") ≡ codes "-9223372036854775808"
  unfolding scripts_on_literals
  cast_to_sint64 = refl

  cast_to_uint8 : is_in_2 standard (codes "'uint8'") (codes "{'cast':{'of':['sint128','-170141183460469231731687303715884105727']}}") ≡ codes "1"
  unfolding scripts_on_literals
  cast_to_uint8 = refl
