-- Values of scripts, computed: each is the first that main prints.
use Rattle.std.specs.Prelude.{◌≡◌, codes, refl}
use Rattle.ffi3_place_spec.specs.Standard.{Standard}
use Rattle.ffi3_script_spec.proofs.RowForms.{scripts_on_literals, prints, is_of}

module _ (standard : Standard) where
  -- ---- plain values

  pointer_text : is_of standard (codes "'pointer'") (codes "18446744073709551615") ≡ codes "0xffffffffffffffff"
  unfolding scripts_on_literals
  pointer_text = refl

  least_sint64 : is_of standard (codes "'slong'") (codes "-9223372036854775808") ≡ codes "-9223372036854775808"
  unfolding scripts_on_literals
  least_sint64 = refl

  double_text : is_of standard (codes "'double'") (codes "'000000000000F03f'") ≡ codes "000000000000f03f"
  unfolding scripts_on_literals
  double_text = refl

  struct : is_of standard (codes "{'struct':['uint8',{'struct':['float','sint8']}]}") (codes "[1,['0000803f',-2]]") ≡ codes "{1,{0000803f,-2}}"
  unfolding scripts_on_literals
  struct = refl

  field : prints standard (codes "{'print':{'field':[{'of':[{'struct':['uint8','uint16']},[1,2]]},1]}}") ≡ codes "2"
  unfolding scripts_on_literals
  field = refl

  -- ---- sums, differences and casts

  sum_uint8 : is_of standard (codes "'uint8'") (codes "{'add':[200,100]}") ≡ codes "44"
  unfolding scripts_on_literals
  sum_uint8 = refl

  sum_sint8 : is_of standard (codes "'sint8'") (codes "{'add':[127,1]}") ≡ codes "-128"
  unfolding scripts_on_literals
  sum_sint8 = refl

  difference_uint8 : is_of standard (codes "'uint8'") (codes "{'sub':[0,1]}") ≡ codes "255"
  unfolding scripts_on_literals
  difference_uint8 = refl

  difference_sint64 : is_of standard (codes "'sint64'") (codes "{'sub':[-9223372036854775808,1]}") ≡ codes "9223372036854775807"
  unfolding scripts_on_literals
  difference_sint64 = refl

  sum_of_difference : is_of standard (codes "'uint32'") (codes "{'add':[{'sub':[1,2]},3]}") ≡ codes "2"
  unfolding scripts_on_literals
  sum_of_difference = refl

  cast_to_uint16 : is_of standard (codes "'uint16'") (codes "{'cast':{'of':['sint8',-1]}}") ≡ codes "65535"
  unfolding scripts_on_literals
  cast_to_uint16 = refl

  cast_to_pointer : is_of standard (codes "'pointer'") (codes "{'cast':{'of':['sint8',-1]}}") ≡ codes "0xffffffffffffffff"
  unfolding scripts_on_literals
  cast_to_pointer = refl

  cast_of_unsigned : is_of standard (codes "'sint32'") (codes "{'cast':{'of':['uint8',255]}}") ≡ codes "255"
  unfolding scripts_on_literals
  cast_of_unsigned = refl

  cast_down : is_of standard (codes "'sint8'") (codes "{'cast':{'of':['sint32',-129]}}") ≡ codes "127"
  unfolding scripts_on_literals
  cast_down = refl
