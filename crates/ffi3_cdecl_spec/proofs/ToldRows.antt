-- What is told of texts that are no declarations of the wide reading.
use Rattle.std.proofs.Common.{◌≡◌, [], ◌∷◌, Some, None, refl}
use Rattle.std.specs.Prelude.{codes}
use Rattle.ffi3_cdecl_spec.specs.Tokens.{signed}
use Rattle.ffi3_cdecl_spec.specs.Expected.{a_type, a_name, closing_round, a_comma, a_semicolon, the_end, a_star, closing_square, opening_curly, opening_round, opening_square, the_dots, a_number}
use Rattle.ffi3_cdecl_spec.specs.Reasons.{a_struct_of, a_union_of, an_enum_of, a_type_named, an_attribute, a_keyword, by_value}
use Rattle.ffi3_cdecl_spec.specs.Telling.{tell}

-- types of no known size by value
a_file : tell signed (codes "int f(FILE x)") 12 ≡ record { taken = 1; reason = Some (by_value (a_type_named (codes "FILE"))); expected = opening_round ∷ opening_square ∷ [] }
a_file = refl

an_enum : tell signed (codes "enum colour f(void);") 12 ≡ record { taken = 1; reason = Some (by_value (an_enum_of (codes "colour"))); expected = a_star ∷ opening_round ∷ [] }
an_enum = refl

a_union : tell signed (codes "int f(union u, int)") 13 ≡ record { taken = 1; reason = Some (by_value (a_union_of (codes "u"))); expected = a_name ∷ a_star ∷ opening_round ∷ opening_square ∷ [] }
a_union = refl

a_struct : tell signed (codes "int f(struct s)") 14 ≡ record { taken = 1; reason = Some (by_value (a_struct_of (codes "s"))); expected = a_name ∷ a_star ∷ opening_curly ∷ opening_round ∷ [] }
a_struct = refl

a_member : tell signed (codes "int f(struct { wchar_t c; } x)") 23 ≡ record { taken = 1; reason = Some (by_value (a_type_named (codes "wchar_t"))); expected = a_star ∷ opening_round ∷ [] }
a_member = refl

-- not where a star stands before
a_member_behind_a_star : tell signed (codes "int f(struct { FILE *p, q; } x)") 24 ≡ record { taken = 1; reason = None; expected = a_star ∷ opening_round ∷ [] }
a_member_behind_a_star = refl

-- attributes and keywords
attribute : tell signed (codes "int f(int x) __attribute__((ms_abi));") 13 ≡ record { taken = 23; reason = Some an_attribute; expected = a_semicolon ∷ the_end ∷ [] }
attribute = refl

keyword : tell signed (codes "int f(int while)") 10 ≡ record { taken = 5; reason = Some a_keyword; expected = a_name ∷ closing_round ∷ a_comma ∷ a_star ∷ [] }
keyword = refl

-- no reason
a_second_name : tell signed (codes "int f(int x y)") 12 ≡ record { taken = 1; reason = None; expected = closing_round ∷ a_comma ∷ opening_round ∷ opening_square ∷ [] }
a_second_name = refl

no_type : tell signed (codes "int f(,)") 6 ≡ record { taken = 1; reason = None; expected = a_type ∷ closing_round ∷ [] }
no_type = refl

no_number : tell signed (codes "int f(int a[)])") 12 ≡ record { taken = 1; reason = None; expected = a_name ∷ a_number ∷ a_star ∷ closing_square ∷ [] }
no_number = refl

no_semicolon : tell signed (codes "int f(struct { int a } x)") 21 ≡ record { taken = 1; reason = None; expected = a_comma ∷ a_semicolon ∷ opening_square ∷ [] }
no_semicolon = refl

behind_the_dots : tell signed (codes "int f(int, ... int)") 15 ≡ record { taken = 3; reason = None; expected = closing_round ∷ a_comma ∷ [] }
behind_the_dots = refl

-- the end of the text
too_short : tell signed (codes "int f(int x") 11 ≡ record { taken = 0; reason = None; expected = closing_round ∷ a_comma ∷ opening_round ∷ opening_square ∷ [] }
too_short = refl

empty : tell signed [] 0 ≡ record { taken = 0; reason = None; expected = a_type ∷ [] }
empty = refl

a_comma_last : tell signed (codes "int f(int x,") 12 ≡ record { taken = 0; reason = None; expected = a_type ∷ the_dots ∷ [] }
a_comma_last = refl
