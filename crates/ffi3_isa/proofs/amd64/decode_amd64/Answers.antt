use Rattle.ffi3_isa.proofs.Bytes.{only_trampoline, only_fixed, only_movsd, none_if_only}
use Rattle.ffi3_isa.proofs.amd64.decode_amd64.Goals as goal

pub returns-in-Some-clause-only : goal.returns-in-Some-clause-only
returns-in-Some-clause-only c i n is =
    only_trampoline c.args.bytes.now i n c.in-Some.found c.in-Some.ensures.listed c.in-Some.ensures.only is

pub returns-in-Some-decode_fixed-clause-only : goal.returns-in-Some-decode_fixed-clause-only
returns-in-Some-decode_fixed-clause-only c i n is =
    only_fixed c.args.bytes.now i n c.decode_trampoline.result c.in-Some-decode_fixed.found (cc) c.decode_trampoline.ensures.only c.in-Some-decode_fixed.ensures.listed c.in-Some-decode_fixed.ensures.only is

pub returns-clause-only : goal.returns-clause-only
returns-clause-only c i n is =
    only_movsd c.args.bytes.now i n c.decode_trampoline.result c.decode_fixed.result c.decode_mov_at_r11.result c.decode_mov_at_sp.result c.decode_movsd.result (cc) c.decode_trampoline.ensures.only (cc) c.decode_fixed.ensures.only (cc) c.decode_mov_at_r11.ensures.only (cc) c.decode_mov_at_sp.ensures.only c.decode_movsd.ensures.only is

pub returns-clause-unlisted : goal.returns-clause-unlisted
returns-clause-unlisted c none i n is =
    none_if_only c.args.bytes.now c.decode_movsd.result (λ j m h. returns-clause-only c j m h) none i n is
