use Rattle.ffi3_isa.proofs.Bytes.{names_r11}
use Rattle.ffi3_isa.proofs.amd64.decode_mov_at_r11.Goals as goal

pub returns-in_err-register-clause-only : goal.returns-in_err-register-clause-only
returns-in_err-register-clause-only c i n h =
    let no = c.in_err-register.ensures.only h.register (names_r11 c.args.bytes.now i n h) in cc
