use Rattle.ffi3_app.proofs.cdecl.cdecl.Goals as goal

pub returns : goal.returns
returns g c =
    c.write_two_lines.ensures _ _ c.signature_line-signature.ensures c.canonical_line.ensures
