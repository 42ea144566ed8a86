use Rattle.ffi3_app.proofs.cplace.prototype.Goals as goal

pub returns : goal.returns
returns g c =
    c.write_two_lines.ensures _ _ c.told_line-signature.ensures c.prototype_line.ensures
