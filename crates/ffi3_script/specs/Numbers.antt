-- That the numbers of signatures lie in their list.
use Rattle.std.specs.Prelude.{ℕ, ◌<◌, ⊤}
use Rattle.ffi3_script_body.specs.declared.moves.Act.{Act}
use Rattle.ffi3_script_body.specs.declared.moves.Act.TheVariants.{Call, Make, Free, Print, Return, ReturnVoid}

-- what is called is called by one of so many signatures
abbrev pub CallsWithin : ℕ → Act → Type 0
CallsWithin count (Call ptr sig args) = sig < count
CallsWithin count (Make func e) = ⊤
CallsWithin count (Free ptr) = ⊤
CallsWithin count (Print v) = ⊤
CallsWithin count (Return e) = ⊤
CallsWithin count ReturnVoid = ⊤
