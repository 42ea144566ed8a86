-- Where a byte of a bracket and one of a comment stands.
use Rattle.ffi3_cdecl_spec.specs.Tokens as cut
use Rattle.ffi3_cdecl.specs.declared.attribute.Quoted.{Quoted}
use Rattle.ffi3_cdecl.specs.declared.attribute.Quoted.TheVariants.{Outside, Between, Escaped}
use Rattle.ffi3_cdecl.specs.declared.bytes.CommentPlace.{CommentPlace}
use Rattle.ffi3_cdecl.specs.declared.bytes.CommentPlace.TheVariants.{Inside, BehindStar, BehindSplice}

abbrev pub quoted_of : Quoted → cut.Quoted
quoted_of Outside = cut.unquoted
quoted_of Between = cut.in_quotes
quoted_of Escaped = cut.escaped

abbrev pub place_of : CommentPlace → cut.CommentPlace
place_of Inside = cut.in_comment
place_of BehindStar = cut.behind_star
place_of BehindSplice = cut.behind_splice
