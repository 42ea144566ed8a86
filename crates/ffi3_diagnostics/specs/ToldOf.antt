-- What is told by the code.
use Rattle.std.specs.Prelude.{List, map, Option, option_map}
use Rattle.ffi3_cdecl_spec.specs.Expected as rules
use Rattle.ffi3_cdecl_spec.specs.Reasons as reasons
use Rattle.ffi3_cdecl_spec.specs.Telling as telling
use Rattle.ffi3_cdecl.specs.StateOf.{state_of}
use Rattle.ffi3_diagnostics.specs.declared.expected.Expected.{Expected}
use Rattle.ffi3_diagnostics.specs.declared.expected.Expected.TheVariants as k
use Rattle.ffi3_diagnostics.specs.declared.track.Base.{Base}
use Rattle.ffi3_diagnostics.specs.declared.track.Base.TheVariants as b
use Rattle.ffi3_diagnostics.specs.declared.track.Track.{Track}
use Rattle.ffi3_diagnostics.specs.declared.track.Track.TheVariants as t
use Rattle.ffi3_diagnostics.specs.declared.told.Reached.{Reached}
use Rattle.ffi3_diagnostics.specs.declared.told.Reason.{Reason}
use Rattle.ffi3_diagnostics.specs.declared.told.Reason.TheVariants as r
use Rattle.ffi3_diagnostics.specs.declared.told.Told.{Told}

abbrev pub expected_of : Expected → rules.Expected
expected_of k.Type = rules.a_type
expected_of k.Name = rules.a_name
expected_of k.Number = rules.a_number
expected_of k.CloseRound = rules.closing_round
expected_of k.Comma = rules.a_comma
expected_of k.Semicolon = rules.a_semicolon
expected_of k.End = rules.the_end
expected_of k.Star = rules.a_star
expected_of k.CloseSquare = rules.closing_square
expected_of k.CloseCurly = rules.closing_curly
expected_of k.OpenCurly = rules.opening_curly
expected_of k.OpenRound = rules.opening_round
expected_of k.OpenSquare = rules.opening_square
expected_of k.Dots = rules.the_dots
expected_of k.Word = rules.a_word

abbrev pub kinds_of : List Expected → List rules.Expected
kinds_of kinds = map expected_of kinds

abbrev pub base_of : Base → reasons.Base
base_of (b.Struct tag) = reasons.a_struct_of tag.now
base_of (b.Union tag) = reasons.a_union_of tag.now
base_of (b.Enum tag) = reasons.an_enum_of tag.now
base_of (b.Named called) = reasons.a_type_named called.now

abbrev pub track_of : Track → telling.Track
track_of t.Nothing = telling.no_track
track_of t.BehindStruct = telling.behind_struct
track_of t.BehindUnion = telling.behind_union
track_of t.BehindEnum = telling.behind_enum
track_of (t.BehindBase b) = telling.behind_base (base_of b)

abbrev pub reached_of : Reached → telling.Reached
reached_of q =
    record { state = state_of q.state; track = track_of q.track }

abbrev pub reason_of : Reason → reasons.Reason
reason_of r.Attribute = reasons.an_attribute
reason_of r.Keyword = reasons.a_keyword
reason_of (r.ByValue b) = reasons.by_value (base_of b)

abbrev pub reason_or_not : Option Reason → Option reasons.Reason
reason_or_not why = option_map reason_of why

abbrev pub told_of : Told → reasons.Told
told_of t =
    record { taken = t.taken; reason = reason_or_not t.reason; expected = kinds_of t.expected.items }
