use Rattle.std.proofs.Common.{subst}
use Rattle.ffi3_types.specs.SignatureFaultOf.{signature_fault_of}
use Rattle.ffi3_cdecl_spec.specs.ReadingFor.{IsReadingFor}
use Rattle.ffi3_cdecl.specs.Tells.{Tells}
use Rattle.ffi3_capi.specs.Chars.{char_sign}
use Rattle.ffi3_capi.specs.Formats.{long_double_on}
use Rattle.ffi3_capi.proofs.Declared.{unexpected_in}
use Rattle.ffi3_capi.proofs.Checks.{bad_token_told, bad_number_told, signature_told}
use Rattle.ffi3_capi.proofs.checking.tell_fault.Goals as goal

pub returns-in-BadToken : goal.returns-in-BadToken
returns-in-BadToken c =
    λ utf8 some is. bad_token_told c.args.target c.args.text.now c.in-BadToken.at c.fault_at.result c.refuse.result c.refuse.new.told c.fault_at.ensures c.refuse.ensures.status c.refuse.ensures.told utf8 some (subst (Tells (IsReadingFor (long_double_on c.args.target) (char_sign c.args.target) c.args.text.now)) c.in-BadToken.is is)

pub returns-in-BadNumber : goal.returns-in-BadNumber
returns-in-BadNumber c =
    λ utf8 some is. bad_number_told c.args.target c.args.text.now c.in-BadNumber.at c.fault_at-in-BadNumber.result c.refuse-in-BadNumber.result c.refuse-in-BadNumber.new.told c.fault_at-in-BadNumber.ensures c.refuse-in-BadNumber.ensures.status c.refuse-in-BadNumber.ensures.told utf8 some (subst (Tells (IsReadingFor (long_double_on c.args.target) (char_sign c.args.target) c.args.text.now)) c.in-BadNumber.is is)

pub returns-in-Sig : goal.returns-in-Sig
returns-in-Sig c =
    λ utf8 some is. signature_told c.args.target c.args.text.now (signature_fault_of c.in-Sig.sig) c.signature_fault.result c.refuse-in-Sig.result c.refuse-in-Sig.new.told c.signature_fault.ensures c.refuse-in-Sig.ensures.status c.refuse-in-Sig.ensures.told utf8 some (subst (Tells (IsReadingFor (long_double_on c.args.target) (char_sign c.args.target) c.args.text.now)) c.in-Sig.is is)

pub returns-in-Unexpected : goal.returns-in-Unexpected
returns-in-Unexpected c =
    λ utf8 some is. c.tell_place.ensures utf8 some (unexpected_in (long_double_on c.args.target) (char_sign c.args.target) c.args.text.now c.in-Unexpected.at (subst (Tells (IsReadingFor (long_double_on c.args.target) (char_sign c.args.target) c.args.text.now)) c.in-Unexpected.is is))
