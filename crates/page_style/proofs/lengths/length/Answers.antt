use Rattle.std.proofs.Common.{◌∙◌, sym}
use Rattle.page_style.proofs.Texts.{says_signed, read_signed, beyond_signed}
use Rattle.page_style.proofs.lengths.length.Goals as goal

pub returns-in-Some-clause-said : goal.returns-in-Some-clause-said
returns-in-Some-clause-said c =
    says_signed c.args.text.now c.cut_sign-below_zero.result.1.now c.cut_sign-below_zero.result.0 c.in-Some.size c.within.result
    (sym c.as_bytes.ensures.value ∙ c.cut_sign-below_zero.ensures.cut) c.in-Some.ensures.said c.within.ensures

pub returns-in-Some-clause-read : goal.returns-in-Some-clause-read
returns-in-Some-clause-read c =
    read_signed c.args.text.now c.cut_sign-below_zero.result.1.now c.cut_sign-below_zero.result.0 c.in-Some.size c.within.result
    (λ other more h e. c.cut_sign-below_zero.ensures.only other more h (c.as_bytes.ensures.value ∙ e)) c.in-Some.ensures.read c.within.ensures

pub returns-in-Some-clause-beyond : goal.returns-in-Some-clause-beyond
returns-in-Some-clause-beyond c =
    beyond_signed c.args.text.now c.cut_sign-below_zero.result.1.now c.cut_sign-below_zero.result.0 c.in-Some.size c.within.result
    (λ other more h e. c.cut_sign-below_zero.ensures.only other more h (c.as_bytes.ensures.value ∙ e)) c.in-Some.ensures.read c.within.ensures
