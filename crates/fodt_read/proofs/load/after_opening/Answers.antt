use Rattle.std.proofs.Common.{sym, ◌∙◌}
use Rattle.std.proofs.lemmas.List.{append_cancel_left}
use Rattle.spelling_model.specs.declared.pieces.TheConstants.{ROOT, ROOT_END, BODY}
use Rattle.fodt_read.proofs.Loaded.{opened, found_after}
use Rattle.fodt_read.proofs.load.after_opening.Goals as goal

pub returns-in_err-rest : goal.returns-in_err-rest
returns-in_err-rest c = λ more e. absurd (c.in_err-rest.ensures _ (opened _ more e))

pub returns-in_err-rest-2 : goal.returns-in_err-rest-2
returns-in_err-rest-2 c = λ more e. absurd (c.in_err-rest-2.ensures _ (append_cancel_left ROOT.now _ _ (sym c.in_ok-rest.ensures ∙ opened _ more e)))

pub returns : goal.returns
returns c = λ more e.
    found_after c.after-3.result _ BODY.now more c.after-3.ensures
    (append_cancel_left ROOT_END.now _ _ (sym c.in_ok-rest-2.ensures ∙ append_cancel_left ROOT.now _ _ (sym c.in_ok-rest.ensures ∙ opened _ more e)))
