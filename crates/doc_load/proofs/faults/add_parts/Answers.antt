use Rattle.std.proofs.Common.{[], ◌∷◌, ◌++◌, ◌∙◌, ap}
use Rattle.doc_model.specs.declared.refusal.Limit.TheVariants as limit
use Rattle.load_model.specs.Offences.{least}
use Rattle.doc_load.proofs.FaultLemmas.{limits_more}
use Rattle.doc_load.specs.Outcomes.{limit_offences}
use Rattle.doc_load.proofs.faults.add_parts.Goals as goal

pub returns : goal.returns
returns c = λ before root limits known.
    let one = c.add_limit.ensures before root limits.styles known in
    let two = c.add_limit-2.ensures (before ++ limit_offences (limit.Styles ∷ []) root) root limits.lists one ∙ ap least (limits_more before root (limit.Styles ∷ []) (limit.ListStyles ∷ [])) in
    let three = c.add_limit-3.ensures (before ++ limit_offences (limit.Styles ∷ limit.ListStyles ∷ []) root) root limits.layouts two ∙ ap least (limits_more before root (limit.Styles ∷ limit.ListStyles ∷ []) (limit.Layouts ∷ [])) in
    c.add_limit-4.ensures (before ++ limit_offences (limit.Styles ∷ limit.ListStyles ∷ limit.Layouts ∷ []) root) root limits.masters three
    ∙ ap least (limits_more before root (limit.Styles ∷ limit.ListStyles ∷ limit.Layouts ∷ []) (limit.Masters ∷ []))
