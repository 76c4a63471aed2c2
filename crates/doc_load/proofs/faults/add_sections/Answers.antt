use Rattle.std.proofs.Common.{[], ◌∷◌, ◌++◌, ◌∙◌, ap}
use Rattle.doc_model.specs.declared.refusal.Limit.TheVariants as limit
use Rattle.load_model.specs.Offences.{least}
use Rattle.doc_load.specs.Outcomes.{limit_offences}
use Rattle.doc_load.proofs.FaultLemmas.{limits_more}
use Rattle.doc_load.proofs.faults.add_sections.Goals as goal

pub returns : goal.returns
returns c = λ before root met known.
    let one = c.add_limit.ensures before root met.section_is known in
    let two = c.add_limit_at.ensures (before ++ limit_offences (limit.Sections ∷ []) root) root (c.as_slice.ensures.value ∙ met.deep_are) one in
    two ∙ ap least (limits_more before root (limit.Sections ∷ []) (limit.SectionDepth ∷ []))
