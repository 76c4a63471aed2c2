use Rattle.std.proofs.Common.{List, ℕ, ◌++◌, ◌∙◌, ap}
use Rattle.load_model.specs.declared.offence.TreeOffenceKind.TheVariants as kind
use Rattle.load_model.specs.Offences.{least, limits, offences_at, places_of_loops}
use Rattle.doc_load.specs.Outcomes.{limit_offences, root_offences}
use Rattle.doc_load.proofs.faults.first_offence.Goals as goal

pub returns : goal.returns
returns c = λ before known.
    let root = c.args.root.now in
    let text = c.requires.text in
    let parts = c.requires.parts in
    let here = c.in_ok-add_root.ensures before known in
    let loops = c.add_all.ensures (root_offences before root) here
    ∙ ap (λ (places : List ℕ). least (root_offences before root ++ offences_at kind.StyleLoop places)) (c.as_slice.ensures.value ∙ parts.loops_are) in
    let beyond = c.in_ok-add_limits.ensures (root_offences before root ++ offences_at kind.StyleLoop (places_of_loops root)) loops in
    c.get.ensures
    ∙ c.add_all-2.ensures (root_offences before root ++ offences_at kind.StyleLoop (places_of_loops root) ++ limit_offences limits root) beyond
    ∙ ap (λ (places : List ℕ). least (root_offences before root ++ offences_at kind.StyleLoop (places_of_loops root) ++ limit_offences limits root ++ offences_at kind.Table places)) (c.as_slice-2.ensures.value ∙ text.faults_are.tables_are)
