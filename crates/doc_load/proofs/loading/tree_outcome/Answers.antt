use Rattle.std.proofs.Common.{◌≡◌, List, [], sym, subst}
use Rattle.load_model.specs.declared.element.Element.{Element}
use Rattle.load_model.specs.declared.offence.TreeOffence.{TreeOffence}
use Rattle.load_model.specs.declared.offence.TreeOffenceKind.TheVariants as kind
use Rattle.load_model.specs.Names.{places_of_bad_names, resolved}
use Rattle.load_model.specs.Offences.{least, offences_at}
use Rattle.doc_load.specs.Outcomes.{IsOrdered, all_offences, outcome_of}
use Rattle.doc_load.proofs.ChosenLemmas.{chosen}
use Rattle.doc_load.proofs.loading.tree_outcome.Goals as goal

pub root_outcome-requires : goal.root_outcome-requires
root_outcome-requires c = subst IsOrdered (sym c.in_ok-root.ensures.root) (c.places_are_ordered.ensures.ordered c.args.tree c.requires)

pub returns : goal.returns
returns c =
    chosen c.root_outcome.result _ (resolved c.args.tree.root) c.in_ok-root.ensures.root
    (λ (before : List TreeOffence). c.first_names.result ≡ least before)
    (λ (before : List TreeOffence) (root : Element). outcome_of root (least (all_offences before root)))
    (offences_at kind.Names (places_of_bad_names c.args.tree.root []))
    (c.first_names.ensures (places_of_bad_names c.args.tree.root []) c.in_ok-root.ensures.bad (c.places_are_ordered.ensures.names c.args.tree c.requires))
    c.root_outcome.ensures
