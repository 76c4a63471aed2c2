-- The tree of a written document has no offence.
use Rattle.std.proofs.Common.{◌≡◌, ℕ, List, [], ◌++◌, ap, ap₂}
use Rattle.std.specs.List.{flat_map}
use Rattle.markup_nodes.specs.declared.tree.Elem.{Elem}
use Rattle.doc_model.specs.declared.document.Document.{Document}
use Rattle.doc_model.specs.Valid.{IsValid}
use Rattle.load_model.specs.declared.element.Element.{Element as Read}
use Rattle.load_model.specs.declared.offence.TreeOffence.{TreeOffence}
use Rattle.load_model.specs.declared.offence.TreeOffenceKind.{TreeOffenceKind}
use Rattle.load_model.specs.declared.offence.TreeOffenceKind.TheVariants as kind
use Rattle.load_model.specs.Loaded.{met_of}
use Rattle.load_model.specs.Names.{places_of_bad_names, resolved}
use Rattle.load_model.specs.Offences.{limits, offences, offences_at, places_beyond}
use Rattle.back_met.specs.Things.{block_things}
use Rattle.written_model.specs.Written.{written}
use Rattle.back_names.specs.Named.{named, placeless}
use Rattle.back_offences.specs.Read.{IsReadOf}
use Rattle.back_offences.proofs.Beyond.{declarations_few, items_few, layouts_few, lists_few, masters_few, paragraphs_few, paragraphs_short, sections_are_few, sections_shallow, styles_few}
use Rattle.back_offences.proofs.Lists.{none_flat}
use Rattle.back_offences.proofs.Loops.{no_loops}
use Rattle.back_offences.proofs.Root.{root_is, text_there, type_is}
use Rattle.back_offences.proofs.Sections.{no_tables}

-- no place, no offence
none_at : (which : TreeOffenceKind) (places : List ℕ) → places ≡ [] → offences_at which places ≡ []
none_at which places none = ap (offences_at which) none

-- two lists of nothing
both_none : (front more : List TreeOffence) → front ≡ [] → more ≡ [] → front ++ more ≡ []
both_none front more one other = ap₂ (λ (a b : List TreeOffence). a ++ b) one other

-- no limit is passed
no_limit : (doc : Document) (root : Read) → IsValid doc → placeless root ≡ named (written doc) → IsReadOf doc root → flat_map (λ limit. offences_at (kind.Limit limit) (places_beyond limit root)) limits ≡ []
no_limit doc root valid same is =
    none_flat (λ limit. offences_at (kind.Limit limit) (places_beyond limit root)) limits (
      none_at _ _ (paragraphs_few doc root valid same is),
      (
        none_at _ _ (paragraphs_short doc root valid same is),
        (
          none_at _ _ (items_few doc root valid same is),
          (
            none_at _ _ (sections_are_few doc root valid same is),
            (
              none_at _ _ (sections_shallow doc root valid same is),
              (
                none_at _ _ (styles_few doc root valid same is),
                (
                  none_at _ _ (lists_few doc root valid same is),
                  (
                    none_at _ _ (layouts_few doc root valid same is),
                    (
                      none_at _ _ (masters_few doc root valid same is),
                      (none_at _ _ (declarations_few doc root valid same is), tt),
                    ),
                  ),
                ),
              ),
            ),
          ),
        ),
      ),
    )

pub none_offends : (doc : Document) (tree : Elem) → IsValid doc → places_of_bad_names tree [] ≡ [] → placeless (resolved tree) ≡ named (written doc) → IsReadOf doc (resolved tree) → offences tree ≡ []
none_offends doc tree valid good same is =
    let root = resolved tree in
    both_none _ _
    (both_none _ _
    (both_none _ _
    (both_none _ _
    (both_none _ _
    (both_none _ _ (none_at kind.Names _ good) (none_at kind.Root _ (root_is doc root same)))
    (none_at kind.Mime _ (type_is doc root same)))
    (none_at kind.NoText _ (text_there doc root same)))
    (none_at kind.StyleLoop _ (no_loops doc root valid is.styles)))
    (no_limit doc root valid same is))
    (none_at kind.Table _ (no_tables (flat_map block_things doc.body) (met_of root) is.met))
