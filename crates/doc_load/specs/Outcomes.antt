-- What a tree comes to, with its offences part by part.
use Rattle.std.specs.Prelude.{◌≢◌, ℕ, ◌++◌, not, Bool, false, List, [], map, Option, Some, None, AllPairs}
use Rattle.std.specs.List.{flat_map}
use Rattle.std.specs.Option.{option_map_or}
use Rattle.doc_model.specs.declared.refusal.Limit.{Limit}
use Rattle.doc_model.specs.Reading.{paragraphs, number_of}
use Rattle.load_model.specs.declared.names.Key.TheVariants as key
use Rattle.load_model.specs.declared.names.Tag.TheVariants as tag
use Rattle.load_model.specs.declared.element.Element.{Element}
use Rattle.load_model.specs.declared.offence.TreeOffence.{TreeOffence}
use Rattle.load_model.specs.declared.offence.TreeOffenceKind.TheVariants as kind
use Rattle.load_model.specs.Left.{is, attributes_of}
use Rattle.load_model.specs.Loaded.{draft_of, kept_declarations, loaded, met_of, report_of, used_names}
use Rattle.load_model.specs.Met.{tables_met}
use Rattle.load_model.specs.Names.{places_of_bad_names, resolved}
use Rattle.markup_nodes.specs.declared.tree.Elem.{Elem}
use Rattle.load_model.specs.Offences.{is_mimetype, least, limits, offences_at, place_if, place_of, places_beyond, places_of_loops, places_without_text}
use Rattle.load_model.specs.Values.{value_of}
use Rattle.markup_nodes.specs.declared.tree.Tree.{Tree}
use Rattle.markup_tree.specs.Documents.{Spells}
use Rattle.declared_names.specs.Merge.{IsRising}
use Rattle.section_faults.specs.Nested.{IsNested}
use Rattle.doc_load.specs.declared.outcome.Outcome.{Outcome}
use Rattle.doc_load.specs.declared.outcome.Outcome.TheVariants as outcome

-- some bytes spell a tree
pub record IsSpelled (tree : Tree) : Type 0 where
  pub bytes : List ℕ
  pub spelled : Spells bytes tree

-- the offences of some limits
abbrev pub limit_offences : List Limit → Element → List TreeOffence
limit_offences some root = flat_map (λ limit. offences_at (kind.Limit limit) (places_beyond limit root)) some

-- offences before, then those of the root and its text, of styles, of limits and of tables
abbrev pub root_offences : List TreeOffence → Element → List TreeOffence
root_offences before root =
    before
    ++ offences_at kind.Root (place_if (not (is tag.Document root)) (place_of root))
    ++ offences_at kind.Mime (place_if (not (option_map_or is_mimetype (value_of key.Mimetype (attributes_of root)) false)) (place_of root))
    ++ offences_at kind.NoText (places_without_text root)

abbrev pub all_offences : List TreeOffence → Element → List TreeOffence
all_offences before root =
    root_offences before root
    ++ offences_at kind.StyleLoop (places_of_loops root)
    ++ limit_offences limits root
    ++ offences_at kind.Table (tables_met (met_of root))

-- the first offence of a tree: bad names come before those of its root
abbrev pub first_in : Elem → Option TreeOffence
first_in tree = least (all_offences (offences_at kind.Names (places_of_bad_names tree [])) (resolved tree))

-- what a root is loaded as where this is its first offence
abbrev pub outcome_of : Element → Option TreeOffence → Outcome
outcome_of root None = outcome.Loaded (loaded root) (report_of root)
outcome_of root (Some offence) = outcome.Refused offence

-- what holds of places in a file: those of declarations and of first uses rise, no two paragraphs share one, and sections that are met are nested
pub record IsOrdered (root : Element) : Type 0 where
  pub declarations : (sequences : Bool) → IsRising (map (λ declared. declared.place) (kept_declarations sequences root))
  pub uses : (sequences : Bool) → IsRising (map (λ used. used.place) (used_names sequences root))
  pub numbers : AllPairs (λ number other. number ≢ other) (map number_of (paragraphs (draft_of root)))
  pub sections : IsNested (met_of root)
