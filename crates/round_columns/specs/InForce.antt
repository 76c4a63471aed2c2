-- The master in force, and the columns of its pages.
use Rattle.std.specs.Prelude.{◌≡◌, ℕ, List, filter_map, reverse, Option, Some, None}
use Rattle.doc_model.specs.declared.document.Document.{Document}
use Rattle.style_model.specs.Masters.{first_master}
use Rattle.format_model.specs.Keys.{Standing, columns_with, first_of, master_stated_by}
use Rattle.round_columns.specs.declared.in_force.InForce.{InForce}

-- the master that would be in force behind these paragraphs if only stated masters counted: the last one stated by them, else that of a first page
abbrev pub master_behind : Document → List Standing → Option ℕ
master_behind doc before = of_last (first_of (reverse (filter_map (master_stated_by doc) before))) where
  of_last : Option ℕ → Option ℕ
  of_last None = first_master doc.masters
  of_last (Some at) = Some at

-- what is in force behind these paragraphs
pub record IsInForce (doc : Document) (before : List Standing) (force : InForce) : Type 0 where
  pub master : force.master ≡ master_behind doc before
  pub columns : force.columns ≡ columns_with doc force.master
