-- The rules of a master and what it states, by the names that can be referred to: those of layouts and those of masters.
use Rattle.std.specs.Prelude.{ℕ, List, [], ◌∷◌}
use Rattle.doc_model.specs.declared.page_layout.HeadPar.{HeadPar}
use Rattle.doc_model.specs.declared.page_layout.Master.{Master}
use Rattle.load_model.specs.declared.names.Key.TheVariants as key
use Rattle.load_model.specs.declared.element.Element.{Element}
use Rattle.load_model.specs.Left.{attributes_of}
use Rattle.load_model.specs.Styles.{reference}
use Rattle.load_model.specs.Values as value
use Rattle.load_model.specs.Values.{Rule, rule, stated_or}

-- the rules of a master
abbrev pub rules_by : List (List ℕ) → List (List ℕ) → List Rule
rules_by layouts masters = rule key.Name value.name ∷ rule key.Layout (reference layouts) ∷ rule key.Next (reference masters) ∷ []

-- a master, with its header, its footer and its name
abbrev pub master_by : List (List ℕ) → List (List ℕ) → Element → List HeadPar → List HeadPar → List ℕ → Master
master_by layouts masters element header footer name = record {
  name = name;
  layout = stated_or key.Layout (reference layouts) [] (attributes_of element);
  next = stated_or key.Next (reference masters) [] (attributes_of element);
  header = header;
  footer = footer;
}
