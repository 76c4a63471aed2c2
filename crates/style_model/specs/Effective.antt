-- Effective properties: of each property the first stated value along the style, its ancestors, the default style and what holds where nothing is stated.
use Rattle.std.specs.Prelude.{ℕ, pos, true, false, List, [], ◌∷◌, ◌++◌, map, Option, Some, None}
use Rattle.doc_model.specs.declared.style.Family.{Family}
use Rattle.doc_model.specs.declared.style.Family.TheVariants as family
use Rattle.doc_model.specs.declared.style.Style.{Style}
use Rattle.doc_model.specs.declared.style.Props.{Props}
use Rattle.doc_model.specs.declared.style.Align.TheVariants as align
use Rattle.doc_model.specs.declared.style.BreakAt.TheVariants as break
use Rattle.doc_model.specs.declared.style.PageStart.TheVariants as number
use Rattle.style_model.specs.Lineage.{lineage}

-- the first stated one of some values
abbrev pub first_stated : {X : Type 0} → List (Option X) → Option X
first_stated [] = None
first_stated (None ∷ values) = first_stated values
first_stated (Some value ∷ values) = Some value

-- of each property the first stated value along some properties
abbrev pub stated_along : List Props → Props
stated_along candidates = record {
  margin_left = first_stated (map (λ props. props.margin_left) candidates);
  margin_right = first_stated (map (λ props. props.margin_right) candidates);
  margin_top = first_stated (map (λ props. props.margin_top) candidates);
  margin_bottom = first_stated (map (λ props. props.margin_bottom) candidates);
  indent = first_stated (map (λ props. props.indent) candidates);
  align = first_stated (map (λ props. props.align) candidates);
  break_before = first_stated (map (λ props. props.break_before) candidates);
  break_after = first_stated (map (λ props. props.break_after) candidates);
  keep_next = first_stated (map (λ props. props.keep_next) candidates);
  keep_together = first_stated (map (λ props. props.keep_together) candidates);
  widows = first_stated (map (λ props. props.widows) candidates);
  orphans = first_stated (map (λ props. props.orphans) candidates);
  page_number = first_stated (map (λ props. props.page_number) candidates);
  display = first_stated (map (λ props. props.display) candidates);
  tabs = first_stated (map (λ props. props.tabs) candidates);
}

-- what holds where nothing is stated: no margins and no indent, lines at the start, no breaks and keeps, two lines at least before and behind a page's end, and shown
abbrev pub where_unstated : Props
where_unstated = record {
  margin_left = Some (pos 0);
  margin_right = Some (pos 0);
  margin_top = Some (pos 0);
  margin_bottom = Some (pos 0);
  indent = Some (pos 0);
  align = Some align.Start;
  break_before = Some break.Auto;
  break_after = Some break.Auto;
  keep_next = Some false;
  keep_together = Some false;
  widows = Some 2;
  orphans = Some 2;
  page_number = Some number.Auto;
  display = Some true;
  tabs = Some [];
}

-- the properties that are stated along a style and its ancestors
abbrev pub stated : List Style → Family → List ℕ → Props
stated styles of name = stated_along (map (λ style. style.props) (lineage styles of name))

-- the master that is stated along a style and its ancestors; the empty name may be stated
abbrev pub stated_master : List Style → Family → List ℕ → Option (List ℕ)
stated_master styles of name = first_stated (map (λ style. style.master) (lineage styles of name))

-- the effective properties of a paragraph style
abbrev pub effective : Props → List Style → List ℕ → Props
effective defaults styles name = stated_along (map (λ style. style.props) (lineage styles family.Paragraph name) ++ defaults ∷ where_unstated ∷ [])
