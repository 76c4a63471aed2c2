-- Each style, list style and layout of a valid document is read as itself, where its numbers are in the ranges of their types.
use Rattle.std.proofs.Common.{◌≡◌, ℕ, inl, inr, List, [], ◌∷◌, map, refl, Some, option_to_list}
use Rattle.std.specs.List.{AllByRecursion as Each}
use Rattle.doc_model.specs.declared.document.Document.{Document}
use Rattle.doc_model.specs.declared.list_style.ListStyle.{ListStyle}
use Rattle.doc_model.specs.declared.page_layout.PageLayout.{PageLayout}
use Rattle.doc_model.specs.declared.style.Style.{Style}
use Rattle.doc_model.specs.Valid.{AreLevels, IsNoneOrGiven, IsStyle, IsValid}
use Rattle.load_model.specs.Styles.{Names, reference, master_reference}
use Rattle.back_fields.specs.Fit.{IsName}
use Rattle.back_paragraphs.specs.Paragraphs.{IsNoneOrGood}
use Rattle.back_references.proofs.Good.{given_good, style_good}
use Rattle.back_lists.specs.Lists.{IsInRange as IsLevelInRange, IsListBack, IsOutlineBack}
use Rattle.back_lists.proofs.Lists.{list_back, outline_back}
use Rattle.back_sheets.specs.Layouts.{HasLengths, IsLayoutBack}
use Rattle.back_sheets.proofs.Layouts.{layout_back}
use Rattle.back_styles.specs.Styles.{AreInRange, IsReadableStyle, IsStyleBack, IsDefaultBack}
use Rattle.back_styles.proofs.Styles.{style_back, default_back}
use Rattle.tree_places.proofs.Within.{each_weaker}
use Rattle.back_parts.specs.Parts.{AreStylesInRange, names_in}
use Rattle.back_parts.proofs.Lists.{each_joined}
use Rattle.back_parts.proofs.Named.{AreNamed, names_given}

-- a master that is stated is the empty text, or is there
master_read_back : (names : Names) (name : List ℕ) → IsNoneOrGood (reference names.masters) name → master_reference names name ≡ Some name
master_read_back names [] good = refl
master_read_back names (c ∷ cs) (inl none) = absurd (cc)
master_read_back names (c ∷ cs) (inr good) = good

master_good : (names : Names) (name : List ℕ) → IsNoneOrGiven names.masters name → master_reference names name ≡ Some name
master_good names name given = master_read_back names name (given_good names.masters name given)

style_readable : (doc : Document) (style : Style) → IsName style.name → IsStyle doc style → AreInRange style.props → IsReadableStyle (names_in doc) style
style_readable doc style name is ranges = record {
  name = name;
  parent = style_good (names_in doc) doc style.family style.parent refl is.parent;
  next = style_good (names_in doc) doc style.family style.next refl is.next;
  master = each_weaker (IsNoneOrGiven (map (λ master. master.name) doc.masters)) (λ name. master_reference (names_in doc) name ≡ Some name) (master_good (names_in doc)) (option_to_list style.master) is.master;
  outline = is.outline;
  properties = is.properties;
  tabs = is.tabs;
  ranges = ranges;
}

module _ (doc : Document) (valid : IsValid doc) (ranges : AreStylesInRange doc) where
  abbrev given : AreNamed doc
  given = names_given doc valid

  pub each_style_back : Each (IsStyleBack (names_in doc)) doc.styles
  each_style_back =
      each_joined (λ (style : Style). IsName style.name × IsStyle doc style) (λ style. AreInRange style.props) (IsStyleBack (names_in doc))
      (λ style is own. style_back (names_in doc) style (style_readable doc style is.0 is.1 own)) doc.styles
      (each_joined (λ (style : Style). IsName style.name) (IsStyle doc) (λ style. IsName style.name × IsStyle doc style) (λ style name is. (name, is)) doc.styles given.styles valid.styles) ranges.styles

  pub default_style_back : IsDefaultBack doc.defaults
  default_style_back = default_back doc.defaults valid.default_tabs ranges.defaults

  pub each_list_back : Each IsListBack doc.lists
  each_list_back =
      each_joined (λ (list : ListStyle). IsName list.name × AreLevels list.levels) (λ list. Each IsLevelInRange list.levels) IsListBack
      (λ list is own. list_back list is.0 (own, is.1.1)) doc.lists
      (each_joined (λ (list : ListStyle). IsName list.name) (λ list. AreLevels list.levels) (λ list. IsName list.name × AreLevels list.levels) (λ list name is. (name, is)) doc.lists given.lists valid.lists) ranges.lists

  pub outline_style_back : IsOutlineBack doc.outline
  outline_style_back = outline_back doc.outline valid.outline.0 (ranges.outline, valid.outline.1.1) valid.outline.2

  pub each_layout_back : Each IsLayoutBack doc.layouts
  each_layout_back =
      each_joined (λ (layout : PageLayout). IsName layout.name) HasLengths IsLayoutBack (λ layout name own. layout_back layout (record { name = name; lengths = own })) doc.layouts given.layouts ranges.layouts
