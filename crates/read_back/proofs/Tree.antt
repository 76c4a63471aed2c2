-- The style parts, masters and root of a tree that is but for places the one that a document is written as.
use Rattle.std.proofs.Common.{◌≡◌, [], ◌∷◌, sym, ap, ◌∙◌}
use Rattle.doc_model.specs.declared.document.Document.{Document}
use Rattle.doc_model.specs.Valid.{IsValid}
use Rattle.load_model.specs.declared.names.Key.TheVariants as key
use Rattle.load_model.specs.declared.element.Element.{Element as Read}
use Rattle.load_model.specs.Blocks.{left_by}
use Rattle.load_model.specs.Headers.{masters, masters_left}
use Rattle.load_model.specs.Left.{all_but, attributes_of, children, nothing}
use Rattle.load_model.specs.Loaded.{body_left, is_global, read_in_root}
use Rattle.load_model.specs.Styles.{Names, defaults, layouts, list_styles, names_of, outline, style_parts_left, styles}
use Rattle.load_model.specs.Values as value
use Rattle.load_model.specs.Values.{rule}
use Rattle.back_names.specs.Named.{placeless}
use Rattle.back_parts.specs.Parts.{AreBack, names_in, root_read}
use Rattle.back_parts.proofs.Files.{attributes_whole, body_whole, global_back, root_whole}
use Rattle.back_parts.proofs.Heads.{each_master_back}
use Rattle.back_parts.proofs.Masters.{masters_back, masters_whole}
use Rattle.back_parts.proofs.Names.{names_back}
use Rattle.back_parts.proofs.Sheets.{defaults_back, layouts_back, lists_back, outline_back, sheets_left, styles_back}
use Rattle.back_parts.proofs.Styles.{default_style_back, each_layout_back, each_list_back, each_style_back, outline_style_back}
use Rattle.back_sheet_places.proofs.Bare.{attributes_bare}
use Rattle.back_sheet_places.proofs.Files.{body_left_bare, global_bare, root_left_bare}
use Rattle.back_sheet_places.proofs.Heads.{masters_bare, masters_left_bare}
use Rattle.back_sheet_places.proofs.Kept.{names_bare}
use Rattle.back_sheet_places.proofs.Lefts.{parts_left_bare}
use Rattle.back_sheet_places.proofs.Values.{defaults_bare, layouts_bare, lists_bare, outline_bare, styles_bare}
use Rattle.read_back.specs.Back.{HasRanges}

-- all parts of a valid document are read as themselves
pub parts_back : (doc : Document) → IsValid doc → HasRanges doc → AreBack doc
parts_back doc valid ranges = record {
  styles = each_style_back doc valid ranges.sheets;
  defaults = default_style_back doc valid ranges.sheets;
  lists = each_list_back doc valid ranges.sheets;
  outline = outline_style_back doc valid ranges.sheets;
  layouts = each_layout_back doc valid ranges.sheets;
  masters = each_master_back doc valid ranges.heads;
}

module _ (doc : Document) (root : Read) (valid : IsValid doc) (back : AreBack doc) (same : placeless root ≡ root_read doc) where
  -- what doesn't look at places is that of the tree that is written
  bare_is : {X : Type 0} (f : Read → X) → f (placeless root) ≡ f root → f root ≡ f (root_read doc)
  bare_is f e = sym e ∙ ap f same

  names_same : names_of root ≡ names_of (root_read doc)
  names_same = bare_is names_of (names_bare root)

  pub names_are : names_of root ≡ names_in doc
  names_are = names_same ∙ names_back doc valid

  -- with the names of the tree
  by_names : {X : Type 0} (f : Names → Read → X) → ((names : Names) → f names (placeless root) ≡ f names root) → f (names_of root) root ≡ f (names_of (root_read doc)) (root_read doc)
  by_names f e = bare_is (f (names_of root)) (e (names_of root)) ∙ ap (λ (names : Names). f names (root_read doc)) names_same

  pub styles_are : styles (names_of root) root ≡ doc.styles
  styles_are = by_names styles (λ names. styles_bare names root) ∙ styles_back doc valid back

  pub defaults_are : defaults root ≡ doc.defaults
  defaults_are = bare_is defaults (defaults_bare root) ∙ defaults_back doc valid back

  pub lists_are : list_styles root ≡ doc.lists
  lists_are = bare_is list_styles (lists_bare root) ∙ lists_back doc valid back

  pub outline_is : outline root ≡ doc.outline
  outline_is = bare_is outline (outline_bare root) ∙ outline_back doc valid back

  pub layouts_are : layouts root ≡ doc.layouts
  layouts_are = bare_is layouts (layouts_bare root) ∙ layouts_back doc valid back

  pub masters_are : masters (names_of root) root ≡ doc.masters
  masters_are = by_names masters (λ names. masters_bare names root) ∙ masters_back doc valid back

  pub global_is : is_global root ≡ doc.global
  global_is = bare_is is_global (global_bare root) ∙ global_back doc

  -- nothing is left out
  pub sheets_whole : style_parts_left (names_of root) root ≡ nothing
  sheets_whole = by_names style_parts_left (λ names. parts_left_bare names root) ∙ sheets_left doc valid back

  pub heads_whole : masters_left (names_of root) root ≡ nothing
  heads_whole = by_names masters_left (λ names. masters_left_bare names root) ∙ masters_whole doc valid back

  pub own_whole : left_by (rule key.Mimetype value.any_text ∷ []) (attributes_of root) ≡ nothing
  own_whole = bare_is (λ (one : Read). left_by (rule key.Mimetype value.any_text ∷ []) (attributes_of one)) (ap (left_by (rule key.Mimetype value.any_text ∷ [])) (attributes_bare root)) ∙ attributes_whole doc

  pub held_whole : all_but (read_in_root root) (children root) ≡ nothing
  held_whole = bare_is (λ (one : Read). all_but (read_in_root one) (children one)) (root_left_bare root) ∙ root_whole doc

  pub inner_whole : body_left root ≡ nothing
  inner_whole = bare_is body_left (body_left_bare root) ∙ body_whole doc
