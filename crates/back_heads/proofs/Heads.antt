-- A paragraph of a header or footer is read back.
use Rattle.std.proofs.Common.{◌≡◌, List, [], ◌∷◌, map, codes, refl, ap, ap₂, ◌∙◌}
use Rattle.doc_model.specs.declared.page_layout.HeadPar.{HeadPar}
use Rattle.doc_model.specs.declared.paragraph.Item.{Item, out-Item}
use Rattle.doc_model.specs.declared.paragraph.What.{What}
use Rattle.load_model.specs.declared.element.Attribute.{Attribute}
use Rattle.load_model.specs.Blocks.{left_by}
use Rattle.load_model.specs.Content.{items_of_raw}
use Rattle.load_model.specs.Headers.{Within, content_of, head_rules}
use Rattle.load_model.specs.Left.{Left, both}
use Rattle.load_model.specs.Styles.{Names}
use Rattle.written_model.specs.Content.{bare_items, head_content}
use Rattle.back_styles.proofs.Parts.{attributes_shown}
use Rattle.back_items.specs.Items.{IsReadAs}
use Rattle.back_heads.specs.Heads.{IsHeadBack, IsReadableHead, paragraph_read}
use Rattle.back_heads.proofs.Inside.{head_given, within_named}
use Rattle.back_heads.proofs.Items.{items_back}

-- what items without spans are
whats_back : (whats : List What) → map (λ item. (out-Item item).what) (bare_items whats) ≡ whats
whats_back [] = refl
whats_back (what ∷ whats) = ap (λ (more : List What). what ∷ more) (whats_back whats)

module _ (names : Names) (par : HeadPar) (is : IsReadableHead par) where
  back : IsReadAs (content_of names (map head_given (head_content par.items))) (bare_items par.items)
  back = items_back names par.items is.each_item is.adjusts is.few

  pub head_back : IsHeadBack names par
  head_back = record {
    value =
        ap (λ (held : Within). made (items_of_raw (held.inside names).raws)) (within_named (codes "text:p") [] (head_content par.items))
        ∙ ap made back.same ∙ ap of_whats (whats_back par.items);
    left =
        ap₂ (λ (attributes : List Attribute) (held : Within). both (left_by (head_rules (paragraph_read par)) attributes) (held.inside names).left)
        (attributes_shown (codes "text:p") [] (head_content par.items)) (within_named (codes "text:p") [] (head_content par.items))
        ∙ ap (λ (left : Left). both (left_by (head_rules (paragraph_read par)) []) left) back.none;
  } where
    of_whats : List What → HeadPar
    of_whats whats = record { items = whats }

    made : List Item → HeadPar
    made items = record { items = map (λ item. (out-Item item).what) items }
