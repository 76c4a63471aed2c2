-- What the parts of styles hold.
use Rattle.std.proofs.Common.{◌≡◌, ℕ, Bool, true, false, List, [], ◌∷◌, ◌++◌, map, length, refl, ap, sym, ◌∙◌}
use Rattle.std.specs.Prelude.{◌||◌, ◌==◌, not, codes}
use Rattle.std.proofs.lemmas.List.{append-nil}
use Rattle.std.specs.List.{list_any}
use Rattle.markup_nodes.specs.Node.{Node}
use Rattle.markup_nodes.specs.declared.tree.Elem.{Elem}
use Rattle.doc_model.specs.declared.style.Style.{Style}
use Rattle.doc_model.specs.declared.style.Props.{Props}
use Rattle.doc_model.specs.declared.list_style.ListStyle.{ListStyle}
use Rattle.doc_model.specs.declared.page_layout.PageLayout.{PageLayout}
use Rattle.spelling_model.specs.Spelling.{is_there}
use Rattle.tree_text.specs.Writing.{child_text, content_text}
use Rattle.written_model.specs.Elements.{part}
use Rattle.written_model.specs.Styles.{style_element, default_style, property_elements, outline_style, list_style_element, layout_element}
use Rattle.sheet_write.specs.Parts.{part_start, part_end, is_among, style_nodes, styles_nodes, automatic_nodes}
use Rattle.sheet_write.specs.Sheets.{outline_level}
use Rattle.sheet_write.proofs.HeldLemmas.{part_holds, contents_join}
use Rattle.sheet_write.proofs.DefaultLemmas.{there-default}
use Rattle.sheet_write.proofs.ThereLemmas.{there-append, there-map, there-length, there-part}

-- one style
pub among_none : (auto : Bool) (style : Style) → is_among auto style ≡ false → content_text (style_nodes auto (style ∷ [])) ≡ []
among_none auto style e = rw e refl

pub among_one : (auto : Bool) (style : Style) → is_among auto style ≡ true → child_text (style_element style) ≡ content_text (style_nodes auto (style ∷ []))
among_one auto style e = rw e (sym (append-nil (child_text (style_element style))))

-- one style in front of others
pub among-cons : (auto : Bool) (style : Style) (styles : List Style) → content_text (style_nodes auto (style ∷ [])) ++ content_text (style_nodes auto styles) ≡ content_text (style_nodes auto (style ∷ styles))
among-cons auto style styles = by_test (is_among auto style) refl where
  by_test : (b : Bool) → is_among auto style ≡ b → content_text (style_nodes auto (style ∷ [])) ++ content_text (style_nodes auto styles) ≡ content_text (style_nodes auto (style ∷ styles))
  by_test true e = rw e (ap (λ (t : List ℕ). t ++ content_text (style_nodes auto styles)) (append-nil (child_text (style_element style))))
  by_test false e = rw e refl

-- whether there is one
pub there-among : (auto : Bool) (styles : List Style) → is_there (style_nodes auto styles) ≡ list_any (is_among auto) styles
there-among auto [] = refl
there-among auto (style ∷ styles) = by_test (there-among auto styles) (is_among auto style) refl where
  by_test : is_there (style_nodes auto styles) ≡ list_any (is_among auto) styles → (b : Bool) → is_among auto style ≡ b → is_there (style_nodes auto (style ∷ styles)) ≡ list_any (is_among auto) (style ∷ styles)
  by_test rest true e = rw e refl
  by_test rest false e = rw e rest

there-items : {X : Type 0} (f : X → Node Elem) (xs : List X) → is_there (map f xs) ≡ not (length xs == 0)
there-items f xs = there-map f xs ∙ sym (there-length xs)

there-outline : (outline : ListStyle) → is_there (outline_style outline) ≡ not (length outline.levels == 0)
there-outline outline = there-part (codes "text:outline-style") (map outline_level outline.levels) ∙ there-items outline_level outline.levels

-- whether the parts hold something
pub there-styles : (defaults : Props) (styles : List Style) (outline : ListStyle) (lists : List ListStyle)
    → is_there (styles_nodes defaults styles outline lists) ≡ (is_there (property_elements defaults) || is_there (style_nodes false styles) || not (length outline.levels == 0) || not (length lists == 0))
there-styles defaults styles outline lists =
    let a = default_style defaults in
    let b = style_nodes false styles in
    let d = outline_style outline in
    let x = map list_style_element lists in
    there-append (a ++ b ++ d) x ∙ (ap (λ (t : Bool). t || is_there x) (there-append (a ++ b) d ∙ ap (λ (t : Bool). t || is_there d) (there-append a b))
    ∙ (ap (λ (t : Bool). t || is_there b || is_there d || is_there x) (there-default defaults)
    ∙ (ap (λ (t : Bool). is_there (property_elements defaults) || is_there b || t || is_there x) (there-outline outline)
    ∙ ap (λ (t : Bool). is_there (property_elements defaults) || is_there b || not (length outline.levels == 0) || t) (there-items list_style_element lists))))

pub there-automatic : (styles : List Style) (layouts : List PageLayout) → is_there (automatic_nodes styles layouts) ≡ (is_there (style_nodes true styles) || not (length layouts == 0))
there-automatic styles layouts =
    there-append (style_nodes true styles) (map layout_element layouts) ∙ ap (λ (t : Bool). is_there (style_nodes true styles) || t) (there-items layout_element layouts)

-- the parts from their pieces
pub styles_part_text : (defaults : Props) (styles : List Style) (outline : ListStyle) (lists : List ListStyle) (holds : Bool) → holds ≡ is_there (styles_nodes defaults styles outline lists)
    → part_start (codes "office:styles") holds
    ++ (content_text (default_style defaults) ++ (content_text (style_nodes false styles) ++ (content_text (outline_style outline) ++ (content_text (map list_style_element lists) ++ part_end (codes "office:styles") holds))))
    ≡ content_text (part (codes "office:styles") (styles_nodes defaults styles outline lists))
styles_part_text defaults styles outline lists holds e =
    let a = default_style defaults in
    let b = style_nodes false styles in
    let d = outline_style outline in
    let x = map list_style_element lists in
    let start = part_start (codes "office:styles") holds in
    let end = part_end (codes "office:styles") holds in
    ap (λ (t : List ℕ). start ++ t)
    (contents_join a b (content_text d ++ (content_text x ++ end)) ∙ (contents_join (a ++ b) d (content_text x ++ end) ∙ contents_join (a ++ b ++ d) x end))
    ∙ part_holds (codes "office:styles") (styles_nodes defaults styles outline lists) holds e

pub automatic_part_text : (styles : List Style) (layouts : List PageLayout) (holds : Bool) → holds ≡ is_there (automatic_nodes styles layouts)
    → part_start (codes "office:automatic-styles") holds ++ (content_text (style_nodes true styles) ++ (content_text (map layout_element layouts) ++ part_end (codes "office:automatic-styles") holds))
    ≡ content_text (part (codes "office:automatic-styles") (automatic_nodes styles layouts))
automatic_part_text styles layouts holds e =
    let start = part_start (codes "office:automatic-styles") holds in
    let end = part_end (codes "office:automatic-styles") holds in
    ap (λ (t : List ℕ). start ++ t) (contents_join (style_nodes true styles) (map layout_element layouts) end) ∙ part_holds (codes "office:automatic-styles") (automatic_nodes styles layouts) holds e
