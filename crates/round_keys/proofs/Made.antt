-- A key by its parts.
use Rattle.std.proofs.Common.{◌≡◌, ℕ, Bool, true, false, List, [], ◌++◌, Option, refl, ap, ap₂, sym, ◌∙◌}
use Rattle.std.specs.Prelude.{pos, ◌||◌, unwrap_or}
use Rattle.doc_model.specs.declared.paragraph.Item.{Item}
use Rattle.doc_model.specs.declared.paragraph.ListPos.{ListPos}
use Rattle.doc_model.specs.declared.paragraph.Par.{out-Par}
use Rattle.doc_model.specs.declared.paragraph.ParHead.{ParHead}
use Rattle.doc_model.specs.declared.page.PageTable.{PageTable}
use Rattle.doc_model.specs.declared.page.Label.{Label}
use Rattle.doc_model.specs.declared.style.Align.TheVariants.{Start}
use Rattle.doc_model.specs.declared.style.Props.{Props}
use Rattle.doc_model.specs.declared.document.Document.{Document}
use Rattle.doc_model.specs.Reading.{number_of}
use Rattle.doc_model.specs.Parts.{items_of}
use Rattle.field_model.specs.declared.gathered.Shown.{Shown}
use Rattle.key_parts.specs.declared.parts.SpanDisplay.{SpanDisplay}
use Rattle.key_parts.specs.Displays.{displays_of}
use Rattle.key_parts.specs.KeyFrom.{front_of, level_of}
use Rattle.key_parts.specs.Shows.{Piece, pieces, text_of, citations}
use Rattle.line_model.specs.declared.key.Key.{Key}
use Rattle.page_lookup.specs.Numbers.{columns_of}
use Rattle.format_model.specs.Standing.{props_of}
use Rattle.format_model.specs.Keys.{Standing, par_of, is_hidden, front_citation, label_of, shown_under, pieces_under, columns_under, columns_of_page, columns_without_page, key_under}
use Rattle.round_pars.specs.declared.pars.RoundPar.{RoundPar}
use Rattle.round_pars.specs.Pars.{IsRoundPar}
use Rattle.round_keys.specs.declared.keys.KeyPlace.{KeyPlace}
use Rattle.round_keys.specs.Places.{StandsAt}
use Rattle.round_keys.proofs.Columns.{columns_are}

-- a key of these
abbrev pub made : Bool → List ℕ → List Piece → ℕ → Props → Option ListPos → Key
made hidden front shown columns props list = record {
  hidden = hidden;
  text = front ++ text_of shown;
  notes = citations front shown;
  columns = columns;
  left = unwrap_or props.margin_left (pos 0);
  right = unwrap_or props.margin_right (pos 0);
  indent = unwrap_or props.indent (pos 0);
  level = level_of list;
  align = unwrap_or props.align Start;
  tabs = unwrap_or props.tabs [];
}

-- is the same of the same
made_same : (a b : Bool) (c d : List ℕ) (e f : List Piece) (g h : ℕ) (i j : Props) (k l : Option ListPos) → a ≡ b → c ≡ d → e ≡ f → g ≡ h → i ≡ j → k ≡ l → made a c e g i k ≡ made b d f h j l
made_same a b c d e f g h i j k l p q r s t u =
    ap (λ x. made x c e g i k) p ∙ ap (λ x. made b x e g i k) q ∙ ap (λ x. made b d x g i k) r ∙ ap (λ x. made b d f x i k) s ∙ ap (λ x. made b d f h x k) t ∙ ap (λ x. made b d f h j x) u

pieces_same : (a b : List SpanDisplay) (c d : Props) (e f : List Item) (g h : List Shown) → a ≡ b → c ≡ d → e ≡ f → g ≡ h → pieces a (unwrap_or c.display true) e g ≡ pieces b (unwrap_or d.display true) f h
pieces_same a b c d e f g h p q r s =
    ap (λ x. pieces x (unwrap_or c.display true) e g) p ∙ ap (λ (x : Props). pieces b (unwrap_or x.display true) e g) q ∙ ap (λ x. pieces b (unwrap_or d.display true) x g) r ∙ ap (λ x. pieces b (unwrap_or d.display true) f x) s

-- the columns of a paragraph
pub columns_here : (doc : Document) (table : PageTable) (one : Standing) (number columns : ℕ) → number ≡ number_of (par_of one) → columns ≡ columns_without_page doc one → unwrap_or (columns_of table number) columns ≡ columns_under doc table one
columns_here doc table one number columns e c =
    ap (λ (n : ℕ). unwrap_or (columns_of table n) columns) e ∙ ap (λ (found : Option ℕ). unwrap_or found columns) (columns_are table (par_of one)) ∙ ap (unwrap_or (columns_of_page table (par_of one))) c

-- the key of these parts is that of the paragraph
pub key_is : (doc : Document) (table : PageTable) (one : Standing) (par : RoundPar) (place : KeyPlace) (displays : List SpanDisplay) (items more : List Item) (shown : List Shown) (columns : ℕ)
    → IsRoundPar doc one par → StandsAt doc table one place → displays ≡ displays_of doc.styles → items ++ more ≡ par.text.now.items → shown ≡ shown_under doc table (par_of one)
    → columns ≡ unwrap_or (columns_of table par.text.now.head.id.0) place.columns
    → made (place.in_hidden_section || place.in_hidden_note) (front_of place.citation.now par.text.now.label.full) (pieces displays (unwrap_or par.props.display true) (items ++ more) shown) columns par.props par.text.now.head.list
    ≡ key_under doc table one
key_is doc table one par place displays items more shown columns is at d i s c =
    let front : front_of place.citation.now par.text.now.label.full ≡ front_of (front_citation doc table one) (label_of doc (par_of one)).full =
    ap₂ front_of at.citation (ap (λ (l : Label). l.full) is.text.label) in
    made_same (place.in_hidden_section || place.in_hidden_note) (is_hidden one) (front_of place.citation.now par.text.now.label.full) (front_of (front_citation doc table one) (label_of doc (par_of one)).full)
    (pieces displays (unwrap_or par.props.display true) (items ++ more) shown) (pieces_under doc table (par_of one)) columns (columns_under doc table one) par.props (props_of doc (par_of one)) par.text.now.head.list (out-Par (par_of one)).list
    at.hidden front
    (pieces_same displays (displays_of doc.styles) par.props (props_of doc (par_of one)) (items ++ more) (items_of (par_of one)) shown (shown_under doc table (par_of one)) d is.props (i ∙ is.text.items) s)
    (c ∙ columns_here doc table one par.text.now.head.id.0 place.columns (ap (λ (head : ParHead). head.id.0) is.text.head) at.columns)
    is.props (ap (λ (head : ParHead). head.list) is.text.head)
