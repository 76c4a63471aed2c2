-- Masters, with their headers and footers, may be written.
use Rattle.std.proofs.Common.{ℕ, ◌≤◌, List, [], ◌∷◌, ◌++◌, map, codes, refl, arith}
use Rattle.std.specs.List.{AllByRecursion as Each}
use Rattle.markup_nodes.specs.declared.words.Attr.{Attr}
use Rattle.markup_nodes.specs.declared.tree.Elem.{Elem}
use Rattle.markup_nodes.specs.Node.{Node}
use Rattle.markup_parts.specs.Chars.{is_name_start, is_name_char}
use Rattle.doc_model.specs.declared.field.Field.{Field}
use Rattle.doc_model.specs.declared.field.Field.TheVariants.{Sequence, VarSet, VarGet, Chapter, PageNumber, PageCount, BookRef, SeqRef, NoteRef}
use Rattle.doc_model.specs.declared.page_layout.HeadPar.{HeadPar}
use Rattle.doc_model.specs.declared.page_layout.Master.{Master}
use Rattle.doc_model.specs.declared.paragraph.Item.{Item, roll-Item}
use Rattle.doc_model.specs.declared.paragraph.Note.{Note}
use Rattle.doc_model.specs.declared.paragraph.Par.{Par}
use Rattle.doc_model.specs.declared.paragraph.What.{What, out-What}
use Rattle.doc_model.specs.declared.paragraph.What.TheOpen.{What-F}
use Rattle.doc_model.specs.Chars.{IsLegalText}
use Rattle.doc_model.specs.Valid.{IsOfHeader}
use Rattle.written_model.specs.Content.{bare_items, head_content}
use Rattle.written_model.specs.Elements.{attribute, unless_empty, empty_element, part}
use Rattle.written_model.specs.Styles.{head_paragraph, master_element}
use Rattle.back_writable.proofs.Chars.{AreLegal}
use Rattle.back_writable.proofs.Content.{IsGoodItem, IsGoodWhat, content_fits}
use Rattle.back_writable.proofs.Fields.{IsGoodField}
use Rattle.back_writable.proofs.Lists.{each_append, each_both, each_made}
use Rattle.back_writable.proofs.Nodes.{Fits, IsGood, attribute_good, unless_good, element_fits, empty_fits, part_fits}

-- no note stands in a header
abbrev IsAnyNote : Note → Type 0
IsAnyNote note = Unit {0}

-- a field of a header
abbrev IsHeaderField : Field → Type 0
IsHeaderField (PageNumber select adjust format) = Unit {0}
IsHeaderField (PageCount format) = Unit {0}
IsHeaderField (Chapter display level) = (1 ≤ level) × (level ≤ 10)
IsHeaderField _ = ⊥

field_good : (field : Field) → IsHeaderField field → IsGoodField field
field_good (Sequence name refname format) is = absurd is
field_good (VarSet name value) is = absurd is
field_good (VarGet name) is = absurd is
field_good (Chapter display level) is = record { names = tt; value = tt }
field_good (PageNumber select adjust format) is = record { names = tt; value = tt }
field_good (PageCount format) is = record { names = tt; value = tt }
field_good (BookRef name form) is = absurd is
field_good (SeqRef name form) is = absurd is
field_good (NoteRef name class form) is = absurd is

-- what an item of a header is
abbrev IsHeaderWhat : What-F What Item Note Par → Type 0
IsHeaderWhat (What-F.Char c) = IsLegalText c
IsHeaderWhat What-F.Tab = Unit {0}
IsHeaderWhat What-F.Break = Unit {0}
IsHeaderWhat (What-F.Field field) = IsHeaderField field
IsHeaderWhat (What-F.Note note) = ⊥
IsHeaderWhat (What-F.Mark mark) = ⊥

what_good : (what : What-F What Item Note Par) → IsHeaderWhat what → IsGoodWhat IsAnyNote what
what_good (What-F.Char c) is = is
what_good What-F.Tab is = tt
what_good What-F.Break is = tt
what_good (What-F.Field field) is = field_good field is
what_good (What-F.Note note) is = absurd is
what_good (What-F.Mark mark) is = absurd is

bare_good : (what : What) → IsOfHeader what → IsGoodItem IsAnyNote (roll-Item (record { spans = []; what = what }))
bare_good what is = record { what = what_good (out-What what) is; names = tt; few = omega arith }

head_fits : (par : HeadPar) → Each IsOfHeader par.items → Fits 10 (head_paragraph par)
unfolding is_name_start is_name_char
head_fits par each =
    element_fits 9 (codes "text:p") [] (head_content par.items) refl tt
    (content_fits IsAnyNote 0 (λ note. empty_element (codes "text:note") []) (λ note any. empty_fits 0 (codes "text:note") [] refl tt) (bare_items par.items)
    (each_made IsOfHeader (IsGoodItem IsAnyNote) (λ (what : What). roll-Item (record { spans = []; what = what })) bare_good par.items each))

-- the names of a master
abbrev pub names_of_master : Master → List (List ℕ)
names_of_master master = master.name ∷ master.layout ∷ master.next ∷ []

pub master_fits : (master : Master) → Each AreLegal (names_of_master master) → Each (λ par. Each IsOfHeader par.items) (master.header ++ master.footer) → Fits 12 (master_element master)
unfolding is_name_start is_name_char
master_fits master legal items =
    let header : List (Node Elem) = part (codes "style:header") (map head_paragraph master.header) in
    let footer : List (Node Elem) = part (codes "style:footer") (map head_paragraph master.footer) in
    let layout : List Attr = unless_empty (codes "style:page-layout-name") master.layout in
    let next : List Attr = unless_empty (codes "style:next-style-name") master.next in
    let both = each_both (λ (par : HeadPar). Each IsOfHeader par.items) master.header master.footer items in
    element_fits 11 (codes "style:master-page") (attribute (codes "style:name") master.name ∷ layout ++ next) (header ++ footer) refl (
      attribute_good (codes "style:name") master.name refl legal.0,
      each_append IsGood layout next (unless_good (codes "style:page-layout-name") master.layout refl legal.1.0) (unless_good (codes "style:next-style-name") master.next refl legal.1.1.0),
    )
    (each_append (Fits 11) header footer
    (part_fits 10 (codes "style:header") (map head_paragraph master.header) refl (each_made (λ (par : HeadPar). Each IsOfHeader par.items) (Fits 10) head_paragraph head_fits master.header both.0))
    (part_fits 10 (codes "style:footer") (map head_paragraph master.footer) refl (each_made (λ (par : HeadPar). Each IsOfHeader par.items) (Fits 10) head_paragraph head_fits master.footer both.1)))
