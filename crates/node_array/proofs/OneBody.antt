-- The body that is read from the rows of a body is that body.
use Rattle.std.proofs.Common.{◌≡◌, List, [], ◌∷◌, ◌++◌, map, refl, ap, sym, ◌∙◌, subst, append_assoc}
use Rattle.std.specs.List.{flat_map}
use Rattle.doc_model.specs.declared.block.Block.{Block, roll-Block}
use Rattle.doc_model.specs.declared.block.Block.TheOpen.{Block-F, Section-F}
use Rattle.doc_model.specs.declared.block.Section.{Section, roll-Section, fold-Section}
use Rattle.doc_model.specs.declared.block.Block.TheViews.{out-roll-Block}
use Rattle.doc_model.specs.declared.block.Block.TheFolds.{fold-roll-Block, fold-roll-Section, ind-Block, map-Block, map-Section}
use Rattle.doc_model.specs.declared.paragraph.Par.{Par, roll-Par}
use Rattle.doc_model.specs.declared.paragraph.Item.{Item, roll-Item, out-Item}
use Rattle.doc_model.specs.declared.paragraph.What.{What, roll-What, out-What}
use Rattle.doc_model.specs.declared.paragraph.Note.{Note, roll-Note, out-Note}
use Rattle.doc_model.specs.declared.paragraph.What.TheViews.{out-roll-What, out-roll-Note}
use Rattle.doc_model.specs.declared.paragraph.What.TheOpen.{What-F, Item-F, Note-F, Par-F}
use Rattle.doc_model.specs.declared.paragraph.What.TheFolds.{fold-Item, fold-What, fold-Note, fold-roll-Par, fold-roll-Item, fold-roll-What, fold-roll-Note, ind-Par, map-Par, map-Item, map-What, map-Note}
use Rattle.node_array.specs.declared.row.Row.{Row}
use Rattle.node_array.specs.declared.row.Row.TheVariants as row
use Rattle.node_array.specs.Rows.{of_what, of_item, of_note, of_par, par_rows, of_block, of_section, block_rows, rows_of}
use Rattle.node_array.specs.Body.{Level, what_with, texts_left, with_text, texts_behind, with_texts, put_block, put_texts, par_of, pars_of, read_row, levels_of, blocks_of, body_of}

abbrev pub item_rows : Item → Item × List Row
item_rows = fold-Item (What × List Row) (Item × List Row) (Note × List Row) (List Row) of_what of_item of_note of_par

abbrev pub what_rows : What → What × List Row
what_rows = fold-What (What × List Row) (Item × List Row) (Note × List Row) (List Row) of_what of_item of_note of_par

abbrev pub note_rows : Note → Note × List Row
note_rows = fold-Note (What × List Row) (Item × List Row) (Note × List Row) (List Row) of_what of_item of_note of_par

abbrev pub section_rows : Section → List Row
section_rows = fold-Section (List Row) (List Row) of_block of_section

-- the texts of a note, which are one, or of what is no note, which are none
abbrev texts_in : What-F What Item Note Par → List (List Par)
texts_in (What-F.Note note) = (out-Note note).pars ∷ []
texts_in (What-F.Char c) = []
texts_in What-F.Tab = []
texts_in What-F.Break = []
texts_in (What-F.Field field) = []
texts_in (What-F.Mark mark) = []

abbrev texts_of : Item → List (List Par)
texts_of item = texts_in (out-What (out-Item item).what)

abbrev par_block : Par → Block
par_block par = roll-Block (Block-F.Par par)

-- what a part of a paragraph is read as
record Reads-What (what : What) : Type 0 where
  rows : (more : List Row) → levels_of ((what_rows what).1 ++ more) ≡ put_texts (texts_in (out-What what)) (levels_of more)
  filled : (texts : List (List Par)) → what_with (out-What (what_rows what).0) (texts_in (out-What what) ++ texts) ≡ what
  left : (texts : List (List Par)) → texts_left (out-What (what_rows what).0) (texts_in (out-What what) ++ texts) ≡ texts

record Reads-Item (item : Item) : Type 0 where
  rows : (more : List Row) → levels_of ((item_rows item).1 ++ more) ≡ put_texts (texts_of item) (levels_of more)
  filled : (texts : List (List Par)) → with_text (item_rows item).0 (texts_of item ++ texts) ≡ item
  left : (texts : List (List Par)) → texts_behind (item_rows item).0 (texts_of item ++ texts) ≡ texts

record Reads-Note (note : Note) : Type 0 where
  rows : (more : List Row) → levels_of ((note_rows note).1 ++ more) ≡ put_texts ((out-Note note).pars ∷ []) (levels_of more)
  filled : roll-Note (record (out-Note (note_rows note).0) { pars = (out-Note note).pars }) ≡ note

abbrev Reads-Par : Par → Type 0
Reads-Par par = (more : List Row) → levels_of (par_rows par ++ more) ≡ put_block (par_block par) (levels_of more)

-- what each comes to, one level deep
pub par_opens : (x : Par-F What Item Note Par) → par_rows (roll-Par x) ≡ row.Par (record { id = x.id; style = x.style; level = x.level; list = x.list }) (map (λ i. i.0) (map item_rows x.items)) ∷ flat_map (λ i. i.1) (map item_rows x.items)
par_opens x = simp fold-roll-Par

pub note_opens : (x : Note-F What Item Note Par) → note_rows (roll-Note x) ≡ (roll-Note (record { id = x.id; class = x.class; pars = [] }), row.NoteText ∷ (flat_map (λ rows. rows) (map par_rows x.pars) ++ row.End ∷ []))
note_opens x = simp fold-roll-Note

pub item_opens : (x : Item-F What Item Note Par) → item_rows (roll-Item x) ≡ (roll-Item (record { spans = x.spans; what = (what_rows x.what).0 }), (what_rows x.what).1)
item_opens x = simp fold-roll-Item

pub section_opens : (x : Section-F Block Section) → section_rows (roll-Section x) ≡ row.Start (record { kind = x.kind; name = x.name; style = x.style; protected = x.protected; hidden = x.hidden; source = x.source }) ∷ (flat_map (λ rows. rows) (map block_rows x.blocks) ++ row.End ∷ [])
section_opens x = simp fold-roll-Section

-- texts put in front
put_none : (levels : List Level) → put_texts [] levels ≡ levels
put_none [] = refl
put_none (level ∷ outer) = refl

put_more : (a b : List (List Par)) (levels : List Level) → put_texts a (put_texts b levels) ≡ put_texts (a ++ b) levels
put_more a b [] = refl
put_more a b (level ∷ outer) =
    let made : List (List Par) → List Level = λ ts. record { texts = ts; blocks = level.blocks } ∷ outer in
    ap made (sym (append_assoc a b level.texts))

-- what is no note
plain_reads : (x : What-F What Item Note Par) → texts_in x ≡ [] → what_rows (roll-What x) ≡ (roll-What x, []) → ((texts : List (List Par)) → what_with x texts ≡ roll-What x) → ((texts : List (List Par)) → texts_left x texts ≡ texts) → Reads-What (roll-What x)
plain_reads x none is with_none left_none =
    let own : texts_in (out-What (roll-What x)) ≡ [] = ap texts_in (out-roll-What x) ∙ none in
    record {
      rows = λ more. ap (λ (p : What × List Row). levels_of (p.1 ++ more)) is ∙ (sym (put_none (levels_of more)) ∙ ap (λ (ts : List (List Par)). put_texts ts (levels_of more)) (sym own));
      filled = λ texts. ap (λ (p : What × List Row). what_with (out-What p.0) (texts_in (out-What (roll-What x)) ++ texts)) is ∙ (ap (λ (y : What-F What Item Note Par). what_with y (texts_in (out-What (roll-What x)) ++ texts)) (out-roll-What x) ∙ with_none _);
      left = λ texts. ap (λ (p : What × List Row). texts_left (out-What p.0) (texts_in (out-What (roll-What x)) ++ texts)) is ∙ (ap (λ (y : What-F What Item Note Par). texts_left y (texts_in (out-What (roll-What x)) ++ texts)) (out-roll-What x) ∙ (left_none _ ∙ ap (λ (ts : List (List Par)). ts ++ texts) own));
    }

char_reads : (c : _) → Reads-What (roll-What (What-F.Char c))
char_reads c = plain_reads (What-F.Char c) refl (simp fold-roll-What) (λ texts. refl) (λ texts. refl)

tab_reads : Reads-What (roll-What What-F.Tab)
tab_reads = plain_reads What-F.Tab refl (simp fold-roll-What) (λ texts. refl) (λ texts. refl)

break_reads : Reads-What (roll-What What-F.Break)
break_reads = plain_reads What-F.Break refl (simp fold-roll-What) (λ texts. refl) (λ texts. refl)

field_reads : (field : _) → Reads-What (roll-What (What-F.Field field))
field_reads field = plain_reads (What-F.Field field) refl (simp fold-roll-What) (λ texts. refl) (λ texts. refl)

mark_reads : (mark : _) → Reads-What (roll-What (What-F.Mark mark))
mark_reads mark = plain_reads (What-F.Mark mark) refl (simp fold-roll-What) (λ texts. refl) (λ texts. refl)

-- a note
note_what : (note : Note) → Reads-Note note → Reads-What (roll-What (What-F.Note note))
note_what note known =
    let is : what_rows (roll-What (What-F.Note note)) ≡ (roll-What (What-F.Note (note_rows note).0), (note_rows note).1) = simp fold-roll-What in
    let own : texts_in (out-What (roll-What (What-F.Note note))) ≡ (out-Note note).pars ∷ [] = ap texts_in (out-roll-What (What-F.Note note)) in
    record {
      rows = λ more. ap (λ (p : What × List Row). levels_of (p.1 ++ more)) is ∙ (known.rows more ∙ ap (λ (ts : List (List Par)). put_texts ts (levels_of more)) (sym own));
      filled = λ texts. ap (λ (p : What × List Row). what_with (out-What p.0) (texts_in (out-What (roll-What (What-F.Note note))) ++ texts)) is ∙ (ap (λ (y : What-F What Item Note Par). what_with y (texts_in (out-What (roll-What (What-F.Note note))) ++ texts)) (out-roll-What (What-F.Note (note_rows note).0)) ∙ (ap (λ (ts : List (List Par)). what_with (What-F.Note (note_rows note).0) (ts ++ texts)) own ∙ ap (λ (n : Note). roll-What (What-F.Note n)) known.filled));
      left = λ texts. ap (λ (p : What × List Row). texts_left (out-What p.0) (texts_in (out-What (roll-What (What-F.Note note))) ++ texts)) is ∙ (ap (λ (y : What-F What Item Note Par). texts_left y (texts_in (out-What (roll-What (What-F.Note note))) ++ texts)) (out-roll-What (What-F.Note (note_rows note).0)) ∙ ap (λ (ts : List (List Par)). texts_left (What-F.Note (note_rows note).0) (ts ++ texts)) own);
    }

item_reads : (x : Item-F What Item Note Par) → Reads-What x.what → Reads-Item (roll-Item x)
item_reads x known =
    record {
      rows = λ more. ap (λ (p : Item × List Row). levels_of (p.1 ++ more)) (item_opens x) ∙ known.rows more;
      filled = λ texts. ap (λ (p : Item × List Row). with_text p.0 (texts_in (out-What x.what) ++ texts)) (item_opens x) ∙ ap (λ (w : What). roll-Item (record { spans = x.spans; what = w })) (known.filled texts);
      left = λ texts. ap (λ (p : Item × List Row). texts_behind p.0 (texts_in (out-What x.what) ++ texts)) (item_opens x) ∙ known.left texts;
    }

-- what stands in a layer with what is known of it
abbrev What-Known : Type 0
What-Known = (what : What) × Reads-What what

abbrev Item-Known : Type 0
Item-Known = (item : Item) × Reads-Item item

abbrev Note-Known : Type 0
Note-Known = (note : Note) × Reads-Note note

abbrev Par-Known : Type 0
Par-Known = (par : Par) × Reads-Par par

abbrev items_in : List Item-Known → List Item
items_in ks = map (λ k. k.0) ks

abbrev pars_in : List Par-Known → List Par
pars_in ks = map (λ k. k.0) ks

items_rows : (ks : List Item-Known) (more : List Row) → levels_of (flat_map (λ i. i.1) (map item_rows (items_in ks)) ++ more) ≡ put_texts (flat_map texts_of (items_in ks)) (levels_of more)
items_rows [] more = sym (put_none (levels_of more))
items_rows (k ∷ ks) more =
    let rest = flat_map (λ i. i.1) (map item_rows (items_in ks)) in
    ap levels_of (append_assoc (item_rows k.0).1 rest more)
    ∙ (k.1.rows (rest ++ more) ∙ (ap (λ (ls : List Level). put_texts (texts_of k.0) ls) (items_rows ks more) ∙ put_more (texts_of k.0) (flat_map texts_of (items_in ks)) (levels_of more)))

items_filled : (ks : List Item-Known) (texts : List (List Par)) → with_texts (map (λ i. i.0) (map item_rows (items_in ks))) (flat_map texts_of (items_in ks) ++ texts) ≡ items_in ks
items_filled [] texts = refl
items_filled (k ∷ ks) texts =
    let bare = (item_rows k.0).0 in
    let others = map (λ i. i.0) (map item_rows (items_in ks)) in
    let rest = flat_map texts_of (items_in ks) ++ texts in
    ap (λ (ts : List (List Par)). with_text bare ts ∷ with_texts others (texts_behind bare ts)) (append_assoc (texts_of k.0) (flat_map texts_of (items_in ks)) texts)
    ∙ (ap (λ (i : Item). i ∷ with_texts others (texts_behind bare (texts_of k.0 ++ rest))) (k.1.filled rest)
    ∙ ap (λ (is : List Item). k.0 ∷ is) (ap (λ (ts : List (List Par)). with_texts others ts) (k.1.left rest) ∙ items_filled ks texts))

-- a paragraph
abbrev par_with : Par-F What Item Note Par → List Item → Par
par_with x items = roll-Par (record x { items = items })

par_put : (x : Par-F What Item Note Par) (ks : List Item-Known) (levels : List Level) → read_row (row.Par (record { id = x.id; style = x.style; level = x.level; list = x.list }) (map (λ i. i.0) (map item_rows (items_in ks)))) (put_texts (flat_map texts_of (items_in ks)) levels) ≡ put_block (par_block (par_with x (items_in ks))) levels
par_put x ks [] = refl
par_put x ks (level ∷ outer) =
    ap (λ (is : List Item). put_block (par_block (par_with x is)) (level ∷ outer)) (items_filled ks level.texts)

par_reads : (x : Par-F What Item Note Par) (ks : List Item-Known) → Reads-Par (par_with x (items_in ks))
par_reads x ks more =
    ap (λ (rs : List Row). levels_of (rs ++ more)) (par_opens (record x { items = items_in ks }))
    ∙ (ap (λ (ls : List Level). read_row (row.Par (record { id = x.id; style = x.style; level = x.level; list = x.list }) (map (λ i. i.0) (map item_rows (items_in ks)))) ls) (items_rows ks more) ∙ par_put x ks (levels_of more))

-- a note
pars_rows : (ks : List Par-Known) (more : List Row) → levels_of (flat_map (λ rs. rs) (map par_rows (pars_in ks)) ++ (row.End ∷ more)) ≡ record { texts = []; blocks = map par_block (pars_in ks) } ∷ levels_of more
pars_rows [] more = refl
pars_rows (k ∷ ks) more =
    ap levels_of (append_assoc (par_rows k.0) (flat_map (λ rs. rs) (map par_rows (pars_in ks))) (row.End ∷ more))
    ∙ (k.1 _ ∙ ap (λ (ls : List Level). put_block (par_block k.0) ls) (pars_rows ks more))

pars_again : (pars : List Par) → pars_of (map par_block pars) ≡ pars
pars_again [] = refl
pars_again (par ∷ pars) =
    ap (λ (b : Block-F Block Section). par_of b ++ pars_of (map par_block pars)) (out-roll-Block (Block-F.Par par)) ∙ ap (λ (ps : List Par). par ∷ ps) (pars_again pars)

note_reads : (x : Note-F What Item Note Par) (ks : List Par-Known) → Reads-Note (roll-Note (record x { pars = pars_in ks }))
note_reads x ks =
    let whole : Note-F What Item Note Par = record x { pars = pars_in ks } in
    let bare : Note-F What Item Note Par = record { id = x.id; class = x.class; pars = [] } in
    let flat = flat_map (λ rs. rs) (map par_rows (pars_in ks)) in
    record {
      rows = λ more.
          ap (λ (p : Note × List Row). levels_of (p.1 ++ more)) (note_opens whole)
          ∙ (ap (λ (rs : List Row). read_row row.NoteText (levels_of rs)) (append_assoc flat (row.End ∷ []) more)
          ∙ (ap (λ (ls : List Level). read_row row.NoteText ls) (pars_rows ks more)
          ∙ ap (λ (ps : List Par). put_texts (ps ∷ []) (levels_of more)) (pars_again (pars_in ks) ∙ sym (ap (λ (l : Note-F What Item Note Par). l.pars) (out-roll-Note whole)))));
      filled =
          ap (λ (p : Note × List Row). roll-Note (record (out-Note p.0) { pars = (out-Note (roll-Note whole)).pars })) (note_opens whole)
          ∙ (ap (λ (l : Note-F What Item Note Par). roll-Note (record l { pars = (out-Note (roll-Note whole)).pars })) (out-roll-Note bare)
          ∙ ap (λ (l : Note-F What Item Note Par). roll-Note (record { id = x.id; class = x.class; pars = l.pars })) (out-roll-Note whole));
    }

what_step : (x : What-F What Item Note Par) (y : What-F What-Known Item-Known Note-Known Par-Known) → map-What What-Known Item-Known Note-Known Par-Known What Item Note Par (λ k. k.0) (λ k. k.0) (λ k. k.0) (λ k. k.0) y ≡ x → Reads-What (roll-What x)
what_step x (What-F.Char c) is = subst (λ (z : What-F What Item Note Par). Reads-What (roll-What z)) is (char_reads c)
what_step x What-F.Tab is = subst (λ (z : What-F What Item Note Par). Reads-What (roll-What z)) is tab_reads
what_step x What-F.Break is = subst (λ (z : What-F What Item Note Par). Reads-What (roll-What z)) is break_reads
what_step x (What-F.Field field) is = subst (λ (z : What-F What Item Note Par). Reads-What (roll-What z)) is (field_reads field)
what_step x (What-F.Note note) is = subst (λ (z : What-F What Item Note Par). Reads-What (roll-What z)) is (note_what note.0 note.1)
what_step x (What-F.Mark mark) is = subst (λ (z : What-F What Item Note Par). Reads-What (roll-What z)) is (mark_reads mark)

item_step : (x : Item-F What Item Note Par) (y : Item-F What-Known Item-Known Note-Known Par-Known) → map-Item What-Known Item-Known Note-Known Par-Known What Item Note Par (λ k. k.0) (λ k. k.0) (λ k. k.0) (λ k. k.0) y ≡ x → Reads-Item (roll-Item x)
item_step x y is = subst (λ (z : Item-F What Item Note Par). Reads-Item (roll-Item z)) is (item_reads (record { spans = y.spans; what = y.what.0 }) y.what.1)

note_step : (x : Note-F What Item Note Par) (y : Note-F What-Known Item-Known Note-Known Par-Known) → map-Note What-Known Item-Known Note-Known Par-Known What Item Note Par (λ k. k.0) (λ k. k.0) (λ k. k.0) (λ k. k.0) y ≡ x → Reads-Note (roll-Note x)
note_step x y is = subst (λ (z : Note-F What Item Note Par). Reads-Note (roll-Note z)) is (note_reads (record { id = y.id; class = y.class; pars = [] }) y.pars)

par_step : (x : Par-F What Item Note Par) (y : Par-F What-Known Item-Known Note-Known Par-Known) → map-Par What-Known Item-Known Note-Known Par-Known What Item Note Par (λ k. k.0) (λ k. k.0) (λ k. k.0) (λ k. k.0) y ≡ x → Reads-Par (roll-Par x)
par_step x y is = subst (λ (z : Par-F What Item Note Par). Reads-Par (roll-Par z)) is (par_reads (record { id = y.id; style = y.style; level = y.level; list = y.list; items = [] }) y.items)

par_known : (par : Par) → Reads-Par par
par_known = ind-Par Reads-What Reads-Item Reads-Note Reads-Par what_step item_step note_step par_step

-- blocks and sections
abbrev Reads-Block : Block → Type 0
Reads-Block block = (more : List Row) → levels_of (block_rows block ++ more) ≡ put_block block (levels_of more)

abbrev Reads-Section : Section → Type 0
Reads-Section section = (more : List Row) → levels_of (section_rows section ++ more) ≡ put_block (roll-Block (Block-F.Section section)) (levels_of more)

abbrev Block-Known : Type 0
Block-Known = (block : Block) × Reads-Block block

abbrev Section-Known : Type 0
Section-Known = (section : Section) × Reads-Section section

abbrev blocks_in : List Block-Known → List Block
blocks_in ks = map (λ k. k.0) ks

blocks_rows : (ks : List Block-Known) (more : List Row) → levels_of (flat_map (λ rs. rs) (map block_rows (blocks_in ks)) ++ (row.End ∷ more)) ≡ record { texts = []; blocks = blocks_in ks } ∷ levels_of more
blocks_rows [] more = refl
blocks_rows (k ∷ ks) more =
    ap levels_of (append_assoc (block_rows k.0) (flat_map (λ rs. rs) (map block_rows (blocks_in ks))) (row.End ∷ more))
    ∙ (k.1 _ ∙ ap (λ (ls : List Level). put_block k.0 ls) (blocks_rows ks more))

section_reads : (x : Section-F Block Section) (ks : List Block-Known) → Reads-Section (roll-Section (record x { blocks = blocks_in ks }))
section_reads x ks more =
    let start = row.Start (record { kind = x.kind; name = x.name; style = x.style; protected = x.protected; hidden = x.hidden; source = x.source }) in
    let flat = flat_map (λ rs. rs) (map block_rows (blocks_in ks)) in
    ap (λ (rs : List Row). levels_of (rs ++ more)) (section_opens (record x { blocks = blocks_in ks }))
    ∙ (ap (λ (rs : List Row). read_row start (levels_of rs)) (append_assoc flat (row.End ∷ []) more)
    ∙ ap (λ (ls : List Level). read_row start ls) (blocks_rows ks more))

block_step : (x : Block-F Block Section) (y : Block-F Block-Known Section-Known) → map-Block Block-Known Section-Known Block Section (λ k. k.0) (λ k. k.0) y ≡ x → Reads-Block (roll-Block x)
block_step x (Block-F.Par par) is =
    let opens : block_rows (roll-Block (Block-F.Par par)) ≡ par_rows par = simp fold-roll-Block in
    subst (λ (z : Block-F Block Section). Reads-Block (roll-Block z)) is (λ more. ap (λ (rs : List Row). levels_of (rs ++ more)) opens ∙ par_known par more)
block_step x (Block-F.Section known) is =
    let opens : block_rows (roll-Block (Block-F.Section known.0)) ≡ section_rows known.0 = simp fold-roll-Block in
    subst (λ (z : Block-F Block Section). Reads-Block (roll-Block z)) is (λ more. ap (λ (rs : List Row). levels_of (rs ++ more)) opens ∙ known.1 more)

section_step : (x : Section-F Block Section) (y : Section-F Block-Known Section-Known) → map-Section Block-Known Section-Known Block Section (λ k. k.0) (λ k. k.0) y ≡ x → Reads-Section (roll-Section x)
section_step x y is = subst (λ (z : Section-F Block Section). Reads-Section (roll-Section z)) is (section_reads (record { kind = y.kind; name = y.name; style = y.style; protected = y.protected; hidden = y.hidden; source = y.source; blocks = [] }) y.blocks)

block_known : (block : Block) → Reads-Block block
block_known = ind-Block Reads-Block Reads-Section block_step section_step

-- the body
body_rows : (body : List Block) → levels_of (rows_of body) ≡ record { texts = []; blocks = body } ∷ []
body_rows [] = refl
body_rows (block ∷ body) = block_known block (rows_of body) ∙ ap (λ (ls : List Level). put_block block ls) (body_rows body)

pub body_known : (body : List Block) → body_of (rows_of body) ≡ body
body_known body = ap blocks_of (body_rows body)

pub rows_known : (one other : List Block) → rows_of one ≡ rows_of other → one ≡ other
rows_known one other e = sym (body_known one) ∙ (ap body_of e ∙ body_known other)
