-- The rows of paragraphs begin no section, and close what they open.
use Rattle.std.proofs.Common.{◌≡◌, ℕ, ◌+◌, ◌-◌, Bool, false, eqb, List, [], ◌∷◌, ◌++◌, map, length, ap, sym, ◌∙◌, subst, arith, append_assoc, length-append}
use Rattle.std.specs.Prelude.{if◌then◌else◌}
use Rattle.std.specs.List.{flat_map, AllByRecursion as Each}
use Rattle.std.proofs.lemmas.Bool.Decides.{nat_tests}
use Rattle.doc_model.specs.declared.block.Block.{Block, roll-Block}
use Rattle.doc_model.specs.declared.block.Block.TheOpen.{Block-F, Section-F}
use Rattle.doc_model.specs.declared.block.Section.{Section, roll-Section}
use Rattle.doc_model.specs.declared.block.Block.TheFolds.{ind-Block, map-Block, map-Section}
use Rattle.doc_model.specs.declared.paragraph.Par.{Par, roll-Par}
use Rattle.doc_model.specs.declared.paragraph.Item.{Item, roll-Item}
use Rattle.doc_model.specs.declared.paragraph.What.{What, roll-What}
use Rattle.doc_model.specs.declared.paragraph.Note.{Note, roll-Note}
use Rattle.doc_model.specs.declared.paragraph.What.TheOpen.{What-F, Item-F, Note-F, Par-F}
use Rattle.doc_model.specs.declared.paragraph.What.TheFolds.{fold-roll-What, ind-Par, map-Par, map-Item, map-What, map-Note}
use Rattle.node_array.specs.declared.row.Row.{Row}
use Rattle.node_array.specs.declared.row.Row.TheVariants as row
use Rattle.node_array.specs.Rows.{par_rows, block_rows, rows_of}
use Rattle.node_array.proofs.OneBody.{item_rows, what_rows, note_rows, par_opens, note_opens, item_opens}
use Rattle.container_rows.proofs.Parts.{block_is, section_is}
use Rattle.section_rows.specs.Starts.{closing}

-- rows that close what they open
abbrev pub Closes : List Row → Type 0
Closes rows = (depth : ℕ) (more : List Row) → closing depth (rows ++ more) ≡ length rows + closing depth more

pub closes_none : Closes []
closes_none depth more = omega arith

pub closes_both : (a b : List Row) → Closes a → Closes b → Closes (a ++ b)
closes_both a b one other depth more =
    ap (closing depth) (append_assoc a b more) ∙ one depth (b ++ more) ∙ ap (λ (n : ℕ). length a + n) (other depth more)
    ∙ sum (length a) (length b) (closing depth more) ∙ ap (λ (n : ℕ). n + closing depth more) (sym (length-append a b)) where
      sum : (i j k : ℕ) → i + (j + k) ≡ i + j + k
      sum i j k = omega arith

pub closes_par : (head : _) (items : _) (rows : List Row) → Closes rows → Closes (row.Par head items ∷ rows)
closes_par head items rows one depth more = omega (arith, one depth more)

at_end : (depth : ℕ) (more : List Row) → closing (depth + 1) (row.End ∷ more) ≡ closing depth more + 1
at_end depth more =
    let open_still : eqb (depth + 1) 0 ≡ false = grind (arith, nat_tests) in
    let less : depth + 1 - 1 ≡ depth = omega arith in
    ap (λ (b : Bool). if b then 0 else closing (depth + 1 - 1) more + 1) open_still ∙ ap (λ (n : ℕ). closing n more + 1) less

inside : (rows : List Row) → Closes rows → (depth : ℕ) (more : List Row) → closing (depth + 1) ((rows ++ row.End ∷ []) ++ more) + 1 ≡ length rows + (closing depth more + 1) + 1
inside rows one depth more =
    ap (λ (rs : List Row). closing (depth + 1) rs + 1) (append_assoc rows (row.End ∷ []) more) ∙ ap (λ (n : ℕ). n + 1) (one (depth + 1) (row.End ∷ more))
    ∙ ap (λ (n : ℕ). length rows + n + 1) (at_end depth more)

pub closes_note : (rows : List Row) → Closes rows → Closes (row.NoteText ∷ (rows ++ row.End ∷ []))
closes_note rows one depth more = omega (arith, inside rows one depth more, length-append rows (row.End ∷ []))

pub closes_section : (head : _) (rows : List Row) → Closes rows → Closes (row.Start head ∷ (rows ++ row.End ∷ []))
closes_section head rows one depth more = omega (arith, inside rows one depth more, length-append rows (row.End ∷ []))

-- rows that begin no section
abbrev pub NoStart : Row → Type 0
NoStart (row.Start head) = ⊥
NoStart row.End = Unit {0}
NoStart (row.Par head items) = Unit {0}
NoStart row.NoteText = Unit {0}

pub record Flat (rows : List Row) : Type 0 where
  pub plain : Each NoStart rows
  pub closes : Closes rows

plain_both : (a b : List Row) → Each NoStart a → Each NoStart b → Each NoStart (a ++ b)
plain_both [] b one other = other
plain_both (r ∷ a) b one other = (one.0, plain_both a b one.1 other)

flat_none : Flat []
flat_none = record { plain = tt; closes = closes_none }

flat_both : (a b : List Row) → Flat a → Flat b → Flat (a ++ b)
flat_both a b one other = record { plain = plain_both a b one.plain other.plain; closes = closes_both a b one.closes other.closes }

flat_par : (head : _) (items : _) (rows : List Row) → Flat rows → Flat (row.Par head items ∷ rows)
flat_par head items rows one = record { plain = (tt, one.plain); closes = closes_par head items rows one.closes }

flat_note : (rows : List Row) → Flat rows → Flat (row.NoteText ∷ (rows ++ row.End ∷ []))
flat_note rows one = record { plain = (tt, plain_both rows (row.End ∷ []) one.plain (tt, tt)); closes = closes_note rows one.closes }

-- paragraphs
abbrev What-Known : Type 0
What-Known = (what : What) × Flat (what_rows what).1

abbrev Item-Known : Type 0
Item-Known = (item : Item) × Flat (item_rows item).1

abbrev Note-Known : Type 0
Note-Known = (note : Note) × Flat (note_rows note).1

abbrev Par-Known : Type 0
Par-Known = (par : Par) × Flat (par_rows par)

no_rows : (x : What-F What Item Note Par) → what_rows (roll-What x) ≡ (roll-What x, []) → Flat (what_rows (roll-What x)).1
no_rows x is = subst (λ (p : What × List Row). Flat p.1) (sym is) flat_none

what_flat : (y : What-F What-Known Item-Known Note-Known Par-Known)
    → Flat (what_rows (roll-What (map-What What-Known Item-Known Note-Known Par-Known What Item Note Par (λ k. k.0) (λ k. k.0) (λ k. k.0) (λ k. k.0) y))).1
what_flat (What-F.Char c) = no_rows (What-F.Char c) (simp fold-roll-What)
what_flat What-F.Tab = no_rows What-F.Tab (simp fold-roll-What)
what_flat What-F.Break = no_rows What-F.Break (simp fold-roll-What)
what_flat (What-F.Field field) = no_rows (What-F.Field field) (simp fold-roll-What)
what_flat (What-F.Note note) =
    let is : what_rows (roll-What (What-F.Note note.0)) ≡ (roll-What (What-F.Note (note_rows note.0).0), (note_rows note.0).1) = simp fold-roll-What in
    subst (λ (p : What × List Row). Flat p.1) (sym is) note.1
what_flat (What-F.Mark mark) = no_rows (What-F.Mark mark) (simp fold-roll-What)

what_step : (x : What-F What Item Note Par) (y : What-F What-Known Item-Known Note-Known Par-Known) → map-What What-Known Item-Known Note-Known Par-Known What Item Note Par (λ k. k.0) (λ k. k.0) (λ k. k.0) (λ k. k.0) y ≡ x → Flat (what_rows (roll-What x)).1
what_step x y is = subst (λ (z : What-F What Item Note Par). Flat (what_rows (roll-What z)).1) is (what_flat y)

item_step : (x : Item-F What Item Note Par) (y : Item-F What-Known Item-Known Note-Known Par-Known) → map-Item What-Known Item-Known Note-Known Par-Known What Item Note Par (λ k. k.0) (λ k. k.0) (λ k. k.0) (λ k. k.0) y ≡ x → Flat (item_rows (roll-Item x)).1
item_step x y is =
    subst (λ (z : Item-F What Item Note Par). Flat (item_rows (roll-Item z)).1) is
    (subst (λ (p : Item × List Row). Flat p.1) (sym (item_opens (record { spans = y.spans; what = y.what.0 }))) y.what.1)

pars_flat : (ks : List Par-Known) → Flat (flat_map (λ rows. rows) (map par_rows (map (λ k. k.0) ks)))
pars_flat [] = flat_none
pars_flat (k ∷ ks) = flat_both (par_rows k.0) (flat_map (λ rows. rows) (map par_rows (map (λ k. k.0) ks))) k.1 (pars_flat ks)

note_step : (x : Note-F What Item Note Par) (y : Note-F What-Known Item-Known Note-Known Par-Known) → map-Note What-Known Item-Known Note-Known Par-Known What Item Note Par (λ k. k.0) (λ k. k.0) (λ k. k.0) (λ k. k.0) y ≡ x → Flat (note_rows (roll-Note x)).1
note_step x y is =
    subst (λ (z : Note-F What Item Note Par). Flat (note_rows (roll-Note z)).1) is
    (subst (λ (p : Note × List Row). Flat p.1) (sym (note_opens (record { id = y.id; class = y.class; pars = map (λ k. k.0) y.pars })))
    (flat_note (flat_map (λ rows. rows) (map par_rows (map (λ k. k.0) y.pars))) (pars_flat y.pars)))

items_flat : (ks : List Item-Known) → Flat (flat_map (λ i. i.1) (map item_rows (map (λ k. k.0) ks)))
items_flat [] = flat_none
items_flat (k ∷ ks) = flat_both (item_rows k.0).1 (flat_map (λ i. i.1) (map item_rows (map (λ k. k.0) ks))) k.1 (items_flat ks)

par_step : (x : Par-F What Item Note Par) (y : Par-F What-Known Item-Known Note-Known Par-Known) → map-Par What-Known Item-Known Note-Known Par-Known What Item Note Par (λ k. k.0) (λ k. k.0) (λ k. k.0) (λ k. k.0) y ≡ x → Flat (par_rows (roll-Par x))
par_step x y is =
    let items : List Item = map (λ k. k.0) y.items in
    let whole : Par-F What Item Note Par = record { id = y.id; style = y.style; level = y.level; list = y.list; items = items } in
    subst (λ (z : Par-F What Item Note Par). Flat (par_rows (roll-Par z))) is
    (subst (λ (rows : List Row). Flat rows) (sym (par_opens whole))
    (flat_par (record { id = y.id; style = y.style; level = y.level; list = y.list }) (map (λ i. i.0) (map item_rows items)) (flat_map (λ i. i.1) (map item_rows items)) (items_flat y.items)))

pub par_flat : (par : Par) → Flat (par_rows par)
par_flat = ind-Par (λ what. Flat (what_rows what).1) (λ item. Flat (item_rows item).1) (λ note. Flat (note_rows note).1) (λ par. Flat (par_rows par)) what_step item_step note_step par_step

-- blocks
abbrev Block-Known : Type 0
Block-Known = (block : Block) × Closes (block_rows block)

abbrev Section-Known : Type 0
Section-Known = (section : Section) × Closes (block_rows (roll-Block (Block-F.Section section)))

blocks_close : (ks : List Block-Known) → Closes (rows_of (map (λ k. k.0) ks))
blocks_close [] = closes_none
blocks_close (k ∷ ks) = closes_both (block_rows k.0) (rows_of (map (λ k. k.0) ks)) k.1 (blocks_close ks)

block_step : (x : Block-F Block Section) (y : Block-F Block-Known Section-Known) → map-Block Block-Known Section-Known Block Section (λ k. k.0) (λ k. k.0) y ≡ x → Closes (block_rows (roll-Block x))
block_step x (Block-F.Par par) is = subst (λ (z : Block-F Block Section). Closes (block_rows (roll-Block z))) is (subst Closes (sym (block_is par)) (par_flat par).closes)
block_step x (Block-F.Section known) is = subst (λ (z : Block-F Block Section). Closes (block_rows (roll-Block z))) is known.1

section_step : (x : Section-F Block Section) (y : Section-F Block-Known Section-Known) → map-Section Block-Known Section-Known Block Section (λ k. k.0) (λ k. k.0) y ≡ x
    → Closes (block_rows (roll-Block (Block-F.Section (roll-Section x))))
section_step x y is =
    let blocks : List Block = map (λ k. k.0) y.blocks in
    subst (λ (z : Section-F Block Section). Closes (block_rows (roll-Block (Block-F.Section (roll-Section z))))) is
    (subst Closes (sym (section_is (record { kind = y.kind; name = y.name; style = y.style; protected = y.protected; hidden = y.hidden; source = y.source; blocks = blocks })))
    (closes_section (record { kind = y.kind; name = y.name; style = y.style; protected = y.protected; hidden = y.hidden; source = y.source }) (rows_of blocks) (blocks_close y.blocks)))

pub block_closes : (block : Block) → Closes (block_rows block)
block_closes = ind-Block (λ block. Closes (block_rows block)) (λ section. Closes (block_rows (roll-Block (Block-F.Section section)))) block_step section_step

pub all_close : (blocks : List Block) → Closes (rows_of blocks)
all_close [] = closes_none
all_close (block ∷ blocks) = closes_both (block_rows block) (rows_of blocks) (block_closes block) (all_close blocks)

-- the row that closes a section
pub closing_place : (blocks : List Block) (behind : List Row) → closing 0 (rows_of blocks ++ row.End ∷ behind) ≡ length (rows_of blocks)
closing_place blocks behind = all_close blocks 0 (row.End ∷ behind) ∙ nothing (length (rows_of blocks)) where
  nothing : (n : ℕ) → n + 0 ≡ n
  nothing n = omega arith
