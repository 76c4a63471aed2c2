-- What the rows of parts tell of what their container holds.
use Rattle.std.proofs.Common.{◌≡◌, ℕ, ◌+◌, ◌-◌, Bool, false, eqb, List, [], ◌∷◌, ◌++◌, map, Option, None, Some, refl, ap, sym, ◌∙◌, subst, arith, append_assoc}
use Rattle.std.specs.Prelude.{if◌then◌else◌, option_map}
use Rattle.std.specs.List.{flat_map}
use Rattle.std.proofs.lemmas.Bool.Decides.{nat_tests}
use Rattle.doc_model.specs.declared.block.Block.{Block, roll-Block}
use Rattle.doc_model.specs.declared.block.Block.TheOpen.{Block-F, Section-F}
use Rattle.doc_model.specs.declared.block.Section.{Section, roll-Section}
use Rattle.doc_model.specs.declared.block.Block.TheFolds.{ind-Block, map-Block, map-Section}
use Rattle.doc_model.specs.declared.paragraph.Par.{Par, roll-Par}
use Rattle.doc_model.specs.declared.paragraph.ParHead.{ParHead}
use Rattle.doc_model.specs.declared.paragraph.Item.{Item, roll-Item}
use Rattle.doc_model.specs.declared.paragraph.What.{What, roll-What}
use Rattle.doc_model.specs.declared.paragraph.Note.{Note, roll-Note}
use Rattle.doc_model.specs.declared.paragraph.What.TheOpen.{What-F, Item-F, Note-F, Par-F}
use Rattle.doc_model.specs.declared.paragraph.What.TheViews.{out-roll-Par}
use Rattle.doc_model.specs.declared.paragraph.What.TheFolds.{fold-roll-What, ind-Par, map-Par, map-Item, map-What, map-Note}
use Rattle.doc_model.specs.Reading.{number_of}
use Rattle.edit_rules.specs.Places.{WithContainers, as_block}
use Rattle.node_array.specs.declared.row.Row.{Row}
use Rattle.node_array.specs.declared.row.Row.TheVariants as row
use Rattle.node_array.specs.Rows.{par_rows, block_rows, rows_of}
use Rattle.node_array.proofs.OneBody.{item_rows, what_rows, note_rows, par_opens, note_opens, item_opens}
use Rattle.container_rows.specs.Standing.{AreBehindAll}
use Rattle.container_rows.proofs.Parts.{block_is, section_is}
use Rattle.held_rows.specs.HeldFrom.{held_of}
use Rattle.held_rows.proofs.Stands.{par_containers, section_none}
use Rattle.level_rows.specs.Level.{held_in}

-- rows that are passed over, in any container or within another one
abbrev Passes : List Row → Type 0
Passes rows = (depth : ℕ) (more : List Row) → held_in depth (rows ++ more) ≡ held_in depth more

abbrev pub Skips : List Row → Type 0
Skips rows = (depth : ℕ) (more : List Row) → held_in (depth + 1) (rows ++ more) ≡ held_in (depth + 1) more

within : (depth : ℕ) → eqb (depth + 1) 0 ≡ false
within depth = grind (arith, nat_tests)

less : (depth : ℕ) → depth + 1 - 1 ≡ depth
less depth = omega arith

at_end : (depth : ℕ) (more : List Row) → held_in (depth + 1) (row.End ∷ more) ≡ held_in depth more
at_end depth more =
    ap (λ (b : Bool). if b then [] else held_in (depth + 1 - 1) more) (within depth) ∙ ap (λ (n : ℕ). held_in n more) (less depth)

passes_both : (a b : List Row) → Passes a → Passes b → Passes (a ++ b)
passes_both a b one other depth more = ap (held_in depth) (append_assoc a b more) ∙ one depth (b ++ more) ∙ other depth more

skips_both : (a b : List Row) → Skips a → Skips b → Skips (a ++ b)
skips_both a b one other depth more = ap (held_in (depth + 1)) (append_assoc a b more) ∙ one depth (b ++ more) ∙ other depth more

skips_par : (head : ParHead) (items : List Item) (rows : List Row) → Passes rows → Skips (row.Par head items ∷ rows)
skips_par head items rows one depth more =
    ap (λ (b : Bool). (if b then Some head.id.0 ∷ [] else []) ++ held_in (depth + 1) (rows ++ more)) (within depth) ∙ one (depth + 1) more

-- what is enclosed
enclosed : (rows : List Row) → Skips rows → (depth : ℕ) (more : List Row) → held_in (depth + 1) ((rows ++ row.End ∷ []) ++ more) ≡ held_in depth more
enclosed rows one depth more = ap (held_in (depth + 1)) (append_assoc rows (row.End ∷ []) more) ∙ one depth (row.End ∷ more) ∙ at_end depth more

passes_note : (rows : List Row) → Skips rows → Passes (row.NoteText ∷ (rows ++ row.End ∷ []))
passes_note rows one depth more = enclosed rows one depth more

-- what is known of a paragraph or block
pub record Level (rows : List Row) (held : Option ℕ) : Type 0 where
  pub skips : Skips rows
  pub here : (more : List Row) → held_in 0 (rows ++ more) ≡ held ∷ held_in 0 more

abbrev What-Known : Type 0
What-Known = (what : What) × Passes (what_rows what).1

abbrev Item-Known : Type 0
Item-Known = (item : Item) × Passes (item_rows item).1

abbrev Note-Known : Type 0
Note-Known = (note : Note) × Passes (note_rows note).1

abbrev Par-Known : Type 0
Par-Known = (par : Par) × Level (par_rows par) (Some (number_of par))

no_rows : (x : What-F What Item Note Par) → what_rows (roll-What x) ≡ (roll-What x, []) → Passes (what_rows (roll-What x)).1
no_rows x is = subst (λ (p : What × List Row). Passes p.1) (sym is) (λ depth more. refl)

what_passes : (y : What-F What-Known Item-Known Note-Known Par-Known)
    → Passes (what_rows (roll-What (map-What What-Known Item-Known Note-Known Par-Known What Item Note Par (λ k. k.0) (λ k. k.0) (λ k. k.0) (λ k. k.0) y))).1
what_passes (What-F.Char c) = no_rows (What-F.Char c) (simp fold-roll-What)
what_passes What-F.Tab = no_rows What-F.Tab (simp fold-roll-What)
what_passes What-F.Break = no_rows What-F.Break (simp fold-roll-What)
what_passes (What-F.Field field) = no_rows (What-F.Field field) (simp fold-roll-What)
what_passes (What-F.Note note) =
    let is : what_rows (roll-What (What-F.Note note.0)) ≡ (roll-What (What-F.Note (note_rows note.0).0), (note_rows note.0).1) = simp fold-roll-What in
    subst (λ (p : What × List Row). Passes p.1) (sym is) note.1
what_passes (What-F.Mark mark) = no_rows (What-F.Mark mark) (simp fold-roll-What)

what_step : (x : What-F What Item Note Par) (y : What-F What-Known Item-Known Note-Known Par-Known) → map-What What-Known Item-Known Note-Known Par-Known What Item Note Par (λ k. k.0) (λ k. k.0) (λ k. k.0) (λ k. k.0) y ≡ x → Passes (what_rows (roll-What x)).1
what_step x y is = subst (λ (z : What-F What Item Note Par). Passes (what_rows (roll-What z)).1) is (what_passes y)

item_step : (x : Item-F What Item Note Par) (y : Item-F What-Known Item-Known Note-Known Par-Known) → map-Item What-Known Item-Known Note-Known Par-Known What Item Note Par (λ k. k.0) (λ k. k.0) (λ k. k.0) (λ k. k.0) y ≡ x → Passes (item_rows (roll-Item x)).1
item_step x y is =
    subst (λ (z : Item-F What Item Note Par). Passes (item_rows (roll-Item z)).1) is
    (subst (λ (p : Item × List Row). Passes p.1) (sym (item_opens (record { spans = y.spans; what = y.what.0 }))) y.what.1)

pars_skip : (ks : List Par-Known) → Skips (flat_map (λ rows. rows) (map par_rows (map (λ k. k.0) ks)))
pars_skip [] = λ depth more. refl
pars_skip (k ∷ ks) = skips_both (par_rows k.0) (flat_map (λ rows. rows) (map par_rows (map (λ k. k.0) ks))) k.1.skips (pars_skip ks)

note_step : (x : Note-F What Item Note Par) (y : Note-F What-Known Item-Known Note-Known Par-Known) → map-Note What-Known Item-Known Note-Known Par-Known What Item Note Par (λ k. k.0) (λ k. k.0) (λ k. k.0) (λ k. k.0) y ≡ x → Passes (note_rows (roll-Note x)).1
note_step x y is =
    subst (λ (z : Note-F What Item Note Par). Passes (note_rows (roll-Note z)).1) is
    (subst (λ (p : Note × List Row). Passes p.1) (sym (note_opens (record { id = y.id; class = y.class; pars = map (λ k. k.0) y.pars })))
    (passes_note (flat_map (λ rows. rows) (map par_rows (map (λ k. k.0) y.pars))) (pars_skip y.pars)))

items_pass : (ks : List Item-Known) → Passes (flat_map (λ i. i.1) (map item_rows (map (λ k. k.0) ks)))
items_pass [] = λ depth more. refl
items_pass (k ∷ ks) = passes_both (item_rows k.0).1 (flat_map (λ i. i.1) (map item_rows (map (λ k. k.0) ks))) k.1 (items_pass ks)

par_level : (x : Par-F What Item Note Par) (ks : List Item-Known) → Level (par_rows (roll-Par (record x { items = map (λ k. k.0) ks }))) (Some (number_of (roll-Par (record x { items = map (λ k. k.0) ks }))))
par_level x ks =
    let items : List Item = map (λ k. k.0) ks in
    let whole : Par-F What Item Note Par = record x { items = items } in
    let head : ParHead = record { id = x.id; style = x.style; level = x.level; list = x.list } in
    let bare : List Item = map (λ i. i.0) (map item_rows items) in
    let texts : List Row = flat_map (λ i. i.1) (map item_rows items) in
    let number : number_of (roll-Par whole) ≡ x.id.0 = ap (λ (p : Par-F What Item Note Par). p.id.0) (out-roll-Par whole) in
    let passes : Passes texts = items_pass ks in
    subst (λ (rows : List Row). Level rows (Some (number_of (roll-Par whole)))) (sym (par_opens whole))
    (subst (λ (n : ℕ). Level (row.Par head bare ∷ texts) (Some n)) (sym number)
    (record {
      skips = skips_par head bare texts passes;
      here = λ more. ap (λ (rest : List (Option ℕ)). Some x.id.0 ∷ rest) (passes 0 more);
    }))

par_step : (x : Par-F What Item Note Par) (y : Par-F What-Known Item-Known Note-Known Par-Known) → map-Par What-Known Item-Known Note-Known Par-Known What Item Note Par (λ k. k.0) (λ k. k.0) (λ k. k.0) (λ k. k.0) y ≡ x → Level (par_rows (roll-Par x)) (Some (number_of (roll-Par x)))
par_step x y is =
    subst (λ (z : Par-F What Item Note Par). Level (par_rows (roll-Par z)) (Some (number_of (roll-Par z)))) is
    (par_level (record { id = y.id; style = y.style; level = y.level; list = y.list; items = [] }) y.items)

pub par_known : (par : Par) → Level (par_rows par) (Some (number_of par))
par_known = ind-Par (λ what. Passes (what_rows what).1) (λ item. Passes (item_rows item).1) (λ note. Passes (note_rows note).1) (λ par. Level (par_rows par) (Some (number_of par))) what_step item_step note_step par_step

-- blocks
abbrev pub number_held : Block → Option ℕ
number_held block = option_map number_of (held_of block)

abbrev Block-Known : Type 0
Block-Known = (block : Block) × Level (block_rows block) (number_held block)

abbrev Section-Known : Type 0
Section-Known = (section : Section) × Level (block_rows (roll-Block (Block-F.Section section))) (number_held (roll-Block (Block-F.Section section)))

par_block : (par : Par) → Level (block_rows (as_block par)) (number_held (as_block par))
par_block par =
    let held : number_held (as_block par) ≡ Some (number_of par) = ap (λ (w : WithContainers). option_map number_of w.held) (par_containers par) in
    subst (λ (h : Option ℕ). Level (block_rows (as_block par)) h) (sym held) (subst (λ (rows : List Row). Level rows (Some (number_of par))) (sym (block_is par)) (par_known par))

blocks_skip : (ks : List Block-Known) → Skips (rows_of (map (λ k. k.0) ks))
blocks_skip [] = λ depth more. refl
blocks_skip (k ∷ ks) = skips_both (block_rows k.0) (rows_of (map (λ k. k.0) ks)) k.1.skips (blocks_skip ks)

section_level : (x : Section-F Block Section) (ks : List Block-Known)
    → Level (block_rows (roll-Block (Block-F.Section (roll-Section (record x { blocks = map (λ k. k.0) ks }))))) (number_held (roll-Block (Block-F.Section (roll-Section (record x { blocks = map (λ k. k.0) ks })))))
section_level x ks =
    let blocks : List Block = map (λ k. k.0) ks in
    let whole : Section-F Block Section = record x { blocks = blocks } in
    let block : Block = roll-Block (Block-F.Section (roll-Section whole)) in
    let held : number_held block ≡ None = ap (option_map number_of) (section_none (roll-Section whole)) in
    let skips : Skips (rows_of blocks) = blocks_skip ks in
    subst (λ (rows : List Row). Level rows (number_held block)) (sym (section_is whole))
    (subst (λ (h : Option ℕ). Level (row.Start (record { kind = x.kind; name = x.name; style = x.style; protected = x.protected; hidden = x.hidden; source = x.source }) ∷ (rows_of blocks ++ row.End ∷ [])) h) (sym held)
    (record {
      skips = λ depth more.
          ap (λ (b : Bool). (if b then None ∷ [] else []) ++ held_in (depth + 1 + 1) ((rows_of blocks ++ row.End ∷ []) ++ more)) (within depth) ∙ enclosed (rows_of blocks) skips (depth + 1) more;
      here = λ more. ap (λ (rest : List (Option ℕ)). None ∷ rest) (enclosed (rows_of blocks) skips 0 more);
    }))

block_step : (x : Block-F Block Section) (y : Block-F Block-Known Section-Known) → map-Block Block-Known Section-Known Block Section (λ k. k.0) (λ k. k.0) y ≡ x → Level (block_rows (roll-Block x)) (number_held (roll-Block x))
block_step x (Block-F.Par par) is = subst (λ (z : Block-F Block Section). Level (block_rows (roll-Block z)) (number_held (roll-Block z))) is (par_block par)
block_step x (Block-F.Section known) is = subst (λ (z : Block-F Block Section). Level (block_rows (roll-Block z)) (number_held (roll-Block z))) is known.1

section_step : (x : Section-F Block Section) (y : Section-F Block-Known Section-Known) → map-Section Block-Known Section-Known Block Section (λ k. k.0) (λ k. k.0) y ≡ x
    → Level (block_rows (roll-Block (Block-F.Section (roll-Section x)))) (number_held (roll-Block (Block-F.Section (roll-Section x))))
section_step x y is =
    subst (λ (z : Section-F Block Section). Level (block_rows (roll-Block (Block-F.Section (roll-Section z)))) (number_held (roll-Block (Block-F.Section (roll-Section z))))) is
    (section_level (record { kind = y.kind; name = y.name; style = y.style; protected = y.protected; hidden = y.hidden; source = y.source; blocks = [] }) y.blocks)

block_known : (block : Block) → Level (block_rows block) (number_held block)
block_known = ind-Block (λ block. Level (block_rows block) (number_held block)) (λ section. Level (block_rows (roll-Block (Block-F.Section section))) (number_held (roll-Block (Block-F.Section section)))) block_step section_step

none_behind : (behind : List Row) → AreBehindAll behind → held_in 0 behind ≡ []
none_behind [] ends = refl
none_behind (row.End ∷ rows) ends = refl
none_behind (row.Start head ∷ rows) ends = absurd ends
none_behind (row.Par head items ∷ rows) ends = absurd ends
none_behind (row.NoteText ∷ rows) ends = absurd ends

pub blocks_held : (blocks : List Block) (behind : List Row) → AreBehindAll behind → held_in 0 (rows_of blocks ++ behind) ≡ map number_held blocks
blocks_held [] behind ends = none_behind behind ends
blocks_held (block ∷ blocks) behind ends =
    ap (held_in 0) (append_assoc (block_rows block) (rows_of blocks) behind) ∙ (block_known block).here (rows_of blocks ++ behind)
    ∙ ap (λ (rest : List (Option ℕ)). number_held block ∷ rest) (blocks_held blocks behind ends)
