-- The rows of a body meet the containers that the body says, and close all that they open.
use Rattle.std.proofs.Common.{◌≡◌, ◌+◌, List, [], ◌∷◌, ◌++◌, length, map, refl, ap, sym, ◌∙◌, subst, None}
use Rattle.std.specs.List.{flat_map}
use Rattle.std.proofs.lemmas.List.{append-nil}
use Rattle.doc_model.specs.declared.block.Block.{Block, roll-Block}
use Rattle.doc_model.specs.declared.block.Block.TheOpen.{Block-F, Section-F}
use Rattle.doc_model.specs.declared.block.Section.{Section, roll-Section, fold-Section}
use Rattle.doc_model.specs.declared.block.Block.TheFolds.{fold-roll-Block, fold-roll-Section, ind-Block, map-Block, map-Section}
use Rattle.doc_model.specs.declared.paragraph.Par.{Par, roll-Par}
use Rattle.doc_model.specs.declared.paragraph.Item.{Item, roll-Item}
use Rattle.doc_model.specs.declared.paragraph.What.{What, roll-What}
use Rattle.doc_model.specs.declared.paragraph.Note.{Note, roll-Note}
use Rattle.doc_model.specs.declared.paragraph.What.TheOpen.{What-F, Item-F, Note-F, Par-F}
use Rattle.doc_model.specs.declared.paragraph.What.TheFolds.{fold-Item, fold-What, fold-Note, fold-roll-Par, fold-roll-Item, fold-roll-What, fold-roll-Note, ind-Par, map-Par, map-Item, map-What, map-Note}
use Rattle.node_array.specs.declared.row.Row.{Row}
use Rattle.node_array.specs.declared.row.Row.TheVariants as row
use Rattle.node_array.specs.Rows.{par_rows, block_rows, rows_of}
use Rattle.node_array.specs.Containers.{Around, in_turn, enclosed, around_what, around_item, around_note, around_par, par_around, around_section, around_block, block_around, containers_of}
use Rattle.node_array.proofs.OneBody.{item_rows, what_rows, note_rows, section_rows, par_opens, note_opens, item_opens, section_opens}
use Rattle.node_array.proofs.Stacks.{run, Fits, Goes, goes_none, goes_then, goes_each, goes_par, goes_section, goes_note}

abbrev item_around : Item → Around
item_around = fold-Item Around Around Around Around around_what around_item around_note around_par

abbrev what_around : What → Around
what_around = fold-What Around Around Around Around around_what around_item around_note around_par

abbrev note_around : Note → Around
note_around = fold-Note Around Around Around Around around_what around_item around_note around_par

abbrev section_around : Section → Around
section_around = fold-Section Around Around around_block around_section

par_around_opens : (x : Par-F What Item Note Par) → par_around (roll-Par x) ≡ (λ container at. container ∷ in_turn (map item_around x.items) container (at + 1))
par_around_opens x = simp fold-roll-Par

note_around_opens : (x : Note-F What Item Note Par) → note_around (roll-Note x) ≡ enclosed (in_turn (map par_around x.pars))
note_around_opens x = simp fold-roll-Note

item_around_opens : (x : Item-F What Item Note Par) → item_around (roll-Item x) ≡ what_around x.what
item_around_opens x = simp fold-roll-Item

section_around_opens : (x : Section-F Block Section) → section_around (roll-Section x) ≡ enclosed (in_turn (map block_around x.blocks))
section_around_opens x = simp fold-roll-Section

abbrev Goes-What : What → Type 0
Goes-What what = Goes (what_rows what).1 (what_around what)

abbrev Goes-Item : Item → Type 0
Goes-Item item = Goes (item_rows item).1 (item_around item)

abbrev Goes-Note : Note → Type 0
Goes-Note note = Goes (note_rows note).1 (note_around note)

abbrev Goes-Par : Par → Type 0
Goes-Par par = Goes (par_rows par) (par_around par)

abbrev What-Goes : Type 0
What-Goes = (what : What) × Goes-What what

abbrev Item-Goes : Type 0
Item-Goes = (item : Item) × Goes-Item item

abbrev Note-Goes : Type 0
Note-Goes = (note : Note) × Goes-Note note

abbrev Par-Goes : Type 0
Par-Goes = (par : Par) × Goes-Par par

goes_as : (rows others : List Row) (part same : Around) → others ≡ rows → same ≡ part → Goes rows part → Goes others same
goes_as rows others part same e f g = subst (λ (rs : List Row). Goes rs same) (sym e) (subst (λ (p : Around). Goes rows p) (sym f) g)

nothing : (x : What-F What Item Note Par) → what_rows (roll-What x) ≡ (roll-What x, []) → what_around (roll-What x) ≡ in_turn [] → Goes-What (roll-What x)
nothing x rows part = goes_as [] (what_rows (roll-What x)).1 (in_turn []) (what_around (roll-What x)) (ap (λ (p : What × List Row). p.1) rows) part goes_none

what_goes : (x : What-F What Item Note Par) (y : What-F What-Goes Item-Goes Note-Goes Par-Goes) → map-What What-Goes Item-Goes Note-Goes Par-Goes What Item Note Par (λ k. k.0) (λ k. k.0) (λ k. k.0) (λ k. k.0) y ≡ x → Goes-What (roll-What x)
what_goes x (What-F.Char c) is = subst (λ (z : What-F What Item Note Par). Goes-What (roll-What z)) is (nothing (What-F.Char c) (simp fold-roll-What) (simp fold-roll-What))
what_goes x What-F.Tab is = subst (λ (z : What-F What Item Note Par). Goes-What (roll-What z)) is (nothing What-F.Tab (simp fold-roll-What) (simp fold-roll-What))
what_goes x What-F.Break is = subst (λ (z : What-F What Item Note Par). Goes-What (roll-What z)) is (nothing What-F.Break (simp fold-roll-What) (simp fold-roll-What))
what_goes x (What-F.Field field) is = subst (λ (z : What-F What Item Note Par). Goes-What (roll-What z)) is (nothing (What-F.Field field) (simp fold-roll-What) (simp fold-roll-What))
what_goes x (What-F.Mark mark) is = subst (λ (z : What-F What Item Note Par). Goes-What (roll-What z)) is (nothing (What-F.Mark mark) (simp fold-roll-What) (simp fold-roll-What))
what_goes x (What-F.Note known) is =
    let rows : what_rows (roll-What (What-F.Note known.0)) ≡ (roll-What (What-F.Note (note_rows known.0).0), (note_rows known.0).1) = simp fold-roll-What in
    let part : what_around (roll-What (What-F.Note known.0)) ≡ note_around known.0 = simp fold-roll-What in
    subst (λ (z : What-F What Item Note Par). Goes-What (roll-What z)) is
    (goes_as (note_rows known.0).1 (what_rows (roll-What (What-F.Note known.0))).1 (note_around known.0) (what_around (roll-What (What-F.Note known.0))) (ap (λ (p : What × List Row). p.1) rows) part known.1)

item_goes : (x : Item-F What Item Note Par) (y : Item-F What-Goes Item-Goes Note-Goes Par-Goes) → map-Item What-Goes Item-Goes Note-Goes Par-Goes What Item Note Par (λ k. k.0) (λ k. k.0) (λ k. k.0) (λ k. k.0) y ≡ x → Goes-Item (roll-Item x)
item_goes x y is =
    let z : Item-F What Item Note Par = record { spans = y.spans; what = y.what.0 } in
    subst (λ (z : Item-F What Item Note Par). Goes-Item (roll-Item z)) is
    (goes_as (what_rows y.what.0).1 (item_rows (roll-Item z)).1 (what_around y.what.0) (item_around (roll-Item z)) (ap (λ (p : Item × List Row). p.1) (item_opens z)) (item_around_opens z) y.what.1)

note_goes : (x : Note-F What Item Note Par) (y : Note-F What-Goes Item-Goes Note-Goes Par-Goes) → map-Note What-Goes Item-Goes Note-Goes Par-Goes What Item Note Par (λ k. k.0) (λ k. k.0) (λ k. k.0) (λ k. k.0) y ≡ x → Goes-Note (roll-Note x)
note_goes x y is =
    let pars : List Par = map (λ (k : Par-Goes). k.0) y.pars in
    let z : Note-F What Item Note Par = record { id = y.id; class = y.class; pars = pars } in
    let each = goes_each (λ (k : Par-Goes). k.0) par_rows (λ (rs : List Row). rs) par_around (λ (k : Par-Goes). k.1) y.pars in
    subst (λ (z : Note-F What Item Note Par). Goes-Note (roll-Note z)) is
    (goes_as (row.NoteText ∷ (flat_map (λ rs. rs) (map par_rows pars) ++ row.End ∷ [])) (note_rows (roll-Note z)).1 (enclosed (in_turn (map par_around pars))) (note_around (roll-Note z)) (ap (λ (p : Note × List Row). p.1) (note_opens z)) (note_around_opens z) (goes_note (flat_map (λ rs. rs) (map par_rows pars)) (in_turn (map par_around pars)) each))

par_goes : (x : Par-F What Item Note Par) (y : Par-F What-Goes Item-Goes Note-Goes Par-Goes) → map-Par What-Goes Item-Goes Note-Goes Par-Goes What Item Note Par (λ k. k.0) (λ k. k.0) (λ k. k.0) (λ k. k.0) y ≡ x → Goes-Par (roll-Par x)
par_goes x y is =
    let items : List Item = map (λ (k : Item-Goes). k.0) y.items in
    let z : Par-F What Item Note Par = record { id = y.id; style = y.style; level = y.level; list = y.list; items = items } in
    let each = goes_each (λ (k : Item-Goes). k.0) item_rows (λ (i : Item × List Row). i.1) item_around (λ (k : Item-Goes). k.1) y.items in
    subst (λ (z : Par-F What Item Note Par). Goes-Par (roll-Par z)) is
    (goes_as (row.Par (record { id = y.id; style = y.style; level = y.level; list = y.list }) (map (λ i. i.0) (map item_rows items)) ∷ flat_map (λ i. i.1) (map item_rows items)) (par_rows (roll-Par z)) (λ container at. container ∷ in_turn (map item_around items) container (at + 1)) (par_around (roll-Par z)) (par_opens z) (par_around_opens z) (goes_par _ _ (flat_map (λ i. i.1) (map item_rows items)) (in_turn (map item_around items)) each))

par_known_goes : (par : Par) → Goes-Par par
par_known_goes = ind-Par Goes-What Goes-Item Goes-Note Goes-Par what_goes item_goes note_goes par_goes

abbrev Goes-Block : Block → Type 0
Goes-Block block = Goes (block_rows block) (block_around block)

abbrev Goes-Section : Section → Type 0
Goes-Section section = Goes (section_rows section) (section_around section)

abbrev Block-Goes : Type 0
Block-Goes = (block : Block) × Goes-Block block

abbrev Section-Goes : Type 0
Section-Goes = (section : Section) × Goes-Section section

block_goes : (x : Block-F Block Section) (y : Block-F Block-Goes Section-Goes) → map-Block Block-Goes Section-Goes Block Section (λ k. k.0) (λ k. k.0) y ≡ x → Goes-Block (roll-Block x)
block_goes x (Block-F.Par par) is =
    let rows : block_rows (roll-Block (Block-F.Par par)) ≡ par_rows par = simp fold-roll-Block in
    let part : block_around (roll-Block (Block-F.Par par)) ≡ par_around par = simp fold-roll-Block in
    subst (λ (z : Block-F Block Section). Goes-Block (roll-Block z)) is
    (goes_as (par_rows par) (block_rows (roll-Block (Block-F.Par par))) (par_around par) (block_around (roll-Block (Block-F.Par par))) rows part (par_known_goes par))
block_goes x (Block-F.Section known) is =
    let rows : block_rows (roll-Block (Block-F.Section known.0)) ≡ section_rows known.0 = simp fold-roll-Block in
    let part : block_around (roll-Block (Block-F.Section known.0)) ≡ section_around known.0 = simp fold-roll-Block in
    subst (λ (z : Block-F Block Section). Goes-Block (roll-Block z)) is
    (goes_as (section_rows known.0) (block_rows (roll-Block (Block-F.Section known.0))) (section_around known.0) (block_around (roll-Block (Block-F.Section known.0))) rows part known.1)

section_goes : (x : Section-F Block Section) (y : Section-F Block-Goes Section-Goes) → map-Section Block-Goes Section-Goes Block Section (λ k. k.0) (λ k. k.0) y ≡ x → Goes-Section (roll-Section x)
section_goes x y is =
    let blocks : List Block = map (λ (k : Block-Goes). k.0) y.blocks in
    let z : Section-F Block Section = record { kind = y.kind; name = y.name; style = y.style; protected = y.protected; hidden = y.hidden; source = y.source; blocks = blocks } in
    let each = goes_each (λ (k : Block-Goes). k.0) block_rows (λ (rs : List Row). rs) block_around (λ (k : Block-Goes). k.1) y.blocks in
    subst (λ (z : Section-F Block Section). Goes-Section (roll-Section z)) is
    (goes_as (row.Start (record { kind = y.kind; name = y.name; style = y.style; protected = y.protected; hidden = y.hidden; source = y.source }) ∷ (flat_map (λ rs. rs) (map block_rows blocks) ++ row.End ∷ [])) (section_rows (roll-Section z)) (enclosed (in_turn (map block_around blocks))) (section_around (roll-Section z)) (section_opens z) (section_around_opens z) (goes_section _ (flat_map (λ rs. rs) (map block_rows blocks)) (in_turn (map block_around blocks)) each))

block_known_goes : (block : Block) → Goes-Block block
block_known_goes = ind-Block Goes-Block Goes-Section block_goes section_goes

body_goes : (body : List Block) → Goes (rows_of body) (in_turn (map block_around body))
body_goes [] = goes_none
body_goes (block ∷ body) = goes_then (block_rows block) (block_around block) (rows_of body) (map block_around body) (block_known_goes block) (body_goes body)

pub body_runs : (body : List Block) → run [] 0 (rows_of body) ≡ containers_of body
body_runs body =
    ap (run [] 0) (sym (append-nil (rows_of body))) ∙ ((body_goes body).runs [] 0 [] ∙ append-nil (containers_of body))

pub body_fits : (body : List Block) → Fits 0 (rows_of body)
body_fits body = subst (λ (rs : List Row). Fits 0 rs) (append-nil (rows_of body)) ((body_goes body).fits 0 [] refl)

pub body_long : (body : List Block) → length (containers_of body) ≡ length (rows_of body)
body_long body = (body_goes body).long None 0
