-- Paragraphs that are moved, among the rows of a body.
use Rattle.std.proofs.Common.{◌≡◌, ℕ, ◌+◌, ◌≤◌, true, List, [], ◌∷◌, ◌++◌, map, take, drop, Option, Some, refl, ap, ap₂, sym, ◌∙◌, subst, append_assoc, append-nil}
use Rattle.std.specs.Prelude.{filter_map, is_some}
use Rattle.std.specs.List.{flat_map, list_any, list_all, position_or_len, AllByRecursion as Each}
use Rattle.std.proofs.lemmas.Bool.{false≢true, and_parts}
use Rattle.std.proofs.lemmas.List.{take-map, map-append, take-append-drop}
use Rattle.std.proofs.lemmas.List.Concat.{flat_map-append}
use Rattle.doc_model.specs.declared.block.Block.{Block, out-Block, roll-Block}
use Rattle.doc_model.specs.declared.block.Block.TheOpen.{Block-F}
use Rattle.doc_model.specs.declared.block.Block.TheViews.{roll-out-Block}
use Rattle.doc_model.specs.declared.block.Section.{Section}
use Rattle.doc_model.specs.declared.paragraph.Par.{Par, out-Par}
use Rattle.doc_model.specs.declared.paragraph.ParHead.{ParHead}
use Rattle.doc_model.specs.declared.paragraph.Item.{Item}
use Rattle.doc_model.specs.declared.edit.EditOp.TheVariants.{MovePars}
use Rattle.doc_model.specs.declared.document.Document.{Document}
use Rattle.doc_model.specs.Parts.{notes}
use Rattle.edit_rules.specs.Places.{Held, WithContainers, as_block, is_paragraph, is_held, holds, through_first, held_between, are_in_order}
use Rattle.edit_rules.specs.Blocks.{in_containers, at_paragraph, paragraphs_between, without_paragraphs, with_behind_first}
use Rattle.edit_rules.specs.Edited.{edited_document}
use Rattle.edit_rules.specs.Refusals.{are_paragraphs_in_order}
use Rattle.node_array.specs.declared.row.Row.{Row}
use Rattle.node_array.specs.declared.row.Row.TheVariants as row
use Rattle.node_array.specs.Rows.{par_rows, block_rows, rows_of}
use Rattle.container_rows.specs.Standing.{IsApart, KeepsParagraphs, IsChangedFrom, HoldsNoNotes}
use Rattle.container_rows.specs.Texts.{note_count, through_ends}
use Rattle.container_rows.proofs.Heads.{Opened, opened, kept_by}
use Rattle.container_rows.proofs.Join.{notes_taken, notes_dropped}
use Rattle.container_rows.proofs.Numbers.{at_most_once}
use Rattle.container_rows.proofs.Parts.{head_row, bare, text_rows, own_rows, block_is, blocks_are}
use Rattle.container_rows.proofs.Spots.{times}
use Rattle.container_rows.proofs.Changed.{changed_when}
use Rattle.held_rows.specs.HeldFrom.{held_of, IsHeldFrom}
use Rattle.held_rows.proofs.Stands.{par_containers, section_none, same_place}
use Rattle.held_rows.proofs.HeldFrom.{held_from_row}
use Rattle.held_rows.proofs.Runs.{first_block, Run, run_to}
use Rattle.held_rows.proofs.Wrap.{held_is}
use Rattle.moved_rows.proofs.Filters.{one_of}
use Rattle.moved_rows.proofs.Kept.{notes_kept}
use Rattle.moved_rows.proofs.TakenOut.{fewer, taken_out}

-- blocks that are all paragraphs
record IsPar (block : Block) : Type 0 where
  pub par : Par
  pub is : block ≡ as_block par
  pub held : held_of block ≡ Some par

held_par : (par : Par) → held_of (as_block par) ≡ Some par
held_par par = ap (λ (w : WithContainers). w.held) (par_containers par)

par_by : (layer : Block-F Block Section) → is_some (held_of (roll-Block layer)) ≡ true → IsPar (roll-Block layer)
par_by (Block-F.Par par) e = record { par = par; is = refl; held = held_par par }
par_by (Block-F.Section section) e = absurd (false≢true (sym (ap is_some (section_none section)) ∙ e))

is_par : (block : Block) → is_some (held_of block) ≡ true → IsPar block
is_par block e = subst IsPar (roll-out-Block block) (par_by (out-Block block) (ap (λ (b : Block). is_some (held_of b)) (roll-out-Block block) ∙ e))

abbrev pars_held_in : Held → List Par
pars_held_in held = filter_map (λ held. held) held

all_pars : (blocks : List Block) → list_all is_some (map held_of blocks) ≡ true → blocks ≡ map as_block (pars_held_in (map held_of blocks))
all_pars [] e = refl
all_pars (block ∷ blocks) e =
    let parts = and_parts (is_some (held_of block)) (list_all is_some (map held_of blocks)) e in
    let it : IsPar block = is_par block parts.0 in
    ap₂ (λ (b : Block) (bs : List Block). b ∷ bs) it.is (all_pars blocks parts.1)
    ∙ sym (ap (λ (h : Option Par). map as_block (pars_held_in (h ∷ map held_of blocks))) it.held)

between_is : (number : ℕ) (blocks some : List Block) → through_first (is_paragraph number) blocks ≡ some → through_first (is_held number) (map held_of blocks) ≡ map held_of some
between_is number blocks some is =
    ap (λ (n : ℕ). take (n + 1) (map held_of blocks)) (same_place number blocks) ∙ take-map held_of (position_or_len (is_paragraph number) blocks + 1) blocks ∙ ap (map held_of) is

-- paragraphs behind another
behind_keeps : (pars : List Par) → KeepsParagraphs (with_behind_first pars)
behind_keeps pars [] = kept_by (with_behind_first pars []) pars (append-nil (map as_block pars))
behind_keeps pars (par ∷ others) =
    kept_by (with_behind_first pars (map as_block (par ∷ others))) (par ∷ (pars ++ others)) (ap (λ (bs : List Block). as_block par ∷ bs) (sym (map-append as_block pars others)))

behind_rows : (pars : List Par) (par : Par) (blocks : List Block) (behind : List Row) → rows_of (with_behind_first pars (as_block par ∷ blocks)) ++ behind
    ≡ row.Par (head_row par) (map bare (out-Par par).items) ∷ (flat_map text_rows (out-Par par).items ++ (flat_map par_rows pars ++ (rows_of blocks ++ behind)))
behind_rows pars par blocks behind =
    let own : Row = row.Par (head_row par) (map bare (out-Par par).items) in
    let texts : List Row = flat_map text_rows (out-Par par).items in
    first_block par (map as_block pars ++ blocks) behind
    ∙ ap₂ (λ (rows more : List Row). rows ++ (more ++ behind)) (own_rows par) (flat_map-append block_rows (map as_block pars) blocks ∙ ap (λ (rows : List Row). rows ++ rows_of blocks) (blocks_are pars))
    ∙ ap (λ (rows : List Row). own ∷ (texts ++ rows)) (append_assoc (flat_map par_rows pars) (rows_of blocks) behind)

pub moved_among : (next : ℕ) (doc : Document) (before : List Row) (head : ParHead) (items : List Item) (rest inside : List Row) (other : ParHead) (others : List Item) (more front : List Row) (target : ParHead) (targets : List Item) (behind : List Row)
    → IsApart doc → are_paragraphs_in_order doc head.id other.id ≡ true
    → rows_of doc.body ≡ before ++ row.Par head items ∷ rest → row.Par head items ∷ rest ≡ inside ++ row.Par other others ∷ more
    → before ++ drop (through_ends (note_count others) more) more ≡ front ++ row.Par target targets ∷ behind
    → rows_of (edited_document next (MovePars head.id other.id target.id) doc).body
    ≡ front ++ row.Par target targets ∷ (take (through_ends (note_count targets) behind) behind
    ++ ((inside ++ row.Par other others ∷ take (through_ends (note_count others) more) more) ++ drop (through_ends (note_count targets) behind) behind))
moved_among next doc before head items rest inside other others more front target targets behind apart ordered is to there =
    let number : ℕ = other.id.0 in
    let from : List Row = row.Par head items ∷ rest in
    let parts = and_parts (are_in_order doc head.id other.id) (list_all is_some (held_between doc head.id other.id)) ordered in
    let held : IsHeldFrom doc head.id from = held_from_row doc before head items rest apart is in
    let blocks : List Block = as_block held.par ∷ held.blocks in
    let from_is : from ≡ rows_of blocks ++ held.behind = held.rows ∙ sym (first_block held.par held.blocks held.behind) in
    let holds_it : list_any (is_paragraph number) blocks ≡ true = sym (held_is held.par held.blocks number) ∙ (sym (ap (holds number) held.held) ∙ parts.0) in
    let run : Run number blocks inside other others more held.behind = run_to doc before from blocks held.behind inside other others more apart held.ends is from_is to holds_it in
    let some : List Block = run.front ++ as_block run.par ∷ [] in
    let pars : List Par = paragraphs_between doc head.id other.id in
    let between : held_between doc head.id other.id ≡ map held_of some =
    ap (through_first (is_held number)) (held.held ∙ ap (λ (h : Option Par). h ∷ map held_of held.blocks) (sym (held_par held.par))) ∙ between_is number blocks some run.through_is
    in
    let some_are : some ≡ map as_block pars =
    all_pars some (sym (ap (list_all is_some) between) ∙ parts.1) ∙ ap (λ (h : Held). map as_block (pars_held_in h)) (sym between)
    in
    let at : ℕ = position_or_len (is_paragraph number) blocks + 1 in
    let blocks_are_cut : blocks ≡ some ++ run.rest = sym (take-append-drop at blocks) ∙ ap₂ (λ (a b : List Block). a ++ b) run.through_is run.after_is in
    let whole : rows_of doc.body ≡ before ++ (rows_of (map as_block pars ++ run.rest) ++ held.behind) =
    is ∙ ap (λ (rows : List Row). before ++ rows) (from_is ∙ ap (λ (bs : List Block). rows_of bs ++ held.behind) (blocks_are_cut ∙ ap (λ (bs : List Block). bs ++ run.rest) some_are))
    in
    let tail : List Row = rows_of run.rest ++ held.behind in
    let valid : Each HoldsNoNotes (notes doc) = apart.notes in
    let few : (n : ℕ) → times n (rows_of doc.body) ≤ 1 = λ n. at_most_once n doc apart in
    let left : Document = in_containers (without_paragraphs pars) doc in
    let now : rows_of left.body ≡ before ++ tail = taken_out pars run.front (as_block run.par) doc before run.rest held.behind some_are few valid held.ends whole in
    let split : rows_of doc.body ≡ before ++ (flat_map par_rows pars ++ tail) =
    whole ∙ ap (λ (rows : List Row). before ++ (rows ++ held.behind)) (flat_map-append block_rows (map as_block pars) run.rest ∙ ap (λ (rows : List Row). rows ++ rows_of run.rest) (blocks_are pars))
    ∙ ap (λ (rows : List Row). before ++ rows) (append_assoc (flat_map par_rows pars) (rows_of run.rest) held.behind)
    in
    let here : rows_of left.body ≡ front ++ row.Par target targets ∷ behind =
    now ∙ (ap (λ (rows : List Row). before ++ rows) (sym (notes_dropped other others more run.par tail run.opened run.notes)) ∙ there)
    in
    let it : IsChangedFrom (with_behind_first pars) front (row.Par target targets ∷ behind) (rows_of (at_paragraph target.id (with_behind_first pars) left).body) =
    changed_when (with_behind_first pars) left front target targets behind (fewer target.id.0 doc left before (flat_map par_rows pars) tail (few target.id.0) split now)
    (notes_kept (one_of pars) doc valid) (λ _. behind_keeps pars) here
    in
    let more_behind : List Row = rows_of it.blocks ++ it.behind in
    let own : Opened target targets behind it.par more_behind = opened target targets behind it.par more_behind it.old in
    let moving : flat_map par_rows pars ≡ inside ++ row.Par other others ∷ take (through_ends (note_count others) more) more =
    sym (blocks_are pars) ∙ ap rows_of (sym some_are) ∙ flat_map-append block_rows run.front (as_block run.par ∷ [])
    ∙ ap (λ (rows : List Row). rows_of run.front ++ rows) (append-nil (block_rows (as_block run.par)) ∙ (block_is run.par ∙ own_rows run.par))
    ∙ ap (λ (rows : List Row). rows ++ row.Par (head_row run.par) (map bare (out-Par run.par).items) ∷ flat_map text_rows (out-Par run.par).items) (sym run.inside_is)
    ∙ ap₂ (λ (h : ParHead) (o : List Item). inside ++ row.Par h o ∷ flat_map text_rows (out-Par run.par).items) (sym run.opened.head_is) (sym run.opened.items_are)
    ∙ ap (λ (rows : List Row). inside ++ row.Par other others ∷ rows) (sym (notes_taken other others more run.par tail run.opened run.notes))
    in
    let texts : List Row = flat_map text_rows (out-Par it.par).items in
    let goal : ParHead → List Item → List Row → List Row → List Row → List Row = λ h i t m d. front ++ row.Par h i ∷ (t ++ (m ++ d)) in
    it.new ∙ ap (λ (rows : List Row). front ++ rows) (behind_rows pars it.par it.blocks it.behind)
    ∙ ap₂ (λ (h : ParHead) (i : List Item). goal h i texts (flat_map par_rows pars) more_behind) (sym own.head_is) (sym own.items_are)
    ∙ ap (λ (m : List Row). goal target targets texts m more_behind) moving
    ∙ ap₂ (λ (t d : List Row). goal target targets t (inside ++ row.Par other others ∷ take (through_ends (note_count others) more) more) d)
    (sym (notes_taken target targets behind it.par more_behind own it.notes)) (sym (notes_dropped target targets behind it.par more_behind own it.notes))
