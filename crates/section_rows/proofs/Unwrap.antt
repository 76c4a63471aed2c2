-- A section that is unwrapped, among the rows of a body.
use Rattle.std.proofs.Common.{◌≡◌, ℕ, ◌+◌, Bool, true, false, cond, List, [], ◌∷◌, ◌++◌, map, refl, ap, ap₂, sym, ◌∙◌, subst, arith, ⊎_elim, append_assoc, append-nil}
use Rattle.std.specs.Prelude.{if◌then◌else◌}
use Rattle.std.specs.List.{flat_map}
use Rattle.std.specs.Str.{bytes_eq}
use Rattle.std.proofs.lemmas.Bool.{cases_eq}
use Rattle.std.proofs.lemmas.List.Concat.{flat_map-append}
use Rattle.std.proofs.lemmas.List.Folds.{flat_map-map}
use Rattle.doc_model.specs.declared.block.Block.{Block, roll-Block}
use Rattle.doc_model.specs.declared.block.Block.TheOpen.{Block-F, Section-F}
use Rattle.doc_model.specs.declared.block.Section.{Section, roll-Section}
use Rattle.doc_model.specs.declared.block.Block.TheViews.{out-roll-Block, out-roll-Section}
use Rattle.doc_model.specs.declared.block.Block.TheFolds.{ind-Block, map-Block, map-Section}
use Rattle.doc_model.specs.declared.paragraph.Par.{Par, out-Par, roll-Par}
use Rattle.doc_model.specs.declared.paragraph.Item.{Item, roll-Item}
use Rattle.doc_model.specs.declared.paragraph.What.{What, roll-What}
use Rattle.doc_model.specs.declared.paragraph.Note.{Note, out-Note, roll-Note}
use Rattle.doc_model.specs.declared.paragraph.What.TheOpen.{What-F}
use Rattle.doc_model.specs.declared.paragraph.What.TheViews.{out-roll-What, roll-out-Par, roll-out-Note}
use Rattle.edit_rules.specs.Places.{as_block, paragraph_of}
use Rattle.edit_rules.specs.Blocks.{in_note_of, in_notes_of, of_paragraphs, within_block, unwrapped}
use Rattle.node_array.specs.declared.row.Row.{Row}
use Rattle.node_array.specs.declared.row.SectionHead.{SectionHead}
use Rattle.node_array.specs.declared.row.Row.TheVariants as row
use Rattle.node_array.specs.Rows.{block_rows, rows_of}
use Rattle.container_rows.proofs.Firsts.{by_test}
use Rattle.container_rows.proofs.Parts.{by_what, changed_note, section_is, par_within, section_within}
use Rattle.container_rows.proofs.Tests.{pars_back}
use Rattle.section_rows.proofs.Names.{starts, starts_both, par_none, section_starts}

-- a change that leaves paragraphs leaves those of notes
module _ (change : List Par → List Par) (same : (pars : List Par) → change pars ≡ pars) where
  item_by : (spans : List (List ℕ)) (what : What-F What Item Note Par)
      → in_note_of change (roll-Item (record { spans = spans; what = roll-What what })) ≡ roll-Item (record { spans = spans; what = roll-What what })
  item_by spans (What-F.Char c) = simp out-roll-What
  item_by spans What-F.Tab = simp out-roll-What
  item_by spans What-F.Break = simp out-roll-What
  item_by spans (What-F.Field field) = simp out-roll-What
  item_by spans (What-F.Note note) =
      changed_note change spans note
      ∙ ap (λ (pars : List Par). roll-Item (record { spans = spans; what = roll-What (What-F.Note (roll-Note (record (out-Note note) { pars = pars }))) })) (same (out-Note note).pars)
      ∙ ap (λ (n : Note). roll-Item (record { spans = spans; what = roll-What (What-F.Note n) })) (roll-out-Note note)
  item_by spans (What-F.Mark mark) = simp out-roll-What

  items_same : (items : List Item) → map (in_note_of change) items ≡ items
  items_same [] = refl
  items_same (item ∷ items) = ap₂ (λ (i : Item) (is : List Item). i ∷ is) (by_what (λ i. in_note_of change i ≡ i) item_by item) (items_same items)

  pub notes_same : (par : Par) → in_notes_of change par ≡ par
  notes_same par = ap (λ (items : List Item). roll-Par (record (out-Par par) { items = items })) (items_same (out-Par par).items) ∙ roll-out-Par par

-- rows of which a section of a name loses its Start and End rows
pub record Unwraps (name : List ℕ) (old new : List Row) : Type 0 where
  pub front : List Row
  pub head : SectionHead
  pub blocks : List Block
  pub behind : List Row
  pub named : bytes_eq head.name name ≡ true
  pub was : old ≡ front ++ row.Start head ∷ (rows_of blocks ++ row.End ∷ behind)
  pub is : new ≡ front ++ (rows_of blocks ++ behind)

module _ (name : List ℕ) where
  unwraps_behind : (front old new : List Row) → Unwraps name old new → Unwraps name (front ++ old) (front ++ new)
  unwraps_behind front old new it =
      record {
        front = front ++ it.front;
        head = it.head;
        blocks = it.blocks;
        behind = it.behind;
        named = it.named;
        was = ap (λ rows. front ++ rows) it.was ∙ sym (append_assoc front it.front (row.Start it.head ∷ (rows_of it.blocks ++ row.End ∷ it.behind)));
        is = ap (λ rows. front ++ rows) it.is ∙ sym (append_assoc front it.front (rows_of it.blocks ++ it.behind));
      }

  unwraps_then : (more old new : List Row) → Unwraps name old new → Unwraps name (old ++ more) (new ++ more)
  unwraps_then more old new it =
      record {
        front = it.front;
        head = it.head;
        blocks = it.blocks;
        behind = it.behind ++ more;
        named = it.named;
        was =
            ap (λ rows. rows ++ more) it.was ∙ append_assoc it.front (row.Start it.head ∷ (rows_of it.blocks ++ row.End ∷ it.behind)) more
            ∙ ap (λ (rows : List Row). it.front ++ row.Start it.head ∷ rows) (append_assoc (rows_of it.blocks) (row.End ∷ it.behind) more);
        is =
            ap (λ rows. rows ++ more) it.is ∙ append_assoc it.front (rows_of it.blocks ++ it.behind) more
            ∙ ap (λ (rows : List Row). it.front ++ rows) (append_assoc (rows_of it.blocks) it.behind more);
      }

  -- what a block leaves
  abbrev left : Block → List Block
  left block = unwrapped name (within_block (flat_map (unwrapped name)) block)

  pub record Known (block : Block) : Type 0 where
    pub none : starts name (block_rows block) ≡ 0 → left block ≡ block ∷ []
    pub one : starts name (block_rows block) ≡ 1 → Unwraps name (block_rows block) (rows_of (left block))

  -- a paragraph
  par_left : (par : Par) → unwrapped name (as_block par) ≡ as_block par ∷ []
  par_left par = simp out-roll-Block

  pars_left : (pars : List Par) → flat_map (unwrapped name) (map as_block pars) ≡ map as_block pars
  pars_left [] = refl
  pars_left (par ∷ pars) = ap₂ (λ a b. a ++ b) (par_left par) (pars_left pars)

  pars_same : (pars : List Par) → of_paragraphs (flat_map (unwrapped name)) pars ≡ pars
  pars_same pars = ap (flat_map paragraph_of) (pars_left pars) ∙ pars_back pars

  par_known : (par : Par) → Known (as_block par)
  par_known par =
      record {
        none = λ h.
            ap (unwrapped name) (par_within (flat_map (unwrapped name)) par ∙ ap as_block (notes_same (of_paragraphs (flat_map (unwrapped name))) pars_same par)) ∙ par_left par;
        one = λ h. absurd (omega (arith, h, par_none name par));
      }

  -- blocks one after another
  abbrev Block-Known : Type 0
  Block-Known = (block : Block) × Known block

  abbrev Section-Known : Type 0
  Section-Known = (section : Section) × Known (roll-Block (Block-F.Section section))

  abbrev blocks_in : List Block-Known → List Block
  blocks_in ks = map (λ k. k.0) ks

  all_left : (ks : List Block-Known) → starts name (rows_of (blocks_in ks)) ≡ 0 → flat_map left (blocks_in ks) ≡ blocks_in ks
  all_left [] h = refl
  all_left (k ∷ ks) h =
      let sum = starts_both name (block_rows k.0) (rows_of (blocks_in ks)) in
      ap₂ (λ a b. a ++ b) (k.1.none (omega (arith, sum, h))) (all_left ks (omega (arith, sum, h)))

  one_left : (ks : List Block-Known) → starts name (rows_of (blocks_in ks)) ≡ 1 → Unwraps name (rows_of (blocks_in ks)) (rows_of (flat_map left (blocks_in ks)))
  one_left [] h = absurd (omega (arith, h))
  one_left (k ∷ ks) h =
      let rest : List Row = rows_of (blocks_in ks) in
      let sum = starts_both name (block_rows k.0) rest in
      let apart : rows_of (left k.0 ++ flat_map left (blocks_in ks)) ≡ rows_of (left k.0) ++ rows_of (flat_map left (blocks_in ks)) = flat_map-append block_rows (left k.0) (flat_map left (blocks_in ks)) in
      subst (λ (rows : List Row). Unwraps name (block_rows k.0 ++ rest) rows) (sym apart)
      (⊎_elim
      (λ here.
      let stays : rows_of (left k.0) ≡ block_rows k.0 = ap rows_of (k.1.none here) ∙ append-nil (block_rows k.0) in
      subst (λ (rows : List Row). Unwraps name (block_rows k.0 ++ rest) (rows ++ rows_of (flat_map left (blocks_in ks)))) (sym stays)
      (unwraps_behind (block_rows k.0) rest (rows_of (flat_map left (blocks_in ks))) (one_left ks (omega (arith, sum, h, here)))))
      (λ there.
      let stay : rows_of (flat_map left (blocks_in ks)) ≡ rest = ap rows_of (all_left ks (others (starts name (block_rows k.0)) (starts name rest) (sym sum ∙ h) there)) in
      subst (λ (rows : List Row). Unwraps name (block_rows k.0 ++ rest) (rows_of (left k.0) ++ rows)) (sym stay)
      (unwraps_then rest (block_rows k.0) (rows_of (left k.0)) (k.1.one (just (starts name (block_rows k.0)) (starts name rest) (sym sum ∙ h) there))))
      (cases_eq (starts name (block_rows k.0)) 0)) where
        others : (m n : ℕ) → m + n ≡ 1 → (m ≡ 0 → ⊥) → n ≡ 0
        others m n sum some = omega (arith, sum, some)

        just : (m n : ℕ) → m + n ≡ 1 → (m ≡ 0 → ⊥) → m ≡ 1
        just m n sum some = omega (arith, sum, some)

  -- a section
  abbrev section : Section-F Block Section → List Block → Block
  section x blocks = roll-Block (Block-F.Section (roll-Section (record x { blocks = blocks })))

  abbrev head_in : Section-F Block Section → SectionHead
  head_in x = record { kind = x.kind; name = x.name; style = x.style; protected = x.protected; hidden = x.hidden; source = x.source }

  opens : (x : Section-F Block Section) (blocks : List Block) → unwrapped name (section x blocks) ≡ (if bytes_eq x.name name then blocks else section x blocks ∷ [])
  opens x blocks =
      let one : unwrapped name (section x blocks) ≡ _ = simp out-roll-Block (ap (λ (l : Section-F Block Section). if bytes_eq l.name name then l.blocks else section x blocks ∷ []) (out-roll-Section (record x { blocks = blocks }))) in
      one

  within : (x : Section-F Block Section) (blocks : List Block) → within_block (flat_map (unwrapped name)) (section x blocks) ≡ section x (flat_map left blocks)
  within x blocks =
      section_within (flat_map (unwrapped name)) (record x { blocks = blocks }) ∙ ap (section x) (flat_map-map (unwrapped name) (within_block (flat_map (unwrapped name))) blocks)

  left_is : (x : Section-F Block Section) (blocks : List Block) → left (section x blocks) ≡ (if bytes_eq x.name name then flat_map left blocks else section x (flat_map left blocks) ∷ [])
  left_is x blocks = ap (unwrapped name) (within x blocks) ∙ opens x (flat_map left blocks)

  named_left : (x : Section-F Block Section) (blocks : List Block) → bytes_eq x.name name ≡ true → left (section x blocks) ≡ flat_map left blocks
  named_left x blocks e = left_is x blocks ∙ ap (λ (b : Bool). if b then flat_map left blocks else section x (flat_map left blocks) ∷ []) e

  other_left : (x : Section-F Block Section) (blocks : List Block) → bytes_eq x.name name ≡ false → left (section x blocks) ≡ section x (flat_map left blocks) ∷ []
  other_left x blocks e = left_is x blocks ∙ ap (λ (b : Bool). if b then flat_map left blocks else section x (flat_map left blocks) ∷ []) e

  named_known : (x : Section-F Block Section) (ks : List Block-Known) → bytes_eq x.name name ≡ true → Known (section x (blocks_in ks))
  named_known x ks e =
      let blocks : List Block = blocks_in ks in
      let count : starts name (block_rows (section x blocks)) ≡ 1 + starts name (rows_of blocks) = section_starts name (record x { blocks = blocks }) ∙ ap (λ (b : Bool). cond b 1 0 + starts name (rows_of blocks)) e in
      record {
        none = λ h. absurd (omega (arith, h, count));
        one = λ h.
            record {
              front = [];
              head = head_in x;
              blocks = blocks;
              behind = [];
              named = e;
              was = section_is (record x { blocks = blocks });
              is = ap rows_of (named_left x blocks e ∙ all_left ks (omega (arith, h, count))) ∙ sym (append-nil (rows_of blocks));
            };
      }

  other_known : (x : Section-F Block Section) (ks : List Block-Known) → bytes_eq x.name name ≡ false → Known (section x (blocks_in ks))
  other_known x ks e =
      let blocks : List Block = blocks_in ks in
      let first : Row = row.Start (head_in x) in
      let count : starts name (block_rows (section x blocks)) ≡ 0 + starts name (rows_of blocks) = section_starts name (record x { blocks = blocks }) ∙ ap (λ (b : Bool). cond b 1 0 + starts name (rows_of blocks)) e in
      let new : rows_of (left (section x blocks)) ≡ first ∷ (rows_of (flat_map left blocks) ++ row.End ∷ []) =
      ap rows_of (other_left x blocks e) ∙ append-nil (block_rows (section x (flat_map left blocks))) ∙ section_is (record x { blocks = flat_map left blocks })
      in
      record {
        none = λ h. other_left x blocks e ∙ ap (λ (bs : List Block). section x bs ∷ []) (all_left ks (omega (arith, h, count)));
        one = λ h.
            subst (λ (rows : List Row). Unwraps name rows (rows_of (left (section x blocks)))) (sym (section_is (record x { blocks = blocks })))
            (subst (λ (rows : List Row). Unwraps name (first ∷ (rows_of blocks ++ row.End ∷ [])) rows) (sym new)
            (unwraps_behind (first ∷ []) (rows_of blocks ++ row.End ∷ []) (rows_of (flat_map left blocks) ++ row.End ∷ [])
            (unwraps_then (row.End ∷ []) (rows_of blocks) (rows_of (flat_map left blocks)) (one_left ks (omega (arith, h, count))))));
      }

  section_known : (x : Section-F Block Section) (ks : List Block-Known) → Known (section x (blocks_in ks))
  section_known x ks = by_test (bytes_eq x.name name) (named_known x ks) (other_known x ks)

  block_step : (x : Block-F Block Section) (y : Block-F Block-Known Section-Known) → map-Block Block-Known Section-Known Block Section (λ k. k.0) (λ k. k.0) y ≡ x → Known (roll-Block x)
  block_step x (Block-F.Par par) is = subst (λ (z : Block-F Block Section). Known (roll-Block z)) is (par_known par)
  block_step x (Block-F.Section known) is = subst (λ (z : Block-F Block Section). Known (roll-Block z)) is known.1

  section_step : (x : Section-F Block Section) (y : Section-F Block-Known Section-Known) → map-Section Block-Known Section-Known Block Section (λ k. k.0) (λ k. k.0) y ≡ x
      → Known (roll-Block (Block-F.Section (roll-Section x)))
  section_step x y is =
      subst (λ (z : Section-F Block Section). Known (roll-Block (Block-F.Section (roll-Section z)))) is
      (section_known (record { kind = y.kind; name = y.name; style = y.style; protected = y.protected; hidden = y.hidden; source = y.source; blocks = [] }) y.blocks)

  block_known : (block : Block) → Known block
  block_known = ind-Block Known (λ section. Known (roll-Block (Block-F.Section section))) block_step section_step

  -- the body
  with_known : List Block → List Block-Known
  with_known body = map (λ block. (block, block_known block)) body

  known_again : (body : List Block) → blocks_in (with_known body) ≡ body
  unfolding with_known
  known_again [] = refl
  known_again (block ∷ body) = ap (λ (bs : List Block). block ∷ bs) (known_again body)

  pub body_unwraps : (body : List Block) → starts name (rows_of body) ≡ 1 → Unwraps name (rows_of body) (rows_of (flat_map (unwrapped name) (map (within_block (flat_map (unwrapped name))) body)))
  body_unwraps body h =
      let is = known_again body in
      subst (λ (bs : List Block). Unwraps name (rows_of body) (rows_of bs)) (sym (flat_map-map (unwrapped name) (within_block (flat_map (unwrapped name))) body))
      (subst (λ (bs : List Block). Unwraps name (rows_of bs) (rows_of (flat_map left bs))) is (one_left (with_known body) (ap (λ (bs : List Block). starts name (rows_of bs)) is ∙ h)))
