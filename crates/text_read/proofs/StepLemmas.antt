-- What is added beside the walk.
use Rattle.std.proofs.Common.{◌≡◌, ◌<◌, ℕ, ◌+◌, Bool, true, false, cond, List, [], ◌∷◌, ◌++◌, map, length, refl, sym, ap, ap₂, ◌∙◌, append-nil, arith, subst, Option, Some, None}
use Rattle.std.specs.Prelude.{reverse}
use Rattle.std.specs.List.{AllByRecursion as Each}
use Rattle.std.specs.Option.{option_map}
use Rattle.std.proofs.lemmas.List.{reverse-reverse}
use Rattle.doc_model.specs.declared.block.Block.{Block}
use Rattle.doc_model.specs.declared.paragraph.Item.{Item}
use Rattle.doc_model.specs.declared.paragraph.ListPos.{ListPos}
use Rattle.doc_model.specs.declared.paragraph.Par.{Par}
use Rattle.doc_model.specs.declared.paragraph.What.TheViews.{out-roll-Par}
use Rattle.load_model.specs.declared.element.Attribute.{Attribute}
use Rattle.load_model.specs.declared.element.Element.{Element}
use Rattle.load_model.specs.Blocks as blocks
use Rattle.element_parts.specs.Shown.{shown}
use Rattle.element_parts.specs.declared.left.LeftOut.{LeftOut}
use Rattle.item_spaces.specs.Spacing.{Holds}
use Rattle.item_spaces.specs.declared.spacing.SpacedItems.{SpacedItems}
use Rattle.content_read.specs.Adds.{Adds as AddsRaws}
use Rattle.load_model.specs.Blocks.{Around, ReadBlocks, ReadContent, as_block, is_directly_in, list_place, no_blocks}
use Rattle.load_model.specs.Content.{Raw, items_of_raw}
use Rattle.load_model.specs.Left.{Left, both, nothing}
use Rattle.load_model.specs.Loaded.{at_most_ten}
use Rattle.block_parts.specs.Lists.{with_list}
use Rattle.block_parts.specs.Values.{paragraph_by}
use Rattle.block_parts.specs.declared.begins.Begins.TheVariants as begins
use Rattle.read_blocks.specs.declared.read.ReadBlocks.{ReadBlocks as Read}
use Rattle.read_blocks.specs.Adds.{Adds, joined_with, one_block}
use Rattle.read_blocks.specs.First.{behind, first_place, with_first}
use Rattle.read_blocks.specs.Kept.{kept_block, kept_items, kept_par, kept_raws}
use Rattle.read_blocks.proofs.AddLemmas.{adds_same, adds_then, blocks_same}
use Rattle.read_blocks.proofs.ItemLemmas.{items_kept}
use Rattle.read_blocks.proofs.KeptLemmas.{par_kept}
use Rattle.block_parts.proofs.LeftLemmas.{both_none}
use Rattle.text_read.specs.Walk.{Enters, Enlists, begun_by, kept_content}
use Rattle.text_read.proofs.PlaceLemmas.{changed_stays, first_inside, first_outside, none_first, none_within}

-- a list that ends
module _ (at : blocks.Lists) (names : List (List ℕ)) (attributes : List Attribute) (old all : Read) (more : ReadBlocks) (enters : Enters (with_list names attributes at) old all more) where
  pub list_ended : Enlists at old all None more
  list_ended = record {
    enters = record { adds = enters.adds; within = λ level l. enters.within level (omega (arith, l)) };
    first_is = sym (ap (behind (length old.blocks.items)) (none_first (is_directly_in at.level) more.blocks (enters.within at.level (omega arith))));
  }

  pub list_begun : (now : Read) → Adds at.in_note old now (with_first (λ block. true) begins.Counting more) → Enlists at old now None (with_first (λ block. true) begins.Counting more)
  list_begun now adds = record {
    enters = record { adds = adds; within = λ level l. changed_stays level begins.Counting (λ block. true) more.blocks (enters.within level (omega (arith, l))) };
    first_is = sym (ap (behind (length old.blocks.items)) (none_first (is_directly_in at.level) _ (changed_stays at.level begins.Counting (λ block. true) more.blocks (enters.within at.level (omega arith)))));
  }

pub ended_so : (at : blocks.Lists) (old now : Read) (b : Bool) (more : ReadBlocks) → b ≡ false → Enlists at old now None more → Enlists at old now None (begun_by b more)
ended_so at old now b more e enlists = subst (λ (c : Bool). Enlists at old now None (begun_by c more)) (sym e) enlists

pub begun_so : (at : blocks.Lists) (old now : Read) (b : Bool) (more : ReadBlocks) → b ≡ true → Enlists at old now None (with_first (λ block. true) begins.Counting more) → Enlists at old now None (begun_by b more)
begun_so at old now b more e enlists = subst (λ (c : Bool). Enlists at old now None (begun_by c more)) (sym e) enlists

-- a paragraph
element_kept : (in_note : Bool) (styles : List (List ℕ)) (list : Option ListPos) (level : ℕ) (element : Element) (items : List Item)
    → kept_par in_note (paragraph_by styles list level element items) ≡ paragraph_by styles (option_map at_most_ten list) level element (kept_items in_note items)
element_kept in_note styles list level element items = simp out-roll-Par

pub par_is_kept : (in_note : Bool) (styles : List (List ℕ)) (list : Option ListPos) (level : ℕ) (element : Element) (raws : List Raw) (items : List Item) (par : Par)
    → items ≡ items_of_raw (reverse (reverse (kept_raws in_note raws))) → par ≡ paragraph_by styles (option_map at_most_ten list) level element items
    → as_block par ≡ kept_block in_note (as_block (paragraph_by styles list level element (items_of_raw raws)))
par_is_kept in_note styles list level element raws items par read is =
    ap as_block (is ∙ ap (paragraph_by styles (option_map at_most_ten list) level element) (read ∙ ap items_of_raw (reverse-reverse (kept_raws in_note raws)) ∙ items_kept in_note raws)
    ∙ sym (element_kept in_note styles list level element (items_of_raw raws)))
    ∙ sym (par_kept in_note (paragraph_by styles list level element (items_of_raw raws)))

pub block_added : (in_note : Bool) (first second third : Read) (block : Block) (left : Left) → Adds in_note first second (no_blocks left) → Adds in_note second third (one_block block nothing) → Adds in_note first third (one_block block left)
block_added in_note first second third block left e g =
    adds_same in_note first third (joined_with (no_blocks left) (one_block block nothing)) (one_block block left)
    (blocks_same (joined_with (no_blocks left) (one_block block nothing)) (one_block block left) refl refl refl (both_none left))
    (adds_then in_note first second third (no_blocks left) (one_block block nothing) e g)

module _ (at : blocks.Lists) (styles : List (List ℕ)) (level : ℕ) (element : Element) (items : List Item) (old now : Read) (left : Left)
    (adds : Adds at.in_note old now (one_block (as_block (paragraph_by styles (list_place at) level element items)) left)) where
  pub paragraph_outside : at.level ≡ 0 → Enlists at old now None (one_block (as_block (paragraph_by styles (list_place at) level element items)) left)
  paragraph_outside e = record {
    enters = record { adds = adds; within = λ below l. none_within at styles level element items below l };
    first_is = sym (ap (behind (length old.blocks.items)) (first_outside at styles level element items e));
  }

  pub paragraph_inside : (place : ℕ) → 0 < at.level → place ≡ length old.blocks.items → Enlists at old now (Some place) (one_block (as_block (paragraph_by styles (list_place at) level element items)) left)
  paragraph_inside place l e = record {
    enters = record { adds = adds; within = λ below l. none_within at styles level element items below l };
    first_is = ap (λ (n : ℕ). Some n) (let same : length old.blocks.items ≡ length old.blocks.items + 0 = omega arith in e ∙ same) ∙ sym (ap (behind (length old.blocks.items)) (first_inside at styles level element items l));
  }

-- the content of a paragraph that was read from nothing
pub content_read : (in_note told : Bool) (spans : List (List ℕ)) (read : Around → ReadContent) (none items : SpacedItems) (left : LeftOut) → spans ≡ [] → told ≡ in_note → Holds none []
    → AddsRaws none items left (kept_content told (read (record { spans = spans; in_note = told }))) → Holds items (reverse (kept_raws in_note (read (record { spans = []; in_note = in_note })).raws)) × (left ≡ shown (read (record { spans = []; in_note = in_note })).left)
content_read in_note told spans read none items left s n holds adds =
    let same : kept_content told (read (record { spans = spans; in_note = told })) ≡ kept_content in_note (read (record { spans = []; in_note = in_note })) =
    ap₂ (λ (some : List (List ℕ)) (b : Bool). kept_content b (read (record { spans = some; in_note = b }))) s n in
    let now : AddsRaws none items left (kept_content in_note (read (record { spans = []; in_note = in_note }))) = subst (AddsRaws none items left) same adds in
    let raws : List Raw = kept_raws in_note (read (record { spans = []; in_note = in_note })).raws in
    (subst (Holds items) (append-nil (reverse raws)) (now.items [] holds), now.left_is)
