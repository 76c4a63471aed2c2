-- What an element gives, level by level, and what is added one after the other.
use Rattle.std.proofs.Common.{◌≡◌, ◌≢◌, ◌<◌, ◌≤◌, ℕ, ◌+◌, ◌-◌, Bool, true, false, cond, ◌&&◌, List, [], ◌∷◌, ◌++◌, map, length, take, refl, sym, ap, ap₂, ◌∙◌, append-nil, append_assoc, arith, subst, Option, Some, None, Result, Ok, Err, IfOk, OnOk, is_some, slice_index_or}
use Rattle.std.specs.List.{AllByRecursion as Each, filter, flat_map}
use Rattle.std.specs.Option.{option_or}
use Rattle.std.proofs.lemmas.List.{length-append, length-map, map-append}
use Rattle.markup_nodes.specs.Nodes.{elems, turns_of}
use Rattle.markup_nodes.specs.declared.nodes.Turn.{Turn}
use Rattle.doc_model.specs.declared.block.Block.{Block, roll-Block}
use Rattle.element_parts.specs.Shown.{shown}
use Rattle.load_model.specs.declared.names.Key.TheVariants as key
use Rattle.load_model.specs.declared.names.Tag.{Tag}
use Rattle.load_model.specs.declared.names.Tag.TheVariants as tag
use Rattle.load_model.specs.declared.element.Element.{Element, out-Element}
use Rattle.load_model.specs.Blocks as blocks
use Rattle.load_model.specs.Blocks.{Known, Gives, ReadBlocks, gives_of, blocks_with, declaration_blocks, element_blocks, entry_blocks, is_directly_in, joined_blocks, no_blocks, one_element}
use Rattle.load_model.specs.Left.{Left, both, nothing, attributes_of, children}
use Rattle.block_parts.specs.declared.lists.Lists.{Lists}
use Rattle.block_parts.specs.Lists.{StandsIn}
use Rattle.block_parts.proofs.NoteLemmas.{elems_turns}
use Rattle.read_blocks.specs.declared.read.ReadBlocks.{ReadBlocks as Read}
use Rattle.read_blocks.specs.Adds.{Adds, joined_with}
use Rattle.read_blocks.specs.First.{behind, first_place}
use Rattle.read_blocks.specs.Kept.{kept_block}
use Rattle.read_blocks.proofs.AddLemmas.{adds_then, adds_none, adds_same, joined_behind}
use Rattle.content_read.specs.Held.{held}
use Rattle.content_read.specs.Known.{IsKnown}
use Rattle.content_read.specs.declared.known.Known.{Known as Kept}
use Rattle.content_read.proofs.HeldLemmas.{gives_out, elems_given}
use Rattle.text_read.specs.Walk.{Enters, Enlists, EntersHere, EnlistsHere, blocks_at, blocks_in, entries_in, entry_at}
use Rattle.text_read.proofs.PlaceLemmas.{behind_or, each_joined, first_joined}

-- where a call answers
pub answered : {X E : Type 0} (result : Result X E) (P Q : X → Type 0) → ((x : X) → P x → Q x) → IfOk result P → IfOk result Q
answered (Ok x) P Q f p = f x p
answered (Err e) P Q f p = tt

-- what an element gives by where it stands
pub blocks_out : (model : Known) (element : Element) (at : blocks.Lists) → blocks_at element model at ≡ element_blocks model (out-Element element).tag (out-Element element).place (out-Element element).attributes (held model element) at
blocks_out model element at = ap (λ (one : Gives). one.blocks at) (gives_out model element)

pub blocks_of_tag : (model : Known) (element : Element) (at : blocks.Lists) (which : Tag) → (out-Element element).tag ≡ which → element_blocks model which (out-Element element).place (out-Element element).attributes (held model element) at ≡ blocks_at element model at
blocks_of_tag model element at which is = ap (λ (one : Tag). element_blocks model one (out-Element element).place (out-Element element).attributes (held model element) at) (sym is) ∙ sym (blocks_out model element at)

-- what the elements give that it holds
pub held_elems : (model : Known) (element : Element) → elems (held model element) ≡ map (gives_of model) (children element)
held_elems model element = elems_given model (out-Element element).nodes

pub entry_out : (model : Known) (element : Element) (at : blocks.Lists) → entry_at element model at ≡ entry_blocks (out-Element element).tag (out-Element element).attributes (map (gives_of model) (children element)) at
entry_out model element at =
    ap (λ (one : Gives). one.entry at) (gives_out model element) ∙ ap (λ (gives : List Gives). entry_blocks (out-Element element).tag (out-Element element).attributes gives at) (held_elems model element)

pub entry_of_tag : (model : Known) (element : Element) (at : blocks.Lists) (which : Tag) → (out-Element element).tag ≡ which
    → entry_blocks which (out-Element element).attributes (map (gives_of model) (children element)) at ≡ entry_at element model at
entry_of_tag model element at which is = ap (λ (one : Tag). entry_blocks one (out-Element element).attributes (map (gives_of model) (children element)) at) (sym is) ∙ sym (entry_out model element at)

mapped_twice : {X Y Z : Type 0} (g : Y → Z) (f : X → Y) (xs : List X) → map g (map f xs) ≡ map (λ x. g (f x)) xs
mapped_twice g f [] = refl
mapped_twice g f (x ∷ xs) = ap (λ more. g (f x) ∷ more) (mapped_twice g f xs)

pub given_blocks : (model : Known) (element : Element) (at : blocks.Lists) → joined_blocks (map (λ one. one.blocks at) (map (gives_of model) (children element))) ≡ blocks_in element model at
given_blocks model element at = ap joined_blocks (mapped_twice (λ (one : Gives). one.blocks at) (gives_of model) (children element))

pub given_entries : (model : Known) (element : Element) (at : blocks.Lists) → joined_blocks (map (λ one. one.entry at) (map (gives_of model) (children element))) ≡ entries_in element model at
given_entries model element at = ap joined_blocks (mapped_twice (λ (one : Gives). one.entry at) (gives_of model) (children element))

pub inside_out : (model : Known) (element : Element) (at : blocks.Lists) → (gives_of model element).inside at ≡ blocks_in element model at
inside_out model element at =
    ap (λ (one : Gives). one.inside at) (gives_out model element) ∙ ap (λ (gives : List Gives). joined_blocks (map (λ one. one.blocks at) gives)) (held_elems model element) ∙ given_blocks model element at

-- the elements by their turns
pub by_turns : {X : Type 0} (f : Element → X) (element : Element) → map (λ (turn : Turn Element). f turn.elem) (turns_of (out-Element element).nodes) ≡ map f (children element)
by_turns f element = sym (ap (map f) (elems_turns (out-Element element).nodes) ∙ mapped_twice f (λ (turn : Turn Element). turn.elem) (turns_of (out-Element element).nodes))

-- what is added one after the other
module _ (at : blocks.Lists) where
  abbrev here : Block → Bool
  here = is_directly_in at.level

  longer : (old new : Read) (more : ReadBlocks) → Adds at.in_note old new more → length new.blocks.items ≡ length old.blocks.items + length more.blocks
  longer old new more adds =
      ap length adds.blocks_are ∙ length-append old.blocks.items (map (kept_block at.in_note) more.blocks)
      ∙ ap (λ n. length old.blocks.items + n) (length-map more.blocks (kept_block at.in_note))

  pub enters_then : (first second third : Read) (one two : ReadBlocks) → Enters at first second one → Enters at second third two → Enters at first third (joined_with one two)
  enters_then first second third one two e g = record {
    adds = adds_then at.in_note first second third one two e.adds g.adds;
    within = λ level l. each_joined (λ block. is_directly_in level block ≡ false) one.blocks two.blocks (e.within level l) (g.within level l);
  }

  pub enlists_then : (first second third : Read) (a b : Option ℕ) (one two : ReadBlocks) → Enlists at first second a one → Enlists at second third b two → Enlists at first third (option_or a b) (joined_with one two)
  enlists_then first second third a b one two e g = record {
    enters = enters_then first second third one two e.enters g.enters;
    first_is = ap₂ option_or e.first_is (g.first_is ∙ ap (λ n. behind n (first_place here two.blocks)) (longer first second one e.enters.adds))
        ∙ sym (behind_or (length first.blocks.items) (length one.blocks) (first_place here one.blocks) (first_place here two.blocks))
        ∙ ap (behind (length first.blocks.items)) (sym (first_joined here one.blocks two.blocks));
  }

  pub enters_same : (old new : Read) (more other : ReadBlocks) → more ≡ other → Enters at old new more → Enters at old new other
  enters_same old new more other e enters = subst (Enters at old new) e enters

  pub enlists_same : (old new : Read) (first : Option ℕ) (more other : ReadBlocks) → more ≡ other → Enlists at old new first more → Enlists at old new first other
  enlists_same old new first more other e enlists = subst (Enlists at old new first) e enlists

  pub enters_none : (all : Read) → Enters at all all (no_blocks nothing)
  enters_none all = record { adds = adds_none at.in_note all; within = λ level l. tt }

  pub enlists_none : (all : Read) → Enlists at all all None (no_blocks nothing)
  enlists_none all = record { enters = enters_none all; first_is = refl }

  -- no block is added
  pub enlists_left : (old new : Read) (left : Left) → Adds at.in_note old new (no_blocks left) → Enlists at old new None (no_blocks left)
  enlists_left old new left adds = record { enters = record { adds = adds; within = λ level l. tt }; first_is = refl }

  -- more is left out before
  pub enlists_beside : (first second third : Read) (left : Left) (place : Option ℕ) (more : ReadBlocks) → Adds at.in_note first second (no_blocks left) → Enlists at second third place more → Enlists at first third place (blocks_with left more)
  enlists_beside first second third left place more adds enlists = enlists_then first second third None place (no_blocks left) more (enlists_left first second left adds) enlists

  -- one part more behind others
  pub enlists_next : (first second third : Read) (a b : Option ℕ) (parts : List ReadBlocks) (part : ReadBlocks) → Enlists at first second a (joined_blocks parts) → Enlists at second third b part
      → Enlists at first third (option_or a b) (joined_blocks (parts ++ part ∷ []))
  enlists_next first second third a b parts part e g =
      enlists_same first third (option_or a b) (joined_with (joined_blocks parts) part) (joined_blocks (parts ++ part ∷ [])) (sym (joined_behind parts part)) (enlists_then first second third a b (joined_blocks parts) part e g)

  pub enters_next : (first second third : Read) (parts : List ReadBlocks) (part : ReadBlocks) → Enters at first second (joined_blocks parts) → Enters at second third part → Enters at first third (joined_blocks (parts ++ part ∷ []))
  enters_next first second third parts part e g =
      enters_same first third (joined_with (joined_blocks parts) part) (joined_blocks (parts ++ part ∷ [])) (sym (joined_behind parts part)) (enters_then first second third (joined_blocks parts) part e g)
