-- Notes with what their bodies hold.
use Rattle.std.proofs.Common.{◌≡◌, ◌<◌, ℕ, ◌+◌, ◌-◌, zero, suc, Bool, true, false, cond, List, [], ◌∷◌, ◌++◌, map, length, take, refl, sym, ap, ap₂, ◌∙◌, append-nil, arith, subst, Option, Some, None, slice_index_or}
use Rattle.std.specs.List.{filter, find, AllByRecursion as Each}
use Rattle.std.specs.Option.{option_to_list}
use Rattle.std.proofs.lemmas.List.{length-map, map-append}
use Rattle.markup_nodes.specs.declared.nodes.Turn.{Turn}
use Rattle.markup_nodes.specs.Nodes.{turns_of}
use Rattle.load_model.specs.declared.names.Tag.{Tag}
use Rattle.load_model.specs.declared.names.Tag.TheVariants as tag
use Rattle.load_model.specs.declared.element.Element.{Element, out-Element}
use Rattle.load_model.specs.Blocks.{Known, Gives, ReadBlocks, gives_of, blocks_alone, first_given, of_tag, joined_blocks, left_by, lists_of_note, no_blocks, note_left, note_rules, or_empty, paragraphs_of, ReadContent}
use Rattle.load_model.specs.Left.{Left, both, nothing, all_of, only_elements, attributes_of, children, is, is_same_tag, first}
use Rattle.doc_model.specs.Alike.{in_note}
use Rattle.doc_model.specs.declared.block.Block.{Block}
use Rattle.doc_model.specs.declared.paragraph.Item.{Item}
use Rattle.doc_model.specs.declared.paragraph.Note.{Note}
use Rattle.doc_model.specs.declared.paragraph.Par.{Par}
use Rattle.doc_model.specs.declared.paragraph.What.TheOpen.{What-F}
use Rattle.doc_model.specs.declared.paragraph.What.TheViews.{out-roll-What, out-roll-Note}
use Rattle.load_model.specs.declared.element.Attribute.{Attribute}
use Rattle.load_model.specs.Content.{Read, item_in}
use Rattle.load_model.specs.Met.{is_at}
use Rattle.element_parts.specs.Shown.{shown}
use Rattle.element_parts.specs.declared.left.LeftOut.{LeftOut}
use Rattle.item_spaces.specs.declared.spacing.SpacedItems.{SpacedItems}
use Rattle.block_parts.specs.Notes.{bodies, citations, left_in}
use Rattle.block_parts.specs.Values.{note_by}
use Rattle.read_blocks.specs.Kept.{at_ten, kept_block, kept_raw}
use Rattle.read_blocks.proofs.KeptLemmas.{or_empty_kept, paragraphs_kept}
use Rattle.content_read.specs.Adds.{Adds, Gains}
use Rattle.content_read.proofs.AddLemmas.{adds_is, gains_is}
use Rattle.read_blocks.specs.Adds.{joined_with}
use Rattle.read_blocks.proofs.AddLemmas.{joined_first, blocks_same}
use Rattle.block_parts.proofs.LeftLemmas.{both_none}
use Rattle.content_read.proofs.HeldLemmas.{gives_out}
use Rattle.text_read.specs.Walk.{blocks_in, body_in, kept_content, note_at}
use Rattle.block_parts.proofs.NoteLemmas.{elems_turns}
use Rattle.text_read.proofs.WalkLemmas.{inside_out}

pub joined_one : (part : ReadBlocks) → joined_blocks (part ∷ []) ≡ part
joined_one part =
    joined_first part [] ∙ blocks_same (joined_with part (joined_blocks [])) part (append-nil part.blocks) (append-nil part.sources) (append-nil part.declarations) (both_none part.left)

-- none of some turns is a body
abbrev pub NoneOf : List (Turn Element) → Type 0
NoneOf turns = Each (λ (turn : Turn Element). is tag.NoteBody turn.elem ≡ false) turns

module _ (model : Known) where
  tag_out : (wanted : Tag) (element : Element) → is_same_tag (gives_of model element).tag wanted ≡ is wanted element
  tag_out wanted element = ap (λ (one : Gives). is_same_tag one.tag wanted) (gives_out model element)

  -- the first of a tag, and all
  first_step : (b : Bool) (x : Element) (ys : List Gives) (found : Option Element) → ys ≡ map (gives_of model) (option_to_list found)
      → cond b (gives_of model x ∷ []) ys ≡ map (gives_of model) (option_to_list (cond b (Some x) found))
  first_step true x ys found e = refl
  first_step false x ys found e = e

  first_among : (wanted : Tag) (elements : List Element) → first_given wanted (map (gives_of model) elements) ≡ map (gives_of model) (option_to_list (first wanted elements))
  first_among wanted [] = refl
  first_among wanted (x ∷ xs) =
      ap (λ b. cond b (gives_of model x ∷ []) (first_given wanted (map (gives_of model) xs))) (tag_out wanted x)
      ∙ first_step (is wanted x) x (first_given wanted (map (gives_of model) xs)) (first wanted xs) (first_among wanted xs)

  all_step : (b : Bool) (x : Element) (xs : List Element) (ys : List Gives) → ys ≡ map (gives_of model) xs → cond b (gives_of model x ∷ ys) ys ≡ map (gives_of model) (cond b (x ∷ xs) xs)
  all_step true x xs ys e = ap (λ (more : List Gives). gives_of model x ∷ more) e
  all_step false x xs ys e = e

  all_among : (wanted : Tag) (elements : List Element) → of_tag wanted (map (gives_of model) elements) ≡ map (gives_of model) (filter (is wanted) elements)
  all_among wanted [] = refl
  all_among wanted (x ∷ xs) =
      ap (λ b. cond b (gives_of model x ∷ of_tag wanted (map (gives_of model) xs)) (of_tag wanted (map (gives_of model) xs))) (tag_out wanted x)
      ∙ all_step (is wanted x) x (filter (is wanted) xs) (of_tag wanted (map (gives_of model) xs)) (all_among wanted xs)

  attributes_among : (elements : List Element) → map (λ (one : Gives). left_by [] one.attributes) (map (gives_of model) elements) ≡ map (λ (element : Element). left_by [] (attributes_of element)) elements
  attributes_among [] = refl
  attributes_among (x ∷ xs) = ap₂ (λ (one : Left) (more : List Left). one ∷ more) (ap (λ (one : Gives). left_by [] one.attributes) (gives_out model x)) (attributes_among xs)

  abbrev left_with : ℕ → List Gives → List Gives → Left
  left_with count some others = both (only_elements (count - (length some + length others))) (all_of (map (λ (one : Gives). left_by [] one.attributes) (some ++ others)))

  -- what is left out in a note
  pub left_given : (elements : List Element) → left_in elements ≡ note_left (map (gives_of model) elements)
  left_given elements =
      let some = bodies elements in
      let others = citations elements in
      let gives = map (gives_of model) elements in
      sym (ap₂ (λ (a b : List Gives). left_with (length gives) a b) (first_among tag.NoteBody elements) (all_among tag.NoteCitation elements)
      ∙ ap₂ (λ (n : ℕ) (lefts : List Left). both (only_elements n) (all_of lefts))
      (let a = length-map elements (gives_of model) in let b = length-map some (gives_of model) in let c = length-map others (gives_of model) in omega (arith, a, b, c))
      (ap (map (λ (one : Gives). left_by [] one.attributes)) (sym (map-append (gives_of model) some others)) ∙ attributes_among (some ++ others)))

  -- the first body among turns
  first_turn : (turns : List (Turn Element)) (i : ℕ) (turn : Turn Element) → i < length turns → turn ≡ slice_index_or turns i turn → NoneOf (take i turns) → is tag.NoteBody turn.elem ≡ true
      → option_to_list (first tag.NoteBody (map (λ (one : Turn Element). one.elem) turns)) ≡ turn.elem ∷ []
  first_turn [] i turn l e none found = absurd (omega (arith, l))
  first_turn (u ∷ us) zero turn l e none found =
      ap (λ b. option_to_list (cond b (Some u.elem) (first tag.NoteBody (map (λ (one : Turn Element). one.elem) us)))) (ap (λ (one : Turn Element). is tag.NoteBody one.elem) (sym e) ∙ found)
      ∙ ap (λ (one : Turn Element). one.elem ∷ []) (sym e)
  first_turn (u ∷ us) (suc i) turn l e none found =
      ap (λ b. option_to_list (cond b (Some u.elem) (first tag.NoteBody (map (λ (one : Turn Element). one.elem) us)))) none.0
      ∙ first_turn us i turn (omega (arith, l)) e none.1 found

  no_turn : (turns : List (Turn Element)) → NoneOf turns → option_to_list (first tag.NoteBody (map (λ (one : Turn Element). one.elem) turns)) ≡ []
  no_turn [] none = refl
  no_turn (u ∷ us) none = ap (λ b. option_to_list (cond b (Some u.elem) (first tag.NoteBody (map (λ (one : Turn Element). one.elem) us)))) none.0 ∙ no_turn us none.1

  body_of : (element : Element) (turns : List (Turn Element)) (found : List Element) → turns ≡ turns_of (out-Element element).nodes → option_to_list (first tag.NoteBody (map (λ (one : Turn Element). one.elem) turns)) ≡ found
      → body_in element model ≡ joined_blocks (map (λ (body : Gives). blocks_alone (body.inside lists_of_note)) (map (gives_of model) found))
  body_of element turns found all e =
      ap (λ (some : List Gives). joined_blocks (map (λ (body : Gives). blocks_alone (body.inside lists_of_note)) some))
      (first_among tag.NoteBody (children element)
      ∙ ap (λ (elements : List Element). map (gives_of model) (option_to_list (first tag.NoteBody elements))) (elems_turns (out-Element element).nodes ∙ ap (map (λ (one : Turn Element). one.elem)) (sym all))
      ∙ ap (map (gives_of model)) e)

  pub body_found : (element : Element) (turns : List (Turn Element)) (i : ℕ) (turn : Turn Element) → turns ≡ turns_of (out-Element element).nodes → i < length turns → turn ≡ slice_index_or turns i turn → NoneOf (take i turns) → is tag.NoteBody turn.elem ≡ true
      → blocks_alone (blocks_in turn.elem model lists_of_note) ≡ body_in element model
  body_found element turns i turn all l e none found =
      sym (body_of element turns (turn.elem ∷ []) all (first_turn turns i turn l e none found) ∙ joined_one (blocks_alone ((gives_of model turn.elem).inside lists_of_note)) ∙ ap blocks_alone (inside_out model turn.elem lists_of_note))

  pub body_absent : (element : Element) (turns : List (Turn Element)) → turns ≡ turns_of (out-Element element).nodes → NoneOf turns → no_blocks nothing ≡ body_in element model
  body_absent element turns all none = sym (body_of element turns [] all (no_turn turns none))

-- a note outside of others
note_kept : (spans : List (List ℕ)) (is_first : Bool) (attributes : List Attribute) (pars : List Par)
    → in_note at_ten (item_in spans (What-F.Note (note_by is_first attributes pars))) ≡ item_in spans (What-F.Note (note_by is_first attributes (map at_ten pars)))
note_kept spans is_first attributes pars = simp (out-roll-What, out-roll-Note)

module _ (model : Known) (element : Element) (spans : List (List ℕ)) where
  abbrev number : ℕ
  number = (out-Element element).place

  abbrev stated : List Attribute
  stated = attributes_of element

  abbrev held_pars : List Par
  held_pars = paragraphs_of (or_empty number (body_in element model).blocks)

  abbrev note_read : Bool → ReadContent
  note_read is_first = record {
    raws = Read (item_in spans (What-F.Note (note_by is_first stated held_pars))) ∷ [];
    left = all_of (left_by (note_rules is_first) stated ∷ note_left (map (gives_of model) (children element)) ∷ (body_in element model).left ∷ []);
  }

  pub note_added : (is_first : Bool) (old new : SpacedItems) (left : LeftOut) (note : Note) (held : List Block) → is_first ≡ is_at model.kept.notes number → held ≡ map (kept_block true) (body_in element model).blocks
      → note ≡ note_by is_first stated (paragraphs_of (or_empty number held)) → left ≡ shown (both (both (both nothing (left_by (note_rules is_first) stated)) (left_in (children element))) (body_in element model).left)
      → Gains old new (Read (item_in spans (What-F.Note note)) ∷ []) → Adds old new left (kept_content false (note_at element model (record { spans = spans; in_note = false })))
  note_added is_first old new left note held first_is held_is note_is left_is gains =
      adds_is old new left (kept_content false (note_read is_first)) (kept_content false (note_at element model (record { spans = spans; in_note = false }))) (ap (λ b. kept_content false (note_read b)) first_is) (record {
        items = gains_is old new (Read (item_in spans (What-F.Note note)) ∷ []) (map kept_raw (note_read is_first).raws)
            (ap (λ (one : Note). Read (item_in spans (What-F.Note one)) ∷ []) (note_is ∙ ap (note_by is_first stated) (ap (λ (some : List Block). paragraphs_of (or_empty number some)) held_is
            ∙ ap paragraphs_of (or_empty_kept true number (body_in element model).blocks) ∙ paragraphs_kept true (or_empty number (body_in element model).blocks)))
            ∙ ap (λ (item : Item). Read item ∷ []) (sym (note_kept spans is_first stated held_pars))) gains;
        left_is = left_is ∙ ap (λ (own : Left). shown (both (both (both nothing (left_by (note_rules is_first) stated)) own) (body_in element model).left)) (left_given model (children element));
      })
