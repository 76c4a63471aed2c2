-- What a call adds here.
use Rattle.std.proofs.Common.{◌≡◌, ◌≢◌, ◌<◌, ℕ, ◌+◌, ◌==◌, ◌&&◌, not, Bool, true, false, cond, List, [], ◌∷◌, ◌++◌, map, length, refl, sym, ap, ap₂, ◌∙◌, append-nil, arith, subst, Option, Some, None, Result, Ok, Err, IfOk, OnOk}
use Rattle.doc_model.specs.declared.block.Block.{Block}
use Rattle.load_model.specs.declared.names.Tag.{Tag}
use Rattle.load_model.specs.declared.names.Tag.TheVariants as tag
use Rattle.load_model.specs.declared.element.Element.{Element, out-Element}
use Rattle.load_model.specs.Blocks as blocks
use Rattle.load_model.specs.Blocks.{Around, Known, Gives, element_content, note_content, ReadBlocks, gives_of, blocks_alone, blocks_with, declaration_blocks, element_blocks, entry_blocks, is_directly_in, joined_blocks, kept_section, list_blocks, no_blocks, one_element, section_blocks, source_blocks, without_declarations}
use Rattle.load_model.specs.Left.{Left, attributes_of, children}
use Rattle.load_model.specs.Met.{is_at}
use Rattle.load_model.specs.Styles.{reference}
use Rattle.load_model.specs.Values as values
use Rattle.load_model.specs.Values.{Rule, rule, stated_or}
use Rattle.load_model.specs.declared.names.Key.TheVariants as key
use Rattle.block_parts.specs.Lists.{with_list}
use Rattle.block_parts.specs.declared.lists.Lists.{Lists}
use Rattle.block_parts.specs.Lists.{StandsIn}
use Rattle.block_parts.specs.declared.begins.Begins.TheVariants as begins
use Rattle.read_blocks.specs.declared.read.ReadBlocks.{ReadBlocks as Read}
use Rattle.read_blocks.specs.Adds.{Adds, joined_with}
use Rattle.read_blocks.specs.First.{behind, first_place, with_first}
use Rattle.read_blocks.proofs.AddLemmas.{adds_then}
use Rattle.content_read.specs.Held.{content_at, held}
use Rattle.content_read.proofs.HeldLemmas.{content_out}
use Rattle.content_read.specs.Known.{IsKnown}
use Rattle.content_read.specs.declared.known.Known.{Known as Kept}
use Rattle.text_read.specs.Walk.{Enters, Enlists, EntersHere, EnlistsHere, begun_by, blocks_at, blocks_in, entries_in, entry_at, held_in, item_in, list_at, note_at, section_at}
use Rattle.text_read.proofs.PlaceLemmas.{changed_stays, direct_section, none_first}
use Rattle.text_read.proofs.WalkLemmas.{blocks_of_tag, entry_of_tag, enlists_beside, enlists_same, enters_same, given_blocks, given_entries, held_elems}

-- what a call answers, told otherwise
module _ {E : Type 0} (known : Kept) (lists : Lists) (old new : Read) (more other : Known → blocks.Lists → ReadBlocks) where
  pub here_same : (result : Result (Option ℕ) E) → ((model : Known) (at : blocks.Lists) → IsKnown known model → StandsIn lists at → more model at ≡ other model at)
      → IfOk result (λ first. EnlistsHere known lists old new first more) → IfOk result (λ first. EnlistsHere known lists old new first other)
  here_same (Ok first) same here = λ model at k s. enlists_same at old new first (more model at) (other model at) (same model at k s) (here model at k s)
  here_same (Err e) same here = tt

  pub here_any : (result : Result (Option ℕ) E) → ((model : Known) (at : blocks.Lists) → more model at ≡ other model at)
      → IfOk result (λ first. (model : Known) (at : blocks.Lists) → Enlists at old new first (more model at)) → IfOk result (λ first. EnlistsHere known lists old new first other)
  here_any (Ok first) same here = λ model at k s. enlists_same at old new first (more model at) (other model at) (same model at) (here model at)
  here_any (Err e) same here = tt

  pub here_enters : (result : Result (Unit {0}) E) → ((model : Known) (at : blocks.Lists) → more model at ≡ other model at) → OnOk result (EntersHere known lists old new more) → OnOk result (EntersHere known lists old new other)
  here_enters (Ok unit) same here = λ model at k s. enters_same at old new (more model at) (other model at) (same model at) (here model at k s)
  here_enters (Err e) same here = tt

  -- more is left out before
  pub here_beside : (result : Result (Option ℕ) E) (first : Read) (left : Known → Left) → ((model : Known) (at : blocks.Lists) → IsKnown known model → Adds at.in_note first old (no_blocks (left model)))
      → ((model : Known) (at : blocks.Lists) → blocks_with (left model) (more model at) ≡ other model at)
      → IfOk result (λ place. EnlistsHere known lists old new place more) → IfOk result (λ place. EnlistsHere known lists first new place other)
  here_beside (Ok place) first left before same here = λ model at k s.
      enlists_same at first new place (blocks_with (left model) (more model at)) (other model at) (same model at) (enlists_beside at first old new (left model) place (more model at) (before model at k) (here model at k s))
  here_beside (Err e) first left before same here = tt

-- elements where blocks are read
module _ (model : Known) (element : Element) (at : blocks.Lists) where
  abbrev place : ℕ
  place = (out-Element element).place

  pub passed_is : (out-Element element).tag ≡ tag.Index → blocks_with one_element (blocks_in element model at) ≡ blocks_at element model at
  passed_is is =
      ap (blocks_with one_element) (sym (ap (λ (gives : List Gives). joined_blocks (map (λ one. one.blocks at) gives)) (held_elems model element) ∙ given_blocks model element at))
      ∙ blocks_of_tag model element at tag.Index is

  pub section_is : (out-Element element).tag ≡ tag.Section → section_at element model at ≡ blocks_at element model at
  section_is is = ap (section_blocks model at place (attributes_of element)) (sym (held_elems model element)) ∙ blocks_of_tag model element at tag.Section is

  pub list_is : (out-Element element).tag ≡ tag.List → list_at element model at ≡ blocks_at element model at
  list_is is = ap (list_blocks model at (attributes_of element)) (sym (held_elems model element)) ∙ blocks_of_tag model element at tag.List is

  pub source_is : (out-Element element).tag ≡ tag.SectionSource → source_blocks (attributes_of element) (map (gives_of model) (children element)) ≡ blocks_at element model at
  source_is is = ap (source_blocks (attributes_of element)) (sym (held_elems model element)) ∙ blocks_of_tag model element at tag.SectionSource is

  pub variables_are : (out-Element element).tag ≡ tag.VariableDeclarations → declaration_blocks false tag.VariableDeclaration (attributes_of element) (map (gives_of model) (children element)) ≡ blocks_at element model at
  variables_are is = ap (declaration_blocks false tag.VariableDeclaration (attributes_of element)) (sym (held_elems model element)) ∙ blocks_of_tag model element at tag.VariableDeclarations is

  pub sequences_are : (out-Element element).tag ≡ tag.SequenceDeclarations → declaration_blocks true tag.SequenceDeclaration (attributes_of element) (map (gives_of model) (children element)) ≡ blocks_at element model at
  sequences_are is = ap (declaration_blocks true tag.SequenceDeclaration (attributes_of element)) (sym (held_elems model element)) ∙ blocks_of_tag model element at tag.SequenceDeclarations is

  other_blocks : (which : Tag) → which ≢ tag.Paragraph → which ≢ tag.Heading → which ≢ tag.List → which ≢ tag.Section → which ≢ tag.Index → which ≢ tag.SectionSource → which ≢ tag.VariableDeclarations → which ≢ tag.SequenceDeclarations
      → no_blocks one_element ≡ element_blocks model which place (attributes_of element) (held model element) at
  other_blocks tag.Paragraph a b c d e f g h = absurd (a refl)
  other_blocks tag.Heading a b c d e f g h = absurd (b refl)
  other_blocks tag.List a b c d e f g h = absurd (c refl)
  other_blocks tag.Section a b c d e f g h = absurd (d refl)
  other_blocks tag.Index a b c d e f g h = absurd (e refl)
  other_blocks tag.SectionSource a b c d e f g h = absurd (f refl)
  other_blocks tag.VariableDeclarations a b c d e f g h = absurd (g refl)
  other_blocks tag.SequenceDeclarations a b c d e f g h = absurd (h refl)
  other_blocks _ a b c d e f g h = refl

  pub other_is : (which : Tag) → (out-Element element).tag ≡ which → which ≢ tag.Paragraph → which ≢ tag.Heading → which ≢ tag.List → which ≢ tag.Section → which ≢ tag.Index → which ≢ tag.SectionSource → which ≢ tag.VariableDeclarations
      → which ≢ tag.SequenceDeclarations → no_blocks one_element ≡ blocks_at element model at
  other_is which is a b c d e f g h = other_blocks which a b c d e f g h ∙ blocks_of_tag model element at which is

  -- entries of a list
  held_is : blocks_with (blocks.left_by [] (attributes_of element)) (blocks_alone (joined_blocks (map (λ one. one.blocks at) (map (gives_of model) (children element))))) ≡ held_in element model at
  held_is = ap (λ (read : ReadBlocks). blocks_with (blocks.left_by [] (attributes_of element)) (blocks_alone read)) (given_blocks model element at)

  pub item_is : (out-Element element).tag ≡ tag.ListItem → item_in element model at ≡ entry_at element model at
  item_is is = ap (with_first (is_directly_in at.level) begins.Item) (sym held_is) ∙ entry_of_tag model element at tag.ListItem is

  pub header_is : (out-Element element).tag ≡ tag.ListHeader → held_in element model at ≡ entry_at element model at
  header_is is = sym held_is ∙ entry_of_tag model element at tag.ListHeader is

  other_entries : (which : Tag) → which ≢ tag.ListItem → which ≢ tag.ListHeader → no_blocks one_element ≡ entry_blocks which (attributes_of element) (map (gives_of model) (children element)) at
  other_entries tag.ListItem a b = absurd (a refl)
  other_entries tag.ListHeader a b = absurd (b refl)
  other_entries _ a b = refl

  pub other_entry : (which : Tag) → (out-Element element).tag ≡ which → which ≢ tag.ListItem → which ≢ tag.ListHeader → no_blocks one_element ≡ entry_at element model at
  other_entry which is a b = other_entries which a b ∙ entry_of_tag model element at which is

  -- sections
  abbrev section_by : Bool → ReadBlocks → ReadBlocks
  section_by kept read = cond kept (kept_section model place (attributes_of element) (without_declarations read)) (blocks_with one_element read)

  section_told : (b : Bool) → is_at model.kept.sections place ≡ b → section_by b (blocks_in element model at) ≡ section_at element model at
  section_told b e =
      ap (λ c. section_by c (blocks_in element model at)) (sym e) ∙ ap (section_by (is_at model.kept.sections place)) (sym (given_blocks model element at))

  pub section_passed : is_at model.kept.sections place ≡ false → blocks_with one_element (blocks_in element model at) ≡ section_at element model at
  section_passed e = section_told false e

  pub section_added : (old new : Read) → is_at model.kept.sections place ≡ true → Adds at.in_note old new (kept_section model place (attributes_of element) (without_declarations (blocks_in element model at))) → Enlists at old new None (section_at element model at)
  section_added old new e adds = enlists_same at old new None (kept_section model place (attributes_of element) (without_declarations (blocks_in element model at))) (section_at element model at) (section_told true e) (record {
    enters = record { adds = adds; within = λ level l. (direct_section level _, tt) };
    first_is = sym (ap (behind (length old.blocks.items)) (none_first (is_directly_in at.level) (kept_section model place (attributes_of element) (without_declarations (blocks_in element model at))).blocks (direct_section at.level _, tt)));
  })

  -- an item
  pub item_begun : (old mid new : Read) (first : Option ℕ) → Enlists at old mid first (held_in element model at) → Adds at.in_note old new (item_in element model at) → Enters at old new (item_in element model at)
  item_begun old mid new first enlists adds = record { adds = adds; within = λ level l. changed_stays level begins.Item (is_directly_in at.level) (held_in element model at).blocks (enlists.enters.within level l) }

  -- what an entry holds
  pub entry_held : (first second third last : Read) (place : Option ℕ) → Adds at.in_note first second (no_blocks (blocks.left_by [] (attributes_of element))) → Enlists at second third place (blocks_in element model at)
      → Adds at.in_note second last (blocks_alone (blocks_in element model at)) → Enlists at first last place (held_in element model at)
  entry_held first second third last place before inside adds =
      enlists_beside at first second last (blocks.left_by [] (attributes_of element)) place (blocks_alone (blocks_in element model at)) before (record {
        enters = record { adds = adds; within = inside.enters.within };
        first_is = inside.first_is;
      })

  -- a list
  abbrev pub list_rules : List Rule
  list_rules = rule key.StyleName (reference model.names.lists) ∷ rule key.ContinueNumbering values.truth ∷ []

  abbrev pub inner : blocks.Lists
  inner = with_list model.names.lists (attributes_of element) at

  abbrev list_begins : Bool
  list_begins = at.level == 0 && not (stated_or key.ContinueNumbering values.truth false (attributes_of element))

  pub list_ended_here : (first second third : Read) (place : Option ℕ) → Adds at.in_note first second (no_blocks (blocks.left_by list_rules (attributes_of element)))
      → Enlists at second third place (begun_by list_begins (entries_in element model inner)) → Enlists at first third place (list_at element model at)
  list_ended_here first second third place adds enlists =
      enlists_same at first third place (blocks_with (blocks.left_by list_rules (attributes_of element)) (begun_by list_begins (entries_in element model inner))) (list_at element model at)
      (ap (λ (entries : ReadBlocks). blocks_with (blocks.left_by list_rules (attributes_of element)) (begun_by list_begins entries)) (sym (given_entries model element inner)))
      (enlists_beside at first second third (blocks.left_by list_rules (attributes_of element)) place (begun_by list_begins (entries_in element model inner)) adds enlists)

-- a note as content
pub note_is : (model : Known) (element : Element) (around : Around) → (out-Element element).tag ≡ tag.Note → note_at element model around ≡ content_at model element around
note_is model element around is =
    ap (note_content model around (out-Element element).place (attributes_of element)) (sym (held_elems model element))
    ∙ ap (λ which. element_content model which (out-Element element).place (attributes_of element) (held model element) around) (sym is) ∙ sym (content_out model element around)
