-- A paragraph alone in its list.
use Rattle.std.proofs.Common.{◌≡◌, ℕ, ◌+◌, ◌≤◌, ◌==◌, ◌||◌, ◌&&◌, not, zero, suc, Bool, true, false, cond, List, [], ◌∷◌, ◌++◌, map, codes, refl, sym, ap, ap₂, ◌∙◌, arith, Option, Some, None, option_map, is_some}
use Rattle.std.specs.List.{list_any, AllByRecursion as Each}
use Rattle.std.specs.Option.{option_map_or}
use Rattle.std.specs.Prelude.{if◌then◌else◌}
use Rattle.std.proofs.lemmas.Bool.{eq-eqb, ne_eqb}
use Rattle.markup_nodes.specs.declared.tree.Elem.{Elem}
use Rattle.markup_nodes.specs.Node.{Node, Element}
use Rattle.markup_nodes.specs.Nodes.{elems}
use Rattle.doc_model.specs.declared.block.Block.{Block}
use Rattle.doc_model.specs.declared.block.Block.TheViews.{out-roll-Block}
use Rattle.doc_model.specs.declared.paragraph.Item.{Item}
use Rattle.doc_model.specs.declared.paragraph.ListPos.{ListPos}
use Rattle.doc_model.specs.declared.paragraph.Note.{Note}
use Rattle.doc_model.specs.declared.paragraph.Par.{Par, out-Par, roll-Par}
use Rattle.doc_model.specs.declared.paragraph.What.{What}
use Rattle.doc_model.specs.declared.paragraph.What.TheOpen.{Par-F}
use Rattle.doc_model.specs.declared.paragraph.What.TheViews.{out-roll-Par, roll-out-Par}
use Rattle.load_model.specs.declared.names.Key.TheVariants as key
use Rattle.load_model.specs.declared.names.Tag.TheVariants as tag
use Rattle.load_model.specs.declared.element.Attribute.{Attribute}
use Rattle.load_model.specs.Blocks.{Gives, Lists, ReadBlocks, as_block, blocks_alone, blocks_with, entry_blocks, first_changed, is_directly_in, joined_blocks, left_by, list_blocks, list_place, paragraphs_of, with_place}
use Rattle.load_model.specs.Left.{Left, nothing}
use Rattle.load_model.specs.Styles.{Names, reference}
use Rattle.load_model.specs.Values as value
use Rattle.load_model.specs.Values.{Rule, rule, stated_or}
use Rattle.written_model.specs.Blocks.{bare_paragraph, below, entry_element, listed_paragraph, nested_entry, paragraph}
use Rattle.written_model.specs.Elements.{attribute, element, unless_empty}
use Rattle.written_model.specs.Values.{truth}
use Rattle.back_fields.specs.Given.{all_kept, given}
use Rattle.back_fields.proofs.Attributes.{at, at_unless, left_first, named_first, named_unless}
use Rattle.back_fields.proofs.Opened.{gives_with}
use Rattle.back_spans.proofs.Runs.{style_name_key}
use Rattle.back_values.proofs.Words.{truth_back}
use Rattle.back_paragraphs.specs.Paragraphs.{IsNoneOrGood, IsPlace, IsReadablePar, outside, parts_of, whole_blocks}
use Rattle.back_paragraphs.proofs.Bare.{IsPlaced, bare_read, par_at}
use Rattle.back_paragraphs.proofs.Keys as named
use Rattle.back_paragraphs.proofs.Parts.{IsBlocks, gives_at, part_first, style_left, style_stated}

-- a paragraph among blocks
pub paragraphs_one : (par : Par) → paragraphs_of (as_block par ∷ []) ≡ par ∷ []
paragraphs_one par = simp out-roll-Block

changed_one : (test : Block → Bool) (change : ListPos → ListPos) (par : Par) (passes : Bool) → test (as_block par) ≡ passes → first_changed test change (as_block par ∷ []) ≡ as_block (cond passes (with_place change par) par) ∷ []
changed_one test change par true e =
    ap (λ (b : Bool). cond b (map (λ (one : Par). as_block (with_place change one)) (paragraphs_of (as_block par ∷ [])) ++ []) (as_block par ∷ [])) e
    ∙ ap (λ (pars : List Par). map (λ (one : Par). as_block (with_place change one)) pars ++ []) (paragraphs_one par)
changed_one test change par false e = ap (λ (b : Bool). cond b (map (λ (one : Par). as_block (with_place change one)) (paragraphs_of (as_block par ∷ [])) ++ []) (as_block par ∷ [])) e

-- its list place
list_at : (par : Par) (list : Option ListPos) → (out-Par (par_at par list)).list ≡ list
list_at par list = ap (λ (x : Par-F What Item Note Par). x.list) (out-roll-Par (record (out-Par par) { list = list }))

placed_change : (change : ListPos → ListPos) (par : Par) (place : ListPos) → with_place change (par_at par (Some place)) ≡ par_at par (Some (change place))
placed_change change par place = ap (λ (x : Par-F What Item Note Par). roll-Par (record x { list = option_map change x.list })) (out-roll-Par (record (out-Par par) { list = Some place }))

directly_in : (level : ℕ) (par : Par) (place : ListPos) → is_directly_in level (as_block (par_at par (Some place))) ≡ (place.level == level)
directly_in level par place =
    ap (λ (pars : List Par). list_any (λ (one : Par). option_map_or (λ (own : ListPos). own.level == level) (out-Par one).list false) pars) (paragraphs_one (par_at par (Some place)))
    ∙ ap (λ (list : Option ListPos). option_map_or (λ (own : ListPos). own.level == level) list false || false) (list_at par (Some place)) ∙ alone (place.level == level) where
      alone : (b : Bool) → (b || false) ≡ b
      alone true = refl
      alone false = refl

-- a place within so many lists
abbrev place_in : ℕ → List ℕ → Bool → Bool → ListPos
place_in level style item fresh = record { style = style; level = level; item = item; fresh = fresh }

abbrev within : ℕ → List ℕ → Bool → Lists
within level style in_note = record { level = level; style = style; in_note = in_note }

place_within : (level : ℕ) (style : List ℕ) (in_note : Bool) → list_place (within (suc level) style in_note) ≡ Some (place_in (suc level) style false false)
place_within level style in_note = ap (λ (b : Bool). cond b None (Some (place_in (suc level) style false false))) (ne_eqb (suc level) 0 (λ e. absurd (omega (arith, e))))

module _ (names : Names) (in_note : Bool) (par : Par) where
  -- a node that is read where the entries of a list are, so many levels deeper
  record IsEntry (item : Bool) (deeper : ℕ) (node : Node Elem) : Type 0 where
    gives : Gives
    is : given names node ≡ Element gives
    read : (level : ℕ) (style : List ℕ) → gives.entry (within (suc level) style in_note) ≡ whole_blocks (as_block (par_at par (Some (place_in (suc level + deeper) style item false))) ∷ [])

  -- what an entry holds
  abbrev held : ReadBlocks → ReadBlocks
  held read = blocks_with (left_by [] []) (blocks_alone (joined_blocks (read ∷ [])))

  abbrev begun : ℕ → ReadBlocks → ReadBlocks
  begun level read = record (held read) { blocks = first_changed (is_directly_in level) (λ place. record place { item = true }) (held read).blocks }

  begun_par : (level : ℕ) (place : ListPos) (same : Bool) → (place.level == level) ≡ same
      → begun level (whole_blocks (as_block (par_at par (Some place)) ∷ [])) ≡ whole_blocks (as_block (cond same (par_at par (Some (record place { item = true }))) (par_at par (Some place))) ∷ [])
  begun_par level place same e =
      ap whole_blocks (changed_one (is_directly_in level) (λ own. record own { item = true }) (par_at par (Some place)) same (directly_in level par place ∙ e)
      ∙ ap (λ (one : Par). as_block (cond same one (par_at par (Some place))) ∷ []) (placed_change (λ own. record own { item = true }) par place))

  none_deeper : (level : ℕ) (style : List ℕ) (item : Bool) → par_at par (Some (place_in (suc level) style item false)) ≡ par_at par (Some (place_in (suc level + 0) style item false))
  none_deeper level style item = let e : suc level ≡ suc level + 0 = omega arith in ap (λ (n : ℕ). par_at par (Some (place_in n style item false))) e

  innermost : (node : Node Elem) (item : Bool) → IsPlaced names in_note node par → IsEntry item 0 (entry_element item node)
  innermost node true placed = record {
    gives = gives_with (all_kept names) tag.ListItem [] (given names node ∷ []);
    is = gives_at names (codes "text:list-item") [] (node ∷ []) tag.ListItem [] named.item_tag refl;
    read = λ level style.
        ap (λ (one : Node Gives). entry_blocks tag.ListItem [] (elems (one ∷ [])) (within (suc level) style in_note)) placed.is
        ∙ ap (begun (suc level)) (placed.read (suc level) style ∙ ap (λ (list : Option ListPos). whole_blocks (as_block (par_at par list) ∷ [])) (place_within level style in_note))
        ∙ begun_par (suc level) (place_in (suc level) style false false) true (eq-eqb (suc level) (suc level) refl)
        ∙ ap (λ (one : Par). whole_blocks (as_block one ∷ [])) (none_deeper level style true);
  }
  innermost node false placed = record {
    gives = gives_with (all_kept names) tag.ListHeader [] (given names node ∷ []);
    is = gives_at names (codes "text:list-header") [] (node ∷ []) tag.ListHeader [] named.header_tag refl;
    read = λ level style.
        ap (λ (one : Node Gives). entry_blocks tag.ListHeader [] (elems (one ∷ [])) (within (suc level) style in_note)) placed.is
        ∙ ap held (placed.read (suc level) style ∙ ap (λ (list : Option ListPos). whole_blocks (as_block (par_at par list) ∷ [])) (place_within level style in_note))
        ∙ ap (λ (one : Par). whole_blocks (as_block one ∷ [])) (none_deeper level style false);
  }

  -- a list within others
  abbrev list_rules : List Rule
  list_rules = rule key.StyleName (reference names.lists) ∷ rule key.ContinueNumbering value.truth ∷ []

  abbrev entries : ReadBlocks → ReadBlocks
  entries read = joined_blocks (read ∷ [])

  abbrev counted : Bool → ReadBlocks → ReadBlocks
  counted begins read = cond begins (record (entries read) { blocks = first_changed (λ block. true) (λ place. record place { fresh = true }) (entries read).blocks }) (entries read)

  inner_read : (gives : Gives) (level : ℕ) (style : List ℕ)
      → list_blocks (all_kept names) (within (suc level) style in_note) [] (gives ∷ []) ≡ entries (gives.entry (within (suc level + 1) style in_note))
  inner_read gives level style =
      ap (λ (outermost : Bool). blocks_with nothing (counted (outermost && true) (gives.entry (within (suc level + 1) style in_note)))) (ne_eqb (suc level) 0 (λ e. absurd (omega (arith, e)))) ∙ none (entries (gives.entry (within (suc level + 1) style in_note))) where
        none : (read : ReadBlocks) → blocks_with nothing read ≡ read
        none read = ap₂ (λ (a b : ℕ). record read { left = record { elements = a; attributes = b } }) (omega arith) (omega arith)

  one_deeper : (item : Bool) (deeper : ℕ) (node : Node Elem) → IsEntry item deeper node → IsEntry item (suc deeper) (element (codes "text:list-item") [] (element (codes "text:list") [] (node ∷ []) ∷ []))
  one_deeper item deeper node entry = record {
    gives = gives_with (all_kept names) tag.ListItem [] (given names list ∷ []);
    is = gives_at names (codes "text:list-item") [] (list ∷ []) tag.ListItem [] named.item_tag refl;
    read = λ level style.
        ap (λ (one : Node Gives). entry_blocks tag.ListItem [] (elems (one ∷ [])) (within (suc level) style in_note)) (gives_at names (codes "text:list") [] (node ∷ []) tag.List [] named.list_tag refl)
        ∙ ap (λ (one : Node Gives). begun (suc level) (list_blocks (all_kept names) (within (suc level) style in_note) [] (elems (one ∷ [])))) entry.is
        ∙ ap (begun (suc level)) (inner_read entry.gives level style ∙ ap entries (held_entry level style))
        ∙ begun_par (suc level) (place_in (suc level + suc deeper) style item false) false (ne_eqb (suc level + suc deeper) (suc level) (λ e. absurd (omega (arith, e))));
  } where
    list : Node Elem
    list = element (codes "text:list") [] (node ∷ [])

    held_entry : (level : ℕ) (style : List ℕ) → entry.gives.entry (within (suc level + 1) style in_note) ≡ whole_blocks (as_block (par_at par (Some (place_in (suc level + suc deeper) style item false))) ∷ [])
    held_entry level style =
        let next : suc level + 1 ≡ suc (suc level) = omega arith in
        let sum : suc (suc level) + deeper ≡ suc level + suc deeper = omega arith in
        ap (λ (n : ℕ). entry.gives.entry (within n style in_note)) next ∙ entry.read (suc level) style ∙ ap (λ (n : ℕ). whole_blocks (as_block (par_at par (Some (place_in n style item false))) ∷ [])) sum

  all_deeper : (item : Bool) (deeper : ℕ) (node : Node Elem) → IsEntry item 0 node → IsEntry item deeper (nested_entry deeper node)
  all_deeper item zero node entry = entry
  all_deeper item (suc deeper) node entry = one_deeper item deeper (nested_entry deeper node) (all_deeper item deeper node entry)

  -- the outermost list
  module _ (place : ListPos) (good : IsNoneOrGood (reference names.lists) place.style) where
    abbrev continues : Bool
    continues = if place.fresh then false else true

    abbrev own : List Attribute
    own = at key.ContinueNumbering (truth continues) ∷ []

    abbrev list_attributes : List Attribute
    list_attributes = at_unless key.StyleName place.style own

    none_left : left_by list_rules list_attributes ≡ nothing
    none_left = style_left (reference names.lists) (rule key.ContinueNumbering value.truth ∷ []) place.style own good (left_first list_rules (at key.ContinueNumbering (truth continues)) [] (ap is_some (truth_back continues)) refl)

    style_is : stated_or key.StyleName (reference names.lists) [] list_attributes ≡ place.style
    style_is = style_stated (reference names.lists) place.style [] own good (λ none. refl)

    continues_is : stated_or key.ContinueNumbering value.truth false list_attributes ≡ continues
    continues_is = by_style place.style where
      by_style : (style : List ℕ) → stated_or key.ContinueNumbering value.truth false (at_unless key.StyleName style own) ≡ continues
      by_style [] = ap (λ (found : Option Bool). option_map_or (λ value. value) found false) (truth_back continues)
      by_style (c ∷ cs) = ap (λ (found : Option Bool). option_map_or (λ value. value) found false) (truth_back continues)

    counted_par : (fresh : Bool) (level : ℕ) (item : Bool) → counted (not (if fresh then false else true)) (whole_blocks (as_block (par_at par (Some (place_in level place.style item false))) ∷ []))
        ≡ whole_blocks (as_block (par_at par (Some (place_in level place.style item fresh))) ∷ [])
    counted_par true level item =
        ap whole_blocks (changed_one (λ block. true) (λ own. record own { fresh = true }) (par_at par (Some (place_in level place.style item false))) true refl
        ∙ ap (λ (one : Par). as_block one ∷ []) (placed_change (λ own. record own { fresh = true }) par (place_in level place.style item false)))
    counted_par false level item = refl

    outermost : (gives : Gives) (deeper : ℕ) (item : Bool)
        → ((level : ℕ) (style : List ℕ) → gives.entry (within (suc level) style in_note) ≡ whole_blocks (as_block (par_at par (Some (place_in (suc level + deeper) style item false))) ∷ []))
        → list_blocks (all_kept names) (outside in_note) list_attributes (gives ∷ []) ≡ whole_blocks (as_block (par_at par (Some (place_in (1 + deeper) place.style item place.fresh))) ∷ [])
    outermost gives deeper item read =
        ap₂ (λ (style : List ℕ) (goes_on : Bool). blocks_with (left_by list_rules list_attributes) (counted (not goes_on) (gives.entry (within 1 style in_note)))) style_is continues_is
        ∙ ap₂ (λ (left : Left) (entry : ReadBlocks). blocks_with left (counted (not continues) entry)) none_left (read 0 place.style)
        ∙ ap (blocks_with nothing) (counted_par place.fresh (1 + deeper) item)

  listed : (place : ListPos) (node : Node Elem) → IsNoneOrGood (reference names.lists) place.style → 1 ≤ place.level → IsPlaced names in_note node par → IsBlocks names (outside in_note) (listed_paragraph place node) (as_block (par_at par (Some place)) ∷ [])
  listed place node good low placed =
      let entry = all_deeper place.item (below place.level) (entry_element place.item node) (innermost node place.item placed) in
      let inside : Node Elem = nested_entry (below place.level) (entry_element place.item node) in
      let attributes : List Attribute = at_unless key.StyleName place.style (at key.ContinueNumbering (truth (if place.fresh then false else true)) ∷ []) in
      record {
        gives = gives_with (all_kept names) tag.List attributes (given names inside ∷ []);
        is = gives_at names (codes "text:list") (unless_empty (codes "text:style-name") place.style ++ attribute (codes "text:continue-numbering") (truth (if place.fresh then false else true)) ∷ []) (inside ∷ []) tag.List attributes named.list_tag
            (named_unless (codes "text:style-name") place.style key.StyleName (attribute (codes "text:continue-numbering") (truth (if place.fresh then false else true)) ∷ []) (at key.ContinueNumbering (truth (if place.fresh then false else true)) ∷ []) style_name_key
            (named_first (codes "text:continue-numbering") (truth (if place.fresh then false else true)) key.ContinueNumbering [] [] named.continue_key refl));
        read =
            ap (λ (one : Node Gives). list_blocks (all_kept names) (outside in_note) attributes (elems (one ∷ []))) entry.is
            ∙ outermost place good entry.gives (below place.level) place.item entry.read
            ∙ ap (λ (n : ℕ). whole_blocks (as_block (par_at par (Some (place_in n place.style place.item place.fresh))) ∷ [])) (first_and_more place.level low);
      } where
        first_and_more : (level : ℕ) → 1 ≤ level → 1 + below level ≡ level
        first_and_more zero low = absurd (omega arith)
        first_and_more (suc level) low = omega arith

-- a paragraph in its list, if it has one
module _ (names : Names) (in_note : Bool) (note_node : Note → Node Elem) where
  par_same : (par : Par) (list : Option ListPos) → (out-Par par).list ≡ list → par_at par list ≡ par
  par_same par list e = ap (λ (own : Option ListPos). roll-Par (record (out-Par par) { list = own })) (sym e) ∙ roll-out-Par par

  pub par_read : (par : Par) → IsReadablePar names in_note note_node par → IsBlocks names (outside in_note) (paragraph note_node par) (as_block par ∷ [])
  par_read par readable = by_list (out-Par par).list refl readable.list where
    own : IsPlaced names in_note (bare_paragraph note_node par) par
    own = bare_read names in_note note_node par readable

    by_list : (list : Option ListPos) → (out-Par par).list ≡ list → IsPlace names list → IsBlocks names (outside in_note) (paragraph note_node par) (as_block par ∷ [])
    by_list None e place = record { gives = own.gives; is = rw e own.is; read = own.read 0 [] ∙ ap (λ (one : Par). whole_blocks (as_block one ∷ [])) (par_same par None e) }
    by_list (Some at_place) e place =
        let found = listed names in_note par at_place (bare_paragraph note_node par) place.0 place.1 own in
        record { gives = found.gives; is = rw e found.is; read = found.read ∙ ap (λ (one : Par). whole_blocks (as_block one ∷ [])) (par_same par (Some at_place) e) }

  pub pars_read : (pars : List Par) → Each (IsReadablePar names in_note note_node) pars → parts_of names (outside in_note) (map (paragraph note_node) pars) ≡ whole_blocks (map as_block pars)
  pars_read [] each = refl
  pars_read (par ∷ pars) each = part_first names (outside in_note) (paragraph note_node par) (map (paragraph note_node) pars) (as_block par ∷ []) (map as_block pars) (par_read par each.0) (pars_read pars each.1)
