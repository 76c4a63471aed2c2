-- The places of declarations stand within those of a text's elements.
use Rattle.std.proofs.Common.{◌≡◌, ℕ, ◌==◌, ◌&&◌, not, Bool, true, false, cond, List, [], ◌∷◌, ◌++◌, map, refl, sym, ap, ◌∙◌, append-nil, Option, Some, None, is_some}
use Rattle.std.specs.List.{flat_map, filter, AllByRecursion as Each}
use Rattle.std.specs.Option.{option_map_or}
use Rattle.std.specs.Str.{bytes_eq}
use Rattle.std.proofs.lemmas.Grind.{flat_map-append}
use Rattle.markup_nodes.specs.Node.{Node}
use Rattle.markup_nodes.specs.Nodes.{elems}
use Rattle.doc_model.specs.declared.block.Block.{Block}
use Rattle.load_model.specs.declared.names.Key.TheVariants as key
use Rattle.load_model.specs.declared.names.Tag.{Tag}
use Rattle.load_model.specs.declared.names.Tag.TheVariants as tag
use Rattle.load_model.specs.declared.element.Attribute.{Attribute}
use Rattle.load_model.specs.declared.element.Element.{Element, out-Element}
use Rattle.load_model.specs.Values as value
use Rattle.load_model.specs.Values.{stated, stated_or}
use Rattle.load_model.specs.Left.{nothing, is_same_tag, firsts}
use Rattle.load_model.specs.Met.{is_at}
use Rattle.load_model.specs.Blocks.{
  Known,
  Lists,
  Gives,
  gives_of,
  Declared,
  ReadDeclarations,
  ReadBlocks,
  joined_blocks,
  no_blocks,
  blocks_with,
  without_declarations,
  without_sources,
  kept_section,
  first_changed,
  inner_list,
  list_blocks,
  entry_blocks,
  section_blocks,
  declaration_blocks,
  element_blocks,
  one_element,
}
use Rattle.load_model.specs.Loaded.{text_of, known_of, read_text, kept_declarations}
use Rattle.declared_names.specs.Merge.{IsRising}
use Rattle.tree_places.specs.Order.{places_in, IsInOrder}
use Rattle.tree_places.proofs.Within.{Within, within_more, within_self, within_front, within_append, within_through, within_map, within_filter, within_is, within_all, each_weaker}
use Rattle.tree_places.proofs.Trees.{every_element, places_out}
use Rattle.text_places.proofs.Lists.{within_firsts, within_some, rise_within, text_within, map_flat}
use Rattle.text_places.proofs.Held.{with_nodes, given, gives_out, elems_given}

abbrev place_of : Declared → ℕ
place_of declared = declared.place

-- the places of declarations
abbrev declared_in : List ReadDeclarations → List ℕ
declared_in parts = flat_map (λ (part : ReadDeclarations). map place_of part.declared) parts

abbrev inner : List Element → List ℕ
inner elements = flat_map places_in elements

module _ (known : Known) where
  abbrev given_of : Element → Gives
  given_of element = gives_of known element

  -- what is declared where an element stands
  abbrev IsTold : Element → Type 0
  IsTold element =
      ((lists : Lists) → Within (declared_in ((given_of element).blocks lists).declarations) (places_in element)) × ((lists : Lists) → Within (declared_in ((given_of element).entry lists).declarations) (places_in element))
      × ((given_of element).place ≡ (out-Element element).place) × ((lists : Lists) → Within (declared_in ((given_of element).inside lists).declarations) (places_in element))

  -- several elements, each read alike
  each_told : (role : Gives → ReadBlocks) (elements : List Element) → Each (λ (one : Element). Within (declared_in (role (given_of one)).declarations) (places_in one)) elements
      → Within (declared_in (joined_blocks (map role (map given_of elements))).declarations) (inner elements)
  each_told role [] all = tt
  each_told role (one ∷ more) all =
      within_is (declared_in (joined_blocks (map role (map given_of (one ∷ more)))).declarations)
      (declared_in (role (given_of one)).declarations ++ declared_in (joined_blocks (map role (map given_of more))).declarations) (inner (one ∷ more))
      (flat_map-append (λ (part : ReadDeclarations). map place_of part.declared) (role (given_of one)).declarations (joined_blocks (map role (map given_of more))).declarations)
      (within_append (declared_in (role (given_of one)).declarations) (places_in one) (declared_in (joined_blocks (map role (map given_of more))).declarations) (inner more) all.0 (each_told role more all.1))

  places_map : (f : Gives → Declared) → ((one : Gives) → (f one).place ≡ one.place) → (gives : List Gives) → map place_of (map f gives) ≡ map (λ (one : Gives). one.place) gives
  places_map f same [] = refl
  places_map f same (one ∷ more) = ap (λ (p : ℕ). p ∷ map place_of (map f more)) (same one) ∙ ap (λ (rest : List ℕ). one.place ∷ rest) (places_map f same more)

  module _ (place : ℕ) (elements : List Element) (all : Each IsTold elements) where
    abbrev gives : List Gives
    gives = map given_of elements

    abbrev whole : List ℕ
    whole = place ∷ inner elements

    blocks_in : (lists : Lists) → Within (declared_in (joined_blocks (map (λ (one : Gives). one.blocks lists) gives)).declarations) whole
    blocks_in lists =
        within_more place (declared_in (joined_blocks (map (λ (one : Gives). one.blocks lists) gives)).declarations) (inner elements)
        (each_told (λ one. one.blocks lists) elements (each_weaker IsTold (λ (one : Element). Within (declared_in ((given_of one).blocks lists).declarations) (places_in one)) (λ one h. h.0 lists) elements all))

    entries_in : (lists : Lists) → Within (declared_in (joined_blocks (map (λ (one : Gives). one.entry lists) gives)).declarations) whole
    entries_in lists =
        within_more place (declared_in (joined_blocks (map (λ (one : Gives). one.entry lists) gives)).declarations) (inner elements)
        (each_told (λ one. one.entry lists) elements (each_weaker IsTold (λ (one : Element). Within (declared_in ((given_of one).entry lists).declarations) (places_in one)) (λ one h. h.1 lists) elements all))

    -- a list, whose blocks may begin counting
    changed_same : (b : Bool) (read : ReadBlocks) (others : List Block) → (cond b (record read { blocks = others }) read).declarations ≡ read.declarations
    changed_same true read others = refl
    changed_same false read others = refl

    abbrev begins : Lists → List Attribute → Bool
    begins lists attributes = lists.level == 0 && not (stated_or key.ContinueNumbering value.truth false attributes)

    list_in : (attributes : List Attribute) (lists : Lists) → Within (declared_in (list_blocks known lists attributes gives).declarations) whole
    list_in attributes lists =
        let entries = joined_blocks (map (λ (one : Gives). one.entry (inner_list known lists attributes)) gives) in
        within_is (declared_in (list_blocks known lists attributes gives).declarations) (declared_in entries.declarations) whole
        (ap declared_in (changed_same (begins lists attributes) entries (first_changed (λ block. true) (λ place. record place { fresh = true }) entries.blocks)))
        (entries_in (inner_list known lists attributes))

    section_in : (attributes : List Attribute) (lists : Lists) → Within (declared_in (section_blocks known lists place attributes gives).declarations) whole
    section_in attributes lists = by_kept (is_at known.kept.sections place) where
      read : ReadBlocks
      read = joined_blocks (map (λ (one : Gives). one.blocks lists) gives)

      by_kept : (b : Bool) → Within (declared_in (cond b (kept_section known place attributes (without_declarations read)) (blocks_with one_element read)).declarations) whole
      by_kept true = tt
      by_kept false = blocks_in lists

    -- declarations, of which some have a name
    abbrev has_name : Tag → Gives → Bool
    has_name which one = is_same_tag one.tag which && is_some (stated key.TextName value.name one.attributes)

    places_given : (some : List Element) → Each IsTold some → Within (map (λ (one : Gives). one.place) (map given_of some)) (inner some)
    places_given [] h = tt
    places_given (one ∷ more) h =
        within_is ((given_of one).place ∷ map (λ (one : Gives). one.place) (map given_of more)) ((out-Element one).place ∷ map (λ (one : Gives). one.place) (map given_of more)) (inner (one ∷ more))
        (ap (λ (p : ℕ). p ∷ map (λ (one : Gives). one.place) (map given_of more)) h.0.2)
        (within_append ((out-Element one).place ∷ []) (places_in one) (map (λ (one : Gives). one.place) (map given_of more)) (inner more) (own one) (places_given more h.1))
      where
        own : (one : Element) → Within ((out-Element one).place ∷ []) (places_in one)
        own one =
            within_all ((out-Element one).place ∷ []) ((out-Element one).place ∷ inner (elems (out-Element one).nodes)) (places_in one)
            (within_front ((out-Element one).place ∷ []) ((out-Element one).place ∷ []) (inner (elems (out-Element one).nodes)) (within_self ((out-Element one).place ∷ []))) (sym (places_out one))

    declarations_in : (sequences : Bool) (which : Tag) (attributes : List Attribute) → Within (declared_in (declaration_blocks sequences which attributes gives).declarations) whole
    declarations_in sequences which attributes =
        within_is (declared_in (declaration_blocks sequences which attributes gives).declarations) (map (λ (one : Gives). one.place) (filter (has_name which) gives)) whole
        (append-nil _ ∙ places_map _ (λ one. refl) (filter (has_name which) gives))
        (within_more place (map (λ (one : Gives). one.place) (filter (has_name which) gives)) (inner elements)
        (within_through (map (λ (one : Gives). one.place) (filter (has_name which) gives)) (map (λ (one : Gives). one.place) gives) (inner elements)
        (within_map (λ (one : Gives). one.place) (filter (has_name which) gives) gives (within_filter (has_name which) gives)) (places_given elements all)))

    entry_in : (which : Tag) (attributes : List Attribute) (lists : Lists) → Within (declared_in (entry_blocks which attributes gives lists).declarations) whole
    entry_in tag.ListItem attributes lists = tt
    entry_in tag.ListHeader attributes lists = tt
    entry_in _ attributes lists = tt

  module _ (place : ℕ) (nodes : List (Node Element)) (all : Each IsTold (elems nodes)) where
    abbrev held : List (Node Gives)
    held = map (given known) nodes

    of_elems : (role : List Gives → ReadBlocks) → Within (declared_in (role (map given_of (elems nodes))).declarations) (place ∷ inner (elems nodes)) → Within (declared_in (role (elems held)).declarations) (place ∷ inner (elems nodes))
    of_elems role h =
        within_is (declared_in (role (elems held)).declarations) (declared_in (role (map given_of (elems nodes))).declarations) (place ∷ inner (elems nodes))
        (ap (λ (some : List Gives). declared_in (role some).declarations) (elems_given known nodes)) h

    element_in : (which : Tag) (attributes : List Attribute) (lists : Lists) → Within (declared_in (element_blocks known which place attributes held lists).declarations) (place ∷ inner (elems nodes))
    element_in tag.Paragraph attributes lists = tt
    element_in tag.Heading attributes lists = tt
    element_in tag.List attributes lists = of_elems (list_blocks known lists attributes) (list_in place (elems nodes) all attributes lists)
    element_in tag.Section attributes lists = of_elems (section_blocks known lists place attributes) (section_in place (elems nodes) all attributes lists)
    element_in tag.Index attributes lists = of_elems (λ gives. blocks_with one_element (joined_blocks (map (λ one. one.blocks lists) gives))) (blocks_in place (elems nodes) all lists)
    element_in tag.SectionSource attributes lists = tt
    element_in tag.VariableDeclarations attributes lists = of_elems (declaration_blocks false tag.VariableDeclaration attributes) (declarations_in place (elems nodes) all false tag.VariableDeclaration attributes)
    element_in tag.SequenceDeclarations attributes lists = of_elems (declaration_blocks true tag.SequenceDeclaration attributes) (declarations_in place (elems nodes) all true tag.SequenceDeclaration attributes)
    element_in _ attributes lists = tt

  -- one element
  of_parts : (element : Element) (read parts : ReadBlocks) → read ≡ parts → Within (declared_in parts.declarations) ((out-Element element).place ∷ inner (elems (out-Element element).nodes))
      → Within (declared_in read.declarations) (places_in element)
  of_parts element read parts e h =
      within_is (declared_in read.declarations) (declared_in parts.declarations) (places_in element) (ap (λ (one : ReadBlocks). declared_in one.declarations) e)
      (within_all (declared_in parts.declarations) ((out-Element element).place ∷ inner (elems (out-Element element).nodes)) (places_in element) h (sym (places_out element)))

  element_told : (element : Element) → Each IsTold (elems (out-Element element).nodes) → IsTold element
  element_told element all =
      let x = out-Element element in
      let made = with_nodes known element (map (given known) x.nodes) in
      let same = gives_out known element in (
        λ lists. of_parts element ((given_of element).blocks lists) (made.blocks lists) (ap (λ (one : Gives). one.blocks lists) same) (element_in x.place x.nodes all x.tag x.attributes lists),
        λ lists. of_parts element ((given_of element).entry lists) (made.entry lists) (ap (λ (one : Gives). one.entry lists) same)
            (of_elems x.place x.nodes all (λ gives. entry_blocks x.tag x.attributes gives lists) (entry_in x.place (elems x.nodes) all x.tag x.attributes lists)),
        ap (λ (one : Gives). one.place) same,
        λ lists. of_parts element ((given_of element).inside lists) (made.inside lists) (ap (λ (one : Gives). one.inside lists) same)
            (of_elems x.place x.nodes all (λ gives. joined_blocks (map (λ one. one.blocks lists) gives)) (blocks_in x.place (elems x.nodes) all lists)),
      )

  pub all_told : (element : Element) → IsTold element
  all_told = every_element IsTold element_told

-- the declarations of a text
abbrev outside : Lists
outside = record { level = 0; style = []; in_note = false }

of_text : (known : Known) (text : Option Element)
    → declared_in (option_map_or (λ (one : Element). without_sources ((gives_of known one).inside outside)) text (no_blocks nothing)).declarations ≡ option_map_or (λ (one : Element). declared_in ((gives_of known one).inside outside).declarations) text []
of_text known None = refl
of_text known (Some text) = refl

read_within : (root : Element) → Within (declared_in (read_text root).declarations) (places_in root)
read_within root =
    let known = known_of root in
    within_is (declared_in (read_text root).declarations) (option_map_or (λ (one : Element). declared_in ((gives_of known one).inside outside).declarations) (text_of root) []) (places_in root) (of_text known (text_of root))
    (text_within (λ (one : Element). declared_in ((gives_of known one).inside outside).declarations) (λ one. (all_told known one).3 outside) root)

-- those of a kind that are kept
kind_within : (test : ReadDeclarations → Bool) (parts : List ReadDeclarations) (places : List ℕ) → Within (declared_in parts) places
    → Within (map place_of (firsts (λ one other. bytes_eq one.name other.name) (flat_map (λ (part : ReadDeclarations). part.declared) (filter test parts)))) places
kind_within test parts places h =
    let stated = flat_map (λ (part : ReadDeclarations). part.declared) (filter test parts) in
    let kept = firsts (λ (one other : Declared). bytes_eq one.name other.name) stated in
    within_through (map place_of kept) (declared_in parts) places
    (within_through (map place_of kept) (map place_of stated) (declared_in parts) (within_map place_of kept stated (within_firsts (λ (one other : Declared). bytes_eq one.name other.name) stated))
    (within_is (map place_of stated) (declared_in (filter test parts)) (declared_in parts) (map_flat place_of (λ (part : ReadDeclarations). part.declared) (filter test parts))
    (within_some (λ (part : ReadDeclarations). map place_of part.declared) test parts)))
    h

kept_within : (sequences : Bool) (root : Element) → Within (map place_of (kept_declarations sequences root)) (places_in root)
kept_within true root = kind_within (λ (part : ReadDeclarations). part.sequences) (read_text root).declarations (places_in root) (read_within root)
kept_within false root = kind_within (λ (part : ReadDeclarations). not part.sequences) (read_text root).declarations (places_in root) (read_within root)

pub kept_rise : (sequences : Bool) (root : Element) → IsInOrder root → IsRising (map place_of (kept_declarations sequences root))
kept_rise sequences root h = rise_within (map place_of (kept_declarations sequences root)) (places_in root) (kept_within sequences root) h
