-- What it means that an element is read alike wherever it stands, and what follows for elements in a row.
use Rattle.std.proofs.Common.{◌≡◌, ℕ, ◌&&◌, Bool, true, false, cond, List, [], ◌∷◌, ◌++◌, map, length, refl, sym, ap, ap₂, ◌∙◌}
use Rattle.std.specs.List.{flat_map, AllByRecursion as Each, list_all}
use Rattle.std.proofs.lemmas.List.{length-map, map-append}
use Rattle.markup_nodes.specs.Node.{Node, Element, Char}
use Rattle.markup_nodes.specs.Nodes.{elems}
use Rattle.doc_model.specs.declared.block.Block.{Block}
use Rattle.load_model.specs.declared.names.Tag.{Tag}
use Rattle.load_model.specs.declared.element.Element.{Element as Read}
use Rattle.load_model.specs.Blocks.{Known, Around, Lists, Gives, ReadBlocks, ReadContent, ReadDeclarations, ReadSource, blocks_alone, content_of, gives_of, joined_blocks, joined_content, node_content, own_text, without_declarations, without_sources}
use Rattle.load_model.specs.Content.{Raw, raw_character}
use Rattle.load_model.specs.Left.{Left, all_of, attributes_of, both, is_same_tag, nothing, only_elements, tag_of}
use Rattle.load_model.specs.Met as met
use Rattle.load_model.specs.Met.{Met, Where, each, reads_sections}
use Rattle.back_fields.specs.Given.{all_kept}
use Rattle.back_kept.specs.Kept.{IsKept}
use Rattle.back_names.specs.Named.{placeless, placeless_node}
use Rattle.back_text_places.specs.Bare.{at_paragraphs, bare_blocks, bare_content, bare_declarations, bare_par, bare_raw, bare_raws}
use Rattle.back_text_places.specs.Standing.{Standing, standing}
use Rattle.back_text_places.proofs.Raws.{character_stays}
use Rattle.back_text_places.proofs.Steps.{bare_out, elems_bare, elems_given, given_nodes, gives_out}

-- what is met is met in the body's text, outside of notes
abbrev pub InText : Bool → Where → Type 0
InText within here = within ≡ false → here.text ≡ 0

-- both of two tests
pub both_pass : (one more : Bool) → (one && more) ≡ true → (one ≡ true) × (more ≡ true)
both_pass true true e = (refl, refl)
both_pass true false e = cc
both_pass false more e = cc

pub each_parts : {X : Type 0} (P : X → Type 0) (xs ys : List X) → Each P (xs ++ ys) → Each P xs × Each P ys
each_parts P [] ys each = (tt, each)
each_parts P (x ∷ xs) ys each = let rest = each_parts P xs ys each.1 in ((each.0, rest.0), rest.1)

-- what is read one after another
raws_joined : (within : Bool) (parts : List ReadContent) → flat_map (λ (part : ReadContent). part.raws) (map (bare_content within) parts) ≡ bare_raws within (flat_map (λ (part : ReadContent). part.raws) parts)
raws_joined true [] = refl
raws_joined true (part ∷ parts) = ap (λ (more : List Raw). part.raws ++ more) (raws_joined true parts)
raws_joined false [] = refl
raws_joined false (part ∷ parts) =
    ap (λ (more : List Raw). map bare_raw part.raws ++ more) (raws_joined false parts) ∙ sym (map-append bare_raw part.raws (flat_map (λ (one : ReadContent). one.raws) parts))

lefts_joined : (within : Bool) (parts : List ReadContent) → map (λ (part : ReadContent). part.left) (map (bare_content within) parts) ≡ map (λ (part : ReadContent). part.left) parts
lefts_joined within [] = refl
lefts_joined within (part ∷ parts) = ap (λ (more : List Left). part.left ∷ more) (lefts_joined within parts)

pub joined_bare : (within : Bool) (parts : List ReadContent) → joined_content (map (bare_content within) parts) ≡ bare_content within (joined_content parts)
joined_bare within parts = ap₂ (λ (raws : List Raw) (lefts : List Left). record { raws = raws; left = all_of lefts }) (raws_joined within parts) (lefts_joined within parts)

flat_changed : {X A : Type 0} (f : X → List A) (g : A → A) (change : X → X) → ((x : X) → f (change x) ≡ map g (f x)) → (xs : List X) → flat_map f (map change xs) ≡ map g (flat_map f xs)
flat_changed f g change e [] = refl
flat_changed f g change e (x ∷ xs) = ap₂ (λ one more. one ++ more) (e x) (flat_changed f g change e xs) ∙ sym (map-append g (f x) (flat_map f xs))

flat_same : {X A : Type 0} (f : X → List A) (change : X → X) → ((x : X) → f (change x) ≡ f x) → (xs : List X) → flat_map f (map change xs) ≡ flat_map f xs
flat_same f change e [] = refl
flat_same f change e (x ∷ xs) = ap₂ (λ one more. one ++ more) (e x) (flat_same f change e xs)

map_same : {X A : Type 0} (f : X → A) (change : X → X) → ((x : X) → f (change x) ≡ f x) → (xs : List X) → map f (map change xs) ≡ map f xs
map_same f change e [] = refl
map_same f change e (x ∷ xs) = ap₂ (λ one more. one ∷ more) (e x) (map_same f change e xs)

abbrev blocks_of : List Block → List ReadSource → List ReadDeclarations → Left → ReadBlocks
blocks_of blocks sources declarations left = record { blocks = blocks; sources = sources; declarations = declarations; left = left }

pub blocks_joined : (within : Bool) (parts : List ReadBlocks) → joined_blocks (map (bare_blocks within) parts) ≡ bare_blocks within (joined_blocks parts)
blocks_joined within parts =
    ap₂ (λ (blocks : List Block) (sources : List ReadSource). blocks_of blocks sources (flat_map (λ (part : ReadBlocks). part.declarations) (map (bare_blocks within) parts)) (all_of (map (λ (part : ReadBlocks). part.left) (map (bare_blocks within) parts))))
    (flat_changed (λ (part : ReadBlocks). part.blocks) (at_paragraphs (bare_par within)) (bare_blocks within) (λ part. refl) parts) (flat_same (λ (part : ReadBlocks). part.sources) (bare_blocks within) (λ part. refl) parts)
    ∙ ap₂ (λ (declarations : List ReadDeclarations) (lefts : List Left). blocks_of (map (at_paragraphs (bare_par within)) (flat_map (λ (part : ReadBlocks). part.blocks) parts)) (flat_map (λ (part : ReadBlocks). part.sources) parts) declarations (all_of lefts))
    (flat_changed (λ (part : ReadBlocks). part.declarations) bare_declarations (bare_blocks within) (λ part. refl) parts) (map_same (λ (part : ReadBlocks). part.left) (bare_blocks within) (λ part. refl) parts)

pub declarations_out : (within : Bool) (read : ReadBlocks) → without_declarations (bare_blocks within read) ≡ bare_blocks within (without_declarations read)
declarations_out within read = ap (λ (count : ℕ). blocks_of (map (at_paragraphs (bare_par within)) read.blocks) read.sources [] (both (only_elements count) read.left)) (length-map read.declarations bare_declarations)

pub alone_bare : (within : Bool) (read : ReadBlocks) → blocks_alone (bare_blocks within read) ≡ bare_blocks within (blocks_alone read)
alone_bare within read = ap without_sources (declarations_out within read)

module _ (known : Known) where
  abbrev pub bare_known : Known
  bare_known = all_kept known.names

  abbrev pub AreKept : List Met → Type 0
  AreKept met = Each (IsKept known.kept) met

  -- an element is read without places as it is with them, wherever it stands in place
  pub record IsSame (element : Read) : Type 0 where
    pub content : (around : Around) (here : Where) → InText around.in_note here → (standing element).content ≡ true → AreKept ((met.gives_of element).content here)
        → (gives_of bare_known (placeless element)).content around ≡ bare_content around.in_note ((gives_of known element).content around)
    pub blocks : (lists : Lists) (here : Where) (sections : Bool) → InText lists.in_note here → (sections ≡ true → reads_sections here ≡ true) → (standing element).blocks sections ≡ true → AreKept ((met.gives_of element).blocks here)
        → (gives_of bare_known (placeless element)).blocks lists ≡ bare_blocks lists.in_note ((gives_of known element).blocks lists)
    pub entry : (lists : Lists) (here : Where) → InText lists.in_note here → (standing element).entry ≡ true → AreKept ((met.gives_of element).entry here)
        → (gives_of bare_known (placeless element)).entry lists ≡ bare_blocks lists.in_note ((gives_of known element).entry lists)
    pub inside : (lists : Lists) (here : Where) (sections : Bool) → InText lists.in_note here → (sections ≡ true → reads_sections here ≡ true) → (standing element).inside sections ≡ true → AreKept ((met.gives_of element).inside here)
        → (gives_of bare_known (placeless element)).inside lists ≡ bare_blocks lists.in_note ((gives_of known element).inside lists)

  -- what elements give with places and without
  abbrev pub placed : Read → Gives
  placed element = gives_of known element

  abbrev pub bared : Read → Gives
  bared element = gives_of bare_known (placeless element)

  -- in a role
  module _ {X : Type 0} (role : Gives → X) (given : met.Gives → List Met) (stands : Standing → Bool) (change : X → X)
      (of_one : (element : Read) → IsSame element → stands (standing element) ≡ true → AreKept (given (met.gives_of element)) → role (bared element) ≡ change (role (placed element))) where
    pub role_same : (elements : List Read) → Each IsSame elements → list_all stands (map standing elements) ≡ true → AreKept (flat_map given (map met.gives_of elements)) → map role (map bared elements) ≡ map change (map role (map placed elements))
    role_same [] each stand kept = refl
    role_same (element ∷ elements) each stand kept =
        let here = both_pass (stands (standing element)) (list_all stands (map standing elements)) stand in
        let parts = each_parts (IsKept known.kept) (given (met.gives_of element)) (flat_map given (map met.gives_of elements)) kept in
        ap₂ (λ (one : X) (more : List X). one ∷ more) (of_one element each.0 here.0 parts.0) (role_same elements each.1 here.1 parts.1)

  -- the content that nodes give
  module _ (around : Around) (here : Where) (text : InText around.in_note here) where
    letter_same : (within : Bool) (c : ℕ) → record { raws = raw_character around.spans c ∷ []; left = nothing } ≡ bare_content within (record { raws = raw_character around.spans c ∷ []; left = nothing })
    letter_same true c = refl
    letter_same false c = ap (λ (raw : Raw). record { raws = raw ∷ []; left = nothing }) (sym (character_stays around.spans c))

    nodes_same : (nodes : List (Node Read)) → Each IsSame (elems nodes) → list_all (λ (one : Standing). one.content) (map standing (elems nodes)) ≡ true → AreKept (each (λ one. one.content) here (map met.gives_of (elems nodes)))
        → map (node_content around) (given_nodes bare_known (map placeless_node nodes)) ≡ map (bare_content around.in_note) (map (node_content around) (given_nodes known nodes))
    nodes_same [] same stand kept = refl
    nodes_same (Char c ∷ nodes) same stand kept = ap₂ (λ (one : ReadContent) (more : List ReadContent). one ∷ more) (letter_same around.in_note c) (nodes_same nodes same stand kept)
    nodes_same (Element element ∷ nodes) same stand kept =
        let stands = both_pass (standing element).content (list_all (λ (one : Standing). one.content) (map standing (elems nodes))) stand in
        let parts = each_parts (IsKept known.kept) ((met.gives_of element).content here) (each (λ one. one.content) here (map met.gives_of (elems nodes))) kept in
        ap₂ (λ (one : ReadContent) (more : List ReadContent). one ∷ more) (same.0.content around here text stands.0 parts.0) (nodes_same nodes same.1 stands.1 parts.1)

    pub content_same : (nodes : List (Node Read)) → Each IsSame (elems nodes) → list_all (λ (one : Standing). one.content) (map standing (elems nodes)) ≡ true → AreKept (each (λ one. one.content) here (map met.gives_of (elems nodes)))
        → content_of around (given_nodes bare_known (map placeless_node nodes)) ≡ bare_content around.in_note (content_of around (given_nodes known nodes))
    content_same nodes same stand kept = ap joined_content (nodes_same nodes same stand kept) ∙ joined_bare around.in_note (map (node_content around) (given_nodes known nodes))

  -- the elements among nodes
  pub elems_placed : (nodes : List (Node Read)) → elems (given_nodes known nodes) ≡ map placed (elems nodes)
  elems_placed nodes = elems_given known nodes

  mapped : (elements : List Read) → map (gives_of bare_known) (map placeless elements) ≡ map bared elements
  mapped [] = refl
  mapped (element ∷ elements) = ap (λ (more : List Gives). bared element ∷ more) (mapped elements)

  pub elems_bared : (nodes : List (Node Read)) → elems (given_nodes bare_known (map placeless_node nodes)) ≡ map bared (elems nodes)
  elems_bared nodes = elems_given bare_known (map placeless_node nodes) ∙ ap (map (gives_of bare_known)) (elems_bare nodes) ∙ mapped (elems nodes)

  pub count_same : (nodes : List (Node Read)) → length (elems (given_nodes bare_known (map placeless_node nodes))) ≡ length (elems (given_nodes known nodes))
  count_same nodes = ap length (elems_bared nodes) ∙ length-map (elems nodes) bared ∙ sym (ap length (elems_placed nodes) ∙ length-map (elems nodes) placed)

  pub own_same : (nodes : List (Node Read)) → own_text (given_nodes bare_known (map placeless_node nodes)) ≡ own_text (given_nodes known nodes)
  own_same [] = refl
  own_same (Element element ∷ nodes) = own_same nodes
  own_same (Char c ∷ nodes) = ap (λ (more : List ℕ). c ∷ more) (own_same nodes)

  pub tag_placed : (element : Read) → (placed element).tag ≡ tag_of element
  tag_placed element = ap (λ (one : Gives). one.tag) (gives_out known element)

  pub tag_bared : (element : Read) → (bared element).tag ≡ tag_of element
  tag_bared element = ap (λ (one : Gives). one.tag) (bare_out bare_known element)

  pub attributes_placed : (element : Read) → (placed element).attributes ≡ attributes_of element
  attributes_placed element = ap (λ (one : Gives). one.attributes) (gives_out known element)

  pub attributes_bared : (element : Read) → (bared element).attributes ≡ attributes_of element
  attributes_bared element = ap (λ (one : Gives). one.attributes) (bare_out bare_known element)

-- the first element of a tag
abbrev pub first_element : Tag → List Read → List Read
first_element wanted [] = []
first_element wanted (element ∷ elements) = cond (is_same_tag (tag_of element) wanted) (element ∷ []) (first_element wanted elements)

pub first_each : (P : Read → Type 0) (wanted : Tag) (elements : List Read) → Each P elements → Each P (first_element wanted elements)
first_each P wanted [] each = tt
first_each P wanted (element ∷ elements) each = by_test (is_same_tag (tag_of element) wanted) (first_each P wanted elements each.1) where
  by_test : (b : Bool) → Each P (first_element wanted elements) → Each P (cond b (element ∷ []) (first_element wanted elements))
  by_test true rest = (each.0, tt)
  by_test false rest = rest
