-- Notes are read alike wherever they stand.
use Rattle.std.proofs.Common.{◌≡◌, ℕ, ◌+◌, ◌-◌, Bool, true, false, cond, List, [], ◌∷◌, ◌++◌, map, filter, length, refl, sym, ap, ap₂, subst, ◌∙◌, eq-eqb, Option, Some, None, is_some}
use Rattle.std.specs.List.{AllByRecursion as Each, list_all}
use Rattle.std.proofs.lemmas.List.{length-map, map-append}
use Rattle.doc_model.specs.declared.field.NoteClass.{NoteClass}
use Rattle.doc_model.specs.declared.field.NoteClass.TheVariants as class
use Rattle.doc_model.specs.declared.paragraph.Note.{Note, roll-Note}
use Rattle.doc_model.specs.declared.paragraph.Par.{Par}
use Rattle.doc_model.specs.declared.paragraph.What.TheOpen.{What-F}
use Rattle.doc_model.specs.declared.paragraph.What.TheViews.{out-roll-Note, out-roll-What}
use Rattle.load_model.specs.declared.names.Key.TheVariants as key
use Rattle.load_model.specs.declared.names.Tag.{Tag}
use Rattle.load_model.specs.declared.names.Tag.TheVariants as tag
use Rattle.load_model.specs.declared.element.Attribute.{Attribute}
use Rattle.load_model.specs.declared.element.Element.{Element as Read}
use Rattle.load_model.specs.Blocks.{Known, Gives, ReadBlocks, ReadContent, blocks_alone, first_given, joined_blocks, left_by, lists_of_note, note_blocks, note_content, note_left, note_rules, of_tag, or_empty, paragraphs_of}
use Rattle.load_model.specs.Content.{Raw, item_in, Read as Item-Read}
use Rattle.load_model.specs.Fields.{own_name}
use Rattle.load_model.specs.Left.{Left, all_of, attributes_of, both, is_same_tag, only_elements, tag_of}
use Rattle.load_model.specs.Met as met
use Rattle.load_model.specs.Met.{Met, Where, each, in_note, is_at, named_at, note_met}
use Rattle.load_model.specs.Values as value
use Rattle.load_model.specs.Values.{stated, stated_or}
use Rattle.met_read.proofs.WalkLemmas.{tag_out}
use Rattle.back_kept.specs.Kept.{IsKept}
use Rattle.back_sheet_places.proofs.Lists.{filtered, mapped}
use Rattle.back_text_places.specs.Bare.{bare_blocks, bare_content, bare_par, unnumbered_par}
use Rattle.back_text_places.specs.Standing.{Standing, content_stands, first_standing, has_name, has_name_or_none, standing}
use Rattle.back_text_places.proofs.Own.{name_alike, note_alike}
use Rattle.back_text_places.proofs.Pars.{empty_bare, pars_bare}
use Rattle.back_text_places.proofs.Raws.{bare}
use Rattle.back_text_places.proofs.Same.{AreKept, InText, IsSame, alone_bare, attributes_bared, attributes_placed, bare_known, bared, blocks_joined, both_pass, each_parts, first_each, first_element, placed, role_same, tag_bared, tag_placed}
use Rattle.back_text_places.proofs.Steps.{standing_out}

-- the first of a tag, by elements
module _ (X : Read → Gives) (tags : (element : Read) → (X element).tag ≡ tag_of element) where
  firsts_given : (wanted : Tag) (elements : List Read) → first_given wanted (map X elements) ≡ map X (first_element wanted elements)
  firsts_given wanted [] = refl
  firsts_given wanted (element ∷ elements) =
      ap₂ (λ (one : Tag) (more : List Gives). cond (is_same_tag one wanted) (X element ∷ []) more) (tags element) (firsts_given wanted elements) ∙ by_test (is_same_tag (tag_of element) wanted) where
        by_test : (b : Bool) → cond b (X element ∷ []) (map X (first_element wanted elements)) ≡ map X (cond b (element ∷ []) (first_element wanted elements))
        by_test true = refl
        by_test false = refl

  citations_given : (wanted : Tag) (elements : List Read) → of_tag wanted (map X elements) ≡ map X (filter (λ element. is_same_tag (tag_of element) wanted) elements)
  citations_given wanted elements = filtered X (λ one. is_same_tag one.tag wanted) (λ element. is_same_tag (tag_of element) wanted) (λ element. ap (λ (one : Tag). is_same_tag one wanted) (tags element)) elements

firsts_met : (wanted : Tag) (elements : List Read) → met.first_given wanted (map met.gives_of elements) ≡ map met.gives_of (first_element wanted elements)
firsts_met wanted [] = refl
firsts_met wanted (element ∷ elements) =
    ap₂ (λ (one : Tag) (more : List met.Gives). cond (is_same_tag one wanted) (met.gives_of element ∷ []) more) (tag_out element) (firsts_met wanted elements) ∙ by_test (is_same_tag (tag_of element) wanted) where
      by_test : (b : Bool) → cond b (met.gives_of element ∷ []) (map met.gives_of (first_element wanted elements)) ≡ map met.gives_of (cond b (element ∷ []) (first_element wanted elements))
      by_test true = refl
      by_test false = refl

firsts_standing : (wanted : Tag) (elements : List Read) → first_standing wanted (map standing elements) ≡ map standing (first_element wanted elements)
firsts_standing wanted [] = refl
firsts_standing wanted (element ∷ elements) =
    ap₂ (λ (one : Tag) (more : List Standing). cond (is_same_tag one wanted) (standing element ∷ []) more) (ap (λ (one : Standing). one.tag) (standing_out element)) (firsts_standing wanted elements)
    ∙ by_test (is_same_tag (tag_of element) wanted) where
      by_test : (b : Bool) → cond b (standing element ∷ []) (map standing (first_element wanted elements)) ≡ map standing (cond b (element ∷ []) (first_element wanted elements))
      by_test true = refl
      by_test false = refl

-- what is left out round the blocks of a note
abbrev left_in : List Read → Left
left_in elements =
    let bodies = first_element tag.NoteBody elements in
    let citations = filter (λ element. is_same_tag (tag_of element) tag.NoteCitation) elements in
    both (only_elements (length elements - (length bodies + length citations))) (all_of (map (λ element. left_by [] (attributes_of element)) (bodies ++ citations)))

module _ (X : Read → Gives) (tags : (element : Read) → (X element).tag ≡ tag_of element) (are : (element : Read) → (X element).attributes ≡ attributes_of element) where
  left_is : (elements : List Read) → note_left (map X elements) ≡ left_in elements
  left_is elements =
      let bodies = first_element tag.NoteBody elements in
      let citations = filter (λ element. is_same_tag (tag_of element) tag.NoteCitation) elements in
      ap₂ (λ (one other : List Gives). both (only_elements (length (map X elements) - (length one + length other))) (all_of (map (λ (gives : Gives). left_by [] gives.attributes) (one ++ other))))
      (firsts_given X tags tag.NoteBody elements) (citations_given X tags tag.NoteCitation elements)
      ∙ ap₂ (λ (all : ℕ) (read : ℕ). both (only_elements (all - read)) (all_of (map (λ (gives : Gives). left_by [] gives.attributes) (map X bodies ++ map X citations))))
      (length-map elements X) (ap₂ (λ (one other : ℕ). one + other) (length-map bodies X) (length-map citations X))
      ∙ ap (λ (lefts : List Left). both (only_elements (length elements - (length bodies + length citations))) (all_of lefts))
      (ap (map (λ (gives : Gives). left_by [] gives.attributes)) (sym (map-append X bodies citations))
      ∙ mapped X (λ (gives : Gives). left_by [] gives.attributes) (λ element. left_by [] (attributes_of element)) (λ element. ap (left_by []) (are element)) (bodies ++ citations))

-- a note by its parts
abbrev note_of : List ℕ → NoteClass → List Par → Note
note_of id class pars = roll-Note (record { id = id; class = class; pars = pars })

note_bare : (spans : List (List ℕ)) (id : List ℕ) (class : NoteClass) (pars : List Par) → bare (item_in spans (What-F.Note (note_of id class pars))) ≡ item_in spans (What-F.Note (note_of id class (map unnumbered_par pars)))
note_bare spans id class pars = simp (out-roll-What, out-roll-Note)

abbrev content_with_note : List (List ℕ) → NoteClass → List ℕ → List Par → Left → Left → Left → ReadContent
content_with_note spans class id pars own round inner = record { raws = Item-Read (item_in spans (What-F.Note (note_of id class pars))) ∷ []; left = all_of (own ∷ round ∷ inner ∷ []) }

module _ (known : Known) (place : ℕ) (attributes : List Attribute) (elements : List Read) (same : Each (IsSame known) elements) where
  abbrev bodies : List Read
  bodies = first_element tag.NoteBody elements

  abbrev here : Where
  here = in_note place

  abbrev body_of : Gives → ReadBlocks
  body_of body = blocks_alone (body.inside lists_of_note)

  one_body : (element : Read) → IsSame known element → (standing element).inside false ≡ true → AreKept known ((met.gives_of element).inside here) → body_of (bared known element) ≡ bare_blocks true (body_of (placed known element))
  one_body element is stands kept = ap blocks_alone (is.inside lists_of_note here false (λ e. cc) (λ e. cc) stands kept) ∙ alone_bare true ((placed known element).inside lists_of_note)

  blocks_same : list_all (λ (one : Standing). one.inside false) (first_standing tag.NoteBody (map standing elements)) ≡ true → AreKept known (each (λ one. one.inside) here (met.first_given tag.NoteBody (map met.gives_of elements)))
      → note_blocks (map (bared known) elements) ≡ bare_blocks true (note_blocks (map (placed known) elements))
  blocks_same stands kept =
      ap (λ (gives : List Gives). joined_blocks (map body_of gives)) (firsts_given (bared known) (tag_bared known) tag.NoteBody elements)
      ∙ ap joined_blocks (role_same known body_of (λ one. one.inside here) (λ one. one.inside false) (bare_blocks true) one_body bodies (first_each (IsSame known) tag.NoteBody elements same)
      (ap (list_all (λ (one : Standing). one.inside false)) (sym (firsts_standing tag.NoteBody elements)) ∙ stands)
      (subst (λ (gives : List met.Gives). AreKept known (each (λ one. one.inside) here gives)) (firsts_met tag.NoteBody elements) kept))
      ∙ blocks_joined true (map body_of (map (placed known) bodies))
      ∙ ap (λ (gives : List Gives). bare_blocks true (joined_blocks (map body_of gives))) (sym (firsts_given (placed known) (tag_placed known) tag.NoteBody elements))

  round_same : note_left (map (bared known) elements) ≡ note_left (map (placed known) elements)
  round_same = left_is (bared known) (tag_bared known) (attributes_bared known) elements ∙ sym (left_is (placed known) (tag_placed known) (attributes_placed known) elements)

  pars_same : (read : ReadBlocks) → paragraphs_of (or_empty 0 (bare_blocks true read).blocks) ≡ map unnumbered_par (paragraphs_of (or_empty place read.blocks))
  pars_same read = ap paragraphs_of (empty_bare true place read.blocks) ∙ pars_bare (bare_par true) (or_empty place read.blocks)

  -- whose name is the first
  first_kept : (id : Option (List ℕ)) → is_some id ≡ true → AreKept known (map met.Note (named_at place id)) → is_at known.kept.notes place ≡ true
  first_kept None some kept = cc
  first_kept (Some id) some kept = kept.0

  abbrev class_stated : NoteClass
  class_stated = stated_or key.NoteClass value.note_class class.Footnote attributes

  read_same : (spans : List (List ℕ)) → content_stands tag.Note attributes (map standing elements) ≡ true
      → AreKept known (map met.Note (named_at place (stated key.Id value.name attributes)) ++ each (λ one. one.inside) here (met.first_given tag.NoteBody (map met.gives_of elements)))
      → note_content (bare_known known) (record { spans = spans; in_note = false }) 0 attributes (map (bared known) elements)
      ≡ bare_content false (note_content known (record { spans = spans; in_note = false }) place attributes (map (placed known) elements))
  read_same spans stands kept =
      let stand = both_pass (has_name_or_none key.Id attributes) (list_all (λ (one : Standing). one.inside false) (first_standing tag.NoteBody (map standing elements))) stands in
      let parts = each_parts (IsKept known.kept) (map met.Note (named_at place (stated key.Id value.name attributes))) (each (λ one. one.inside) here (met.first_given tag.NoteBody (map met.gives_of elements))) kept in
      let is_first = is_at known.kept.notes place in
      let first : has_name key.Id attributes ≡ true → is_first ≡ true = λ some. first_kept (stated key.Id value.name attributes) some parts.0 in
      let read = note_blocks (map (placed known) elements) in
      let id = stated_or key.Id (own_name is_first) [] attributes in
      ap (λ (blocks : ReadBlocks). content_with_note spans class_stated (stated_or key.Id (own_name true) [] attributes) (paragraphs_of (or_empty 0 blocks.blocks)) (left_by (note_rules true) attributes) (note_left (map (bared known) elements)) blocks.left)
      (blocks_same stand.1 parts.1)
      ∙ ap₂ (λ (pars : List Par) (round : Left). content_with_note spans class_stated (stated_or key.Id (own_name true) [] attributes) pars (left_by (note_rules true) attributes) round read.left) (pars_same read) round_same
      ∙ ap₂ (λ (name : List ℕ) (own : Left). content_with_note spans class_stated name (map unnumbered_par (paragraphs_of (or_empty place read.blocks))) own (note_left (map (placed known) elements)) read.left)
      (sym (name_alike key.Id attributes is_first stand.0 first)) (sym (note_alike attributes is_first stand.0 first))
      ∙ ap (λ (raws : List Raw). record { raws = raws; left = all_of (left_by (note_rules is_first) attributes ∷ note_left (map (placed known) elements) ∷ read.left ∷ []) })
      (ap (λ item. Item-Read item ∷ []) (sym (note_bare spans id class_stated (paragraphs_of (or_empty place read.blocks)))))

  pub note_same : (within : Bool) (spans : List (List ℕ)) (at : Where) → InText within at → content_stands tag.Note attributes (map standing elements) ≡ true
      → AreKept known (note_met place (stated key.Id value.name attributes) (map met.gives_of elements) at)
      → note_content (bare_known known) (record { spans = spans; in_note = within }) 0 attributes (map (bared known) elements)
      ≡ bare_content within (note_content known (record { spans = spans; in_note = within }) place attributes (map (placed known) elements))
  note_same true spans at text stands kept = refl
  note_same false spans at text stands kept =
      read_same spans stands (subst (AreKept known) (ap (λ (b : Bool). cond b
      (map met.Note (named_at place (stated key.Id value.name attributes)) ++ each (λ one. one.inside) here (met.first_given tag.NoteBody (map met.gives_of elements))) []) (eq-eqb at.text 0 (text refl))) kept)
