-- What it means that an element gives what is good wherever it stands, and what follows for elements in a row.
use Rattle.std.proofs.Common.{◌≡◌, ℕ, Bool, true, false, List, [], ◌∷◌, map, sym, subst, ◌∙◌}
use Rattle.std.specs.List.{flat_map, AllByRecursion as Each, Any, list_all}
use Rattle.std.proofs.lemmas.Bool.{and_parts}
use Rattle.markup_nodes.specs.Node.{Node, Element, Char}
use Rattle.markup_nodes.specs.Nodes.{elems}
use Rattle.doc_model.specs.declared.document.Document.{Document}
use Rattle.doc_model.specs.Valid.{IsNoneOrGiven}
use Rattle.load_model.specs.declared.element.Element.{Element as Read, out-Element}
use Rattle.load_model.specs.Blocks.{Around, Lists, Gives, ReadBlocks, content_of, gives_of, joined_blocks, own_text}
use Rattle.load_model.specs.Left.{attributes_of, tag_of}
use Rattle.load_model.specs.Met as met
use Rattle.load_model.specs.Met.{Met, Where, each}
use Rattle.doc_model.specs.Chars.{IsLegal}
use Rattle.legal_trees.specs.Legal.{IsLegalTree, IsLegalNode}
use Rattle.valid_text.specs.Texts.{IsGoodName}
use Rattle.valid_text.proofs.Good.{Text, AreSpans, IsGoodBlock, IsGoodRaw, IsGoodSource, AreGoodBlocks}
use Rattle.valid_text.proofs.Lists.{each_append, each_both}
use Rattle.valid_text.proofs.Raws.{character_good}
use Rattle.valid_text.proofs.Settled.{own_settled, settled, settled_out, stays_within, within_note}
use Rattle.valid_text.proofs.Steps.{given_nodes}

-- what is met is declared, where it is a sequence or a variable
abbrev pub IsDeclared : Document → Met → Type 0
IsDeclared doc (met.Sequence field) = Any (λ other. other ≡ field.name) doc.sequences
IsDeclared doc (met.Variable field) = Any (λ other. other ≡ field.name) doc.variables
IsDeclared doc _ = Unit {0}

abbrev pub AreDeclared : Text → List Met → Type 0
AreDeclared text all = Each (IsDeclared text.doc) all

-- what is met is met in the body's text, outside of notes
abbrev pub InText : Bool → Where → Type 0
InText within here = within ≡ false → here.text ≡ 0

-- the list style round blocks
abbrev pub IsListName : Text → List ℕ → Type 0
IsListName text name = IsNoneOrGiven (map (λ list. list.name) text.doc.lists) name × IsGoodName name

-- an element with what is asked of it
abbrev pub IsSettled : Text → Bool → Read → Type 0
IsSettled text within element = text.strict ≡ true → settled text.known.kept element within ≡ true

-- an element gives what is good
pub record IsGood (text : Text) (element : Read) : Type 0 where
  pub content : (around : Around) (here : Where) → InText around.in_note here → IsSettled text around.in_note element → AreSpans text around.spans → AreDeclared text ((met.gives_of element).content here)
      → Each (IsGoodRaw text around.in_note) ((gives_of text.known element).content around).raws
  pub blocks : (lists : Lists) (here : Where) → InText lists.in_note here → IsSettled text lists.in_note element → IsListName text lists.style → AreDeclared text ((met.gives_of element).blocks here)
      → AreGoodBlocks text lists.in_note ((gives_of text.known element).blocks lists)
  pub entry : (lists : Lists) (here : Where) → InText lists.in_note here → IsSettled text lists.in_note element → IsListName text lists.style → AreDeclared text ((met.gives_of element).entry here)
      → AreGoodBlocks text lists.in_note ((gives_of text.known element).entry lists)
  pub inside : (lists : Lists) (here : Where) → InText lists.in_note here → Each (IsSettled text lists.in_note) (elems (out-Element element).nodes) → IsListName text lists.style → AreDeclared text ((met.gives_of element).inside here)
      → AreGoodBlocks text lists.in_note ((gives_of text.known element).inside lists)

module _ (text : Text) where
  -- elements of which each is settled
  abbrev pub AreSettled : Bool → List Read → Type 0
  AreSettled within elements = Each (IsSettled text within) elements

  -- blocks one after another
  pub joined_good : (within : Bool) (parts : List ReadBlocks) → Each (AreGoodBlocks text within) parts → AreGoodBlocks text within (joined_blocks parts)
  joined_good within [] each = (tt, tt)
  joined_good within (part ∷ parts) each =
      let more = joined_good within parts each.1 in
      (each_append (IsGoodBlock text within) part.blocks (flat_map (λ (one : ReadBlocks). one.blocks) parts) each.0.0 more.0, each_append IsGoodSource part.sources (flat_map (λ (one : ReadBlocks). one.sources) parts) each.0.1 more.1)

  -- in a role
  module _ (role : Gives → ReadBlocks) (given : met.Gives → List Met) (within : Bool)
      (of_one : (element : Read) → IsGood text element → IsSettled text within element → AreDeclared text (given (met.gives_of element)) → AreGoodBlocks text within (role (gives_of text.known element))) where
    pub role_good : (elements : List Read) → Each (IsGood text) elements → AreSettled within elements → AreDeclared text (flat_map given (map met.gives_of elements)) → Each (AreGoodBlocks text within) (map role (map (gives_of text.known) elements))
    role_good [] good settled declared = tt
    role_good (element ∷ elements) good settled declared =
        let parts = each_both (IsDeclared text.doc) (given (met.gives_of element)) (flat_map given (map met.gives_of elements)) declared in
        (of_one element good.0 settled.0 parts.0, role_good elements good.1 settled.1 parts.1)

  -- the content that nodes give
  module _ (around : Around) (here : Where) (outside : InText around.in_note here) (spans : AreSpans text around.spans) where
    pub content_good : (nodes : List (Node Read)) → Each IsLegalNode nodes → Each (IsGood text) (elems nodes) → AreSettled around.in_note (elems nodes) → AreDeclared text (each (λ one. one.content) here (map met.gives_of (elems nodes)))
        → Each (IsGoodRaw text around.in_note) (content_of around (given_nodes text.known nodes)).raws
    content_good [] legal good settled declared = tt
    content_good (Char c ∷ nodes) legal good settled declared = (character_good text around.in_note around.spans c spans legal.0, content_good nodes legal.1 good settled declared)
    content_good (Element element ∷ nodes) legal good settled declared =
        let parts = each_both (IsDeclared text.doc) ((met.gives_of element).content here) (each (λ one. one.content) here (map met.gives_of (elems nodes))) declared in
        each_append (IsGoodRaw text around.in_note) ((gives_of text.known element).content around).raws (content_of around (given_nodes text.known nodes)).raws
        (good.0.content around here outside settled.0 spans parts.0) (content_good nodes legal.1 good.1 settled.1 parts.1)

  -- the characters that stand directly in an element
  pub own_legal : (nodes : List (Node Read)) → Each IsLegalNode nodes → Each IsLegal (own_text (given_nodes text.known nodes))
  own_legal [] legal = tt
  own_legal (Element element ∷ nodes) legal = own_legal nodes legal.1
  own_legal (Char c ∷ nodes) legal = (legal.0, own_legal nodes legal.1)

  -- elements that are settled
  pub each_settled : (within : Bool) (elements : List Read) → (text.strict ≡ true → list_all (λ (one : Bool → Bool). one within) (map (settled text.known.kept) elements) ≡ true) → AreSettled within elements
  each_settled within [] all = tt
  each_settled within (element ∷ elements) all = (
    (λ strict. (and_parts (settled text.known.kept element within) (list_all (λ (one : Bool → Bool). one within) (map (settled text.known.kept) elements)) (all strict)).0),
    each_settled within elements (λ strict. (and_parts (settled text.known.kept element within) (list_all (λ (one : Bool → Bool). one within) (map (settled text.known.kept) elements)) (all strict)).1),
  )

  -- what a settled element holds is settled
  pub inner_settled : (within : Bool) (element : Read) → IsSettled text within element → AreSettled (within_note within (tag_of element)) (elems (out-Element element).nodes)
  inner_settled within element is =
      each_settled (within_note within (tag_of element)) (elems (out-Element element).nodes)
      (λ strict. (and_parts (own_settled text.known.kept within (tag_of element) (out-Element element).place (attributes_of element))
      (list_all (λ (one : Bool → Bool). one (within_note within (tag_of element))) (map (settled text.known.kept) (elems (out-Element element).nodes))) (sym (settled_out text.known.kept element within) ∙ is strict)).1)

  pub own_is_settled : (within : Bool) (element : Read) → IsSettled text within element → text.strict ≡ true → own_settled text.known.kept within (tag_of element) (out-Element element).place (attributes_of element) ≡ true
  own_is_settled within element is strict =
      (and_parts (own_settled text.known.kept within (tag_of element) (out-Element element).place (attributes_of element))
      (list_all (λ (one : Bool → Bool). one (within_note within (tag_of element))) (map (settled text.known.kept) (elems (out-Element element).nodes))) (sym (settled_out text.known.kept element within) ∙ is strict)).0

  -- within a note all is
  pub note_settled : (element : Read) → IsSettled text true element → AreSettled true (elems (out-Element element).nodes)
  note_settled element is = subst (λ (b : Bool). AreSettled b (elems (out-Element element).nodes)) (stays_within (tag_of element)) (inner_settled true element is)

-- the elements among nodes are legal
pub elems_legal : (nodes : List (Node Read)) → Each IsLegalNode nodes → Each IsLegalTree (elems nodes)
elems_legal [] legal = tt
elems_legal (Element element ∷ nodes) legal = (legal.0, elems_legal nodes legal.1)
elems_legal (Char c ∷ nodes) legal = elems_legal nodes legal.1
