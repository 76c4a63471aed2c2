-- The draft of a tree.
use Rattle.std.proofs.Common.{◌≡◌, ◌≢◌, ℕ, Bool, true, false, cond, List, [], ◌∷◌, find, refl, ap, subst, Option, Some, None, inl}
use Rattle.std.specs.List.{AllByRecursion as Each}
use Rattle.std.specs.Option.{option_and_then, option_map_or}
use Rattle.doc_model.specs.declared.block.Block.{Block}
use Rattle.load_model.specs.declared.names.Tag.TheVariants as tag
use Rattle.load_model.specs.declared.element.Element.{Element as Read, out-Element}
use Rattle.load_model.specs.Blocks.{Lists, ReadBlocks, gives_of, no_blocks, or_empty, without_sources}
use Rattle.load_model.specs.Left.{children, first, is as of, nothing}
use Rattle.load_model.specs.Loaded.{body_of, draft_of, known_of, read_text, text_of}
use Rattle.load_model.specs.Met.{Where, met_in}
use Rattle.legal_trees.specs.Legal.{IsLegalTree}
use Rattle.legal_trees.proofs.Trees.{nodes_legal}
use Rattle.valid_text.specs.Texts.{AreTextsGood}
use Rattle.valid_text.proofs.Good.{Text, IsGoodBlock}
use Rattle.valid_text.proofs.Declared.{met_declared}
use Rattle.valid_text.proofs.Elements.{every_good}
use Rattle.valid_text.proofs.Names.{root_fits}
use Rattle.valid_text.proofs.Pars.{empty_good_blocks}
use Rattle.valid_text.proofs.Parts.{texts_good}
use Rattle.valid_text.proofs.Values.{empty_good}
use Rattle.valid_text.proofs.Walk.{AreDeclared, AreSettled, elems_legal}

some_same : {A : Type 0} {x y : A} → Some x ≡ Some y → x ≡ y
some_same e = cc

-- what is found is one of those that are searched
find_each : {X : Type 0} (P : X → Type 0) (test : X → Bool) (xs : List X) → Each P xs → (x : X) → find test xs ≡ Some x → P x
find_each P test [] each x e = absurd cc
find_each {X = X} P test (one ∷ xs) each x e = by_test (test one) (find_each P test xs each.1 x) e where
  by_test : (b : Bool) → (find test xs ≡ Some x → P x) → cond b (Some one) (find test xs) ≡ Some x → P x
  by_test true more e = subst P (some_same e) each.0
  by_test false more e = more e

children_legal : (element : Read) → IsLegalTree element → Each IsLegalTree (children element)
children_legal element legal = elems_legal (out-Element element).nodes (nodes_legal element legal)

-- what holds of all elements in the root and of those in them holds of the text
pub text_found : (P : Read → Type 0) → ((element : Read) → P element → Each P (children element)) → (root : Read) → Each P (children root) → (text : Read) → text_of root ≡ Some text → P text
text_found P inner root each text e = by_body (body_of root) refl e where
  by_body : (found : Option Read) → body_of root ≡ found → option_and_then (λ body. first tag.Text (children body)) found ≡ Some text → P text
  by_body None is e = absurd cc
  by_body (Some body) is e = find_each P (of tag.Text) (children body) (inner body (find_each P (of tag.Body) (children root) each body is)) text e

text_legal : (root : Read) → IsLegalTree root → (text : Read) → text_of root ≡ Some text → IsLegalTree text
text_legal root legal text e = text_found IsLegalTree children_legal root (children_legal root legal) text e

module _ (root : Read) (legal : IsLegalTree root) (strict : Bool) where
  abbrev pub text_read : Text
  text_read = record { known = known_of root; doc = draft_of root; strict = strict }

  abbrev outside : Lists
  outside = record { level = 0; style = []; in_note = false }

  abbrev here : Where
  here = record { text = 0; in_list = false; sections = [] }

  abbrev read_by : Option Read → ReadBlocks
  read_by found = option_map_or (λ text. without_sources ((gives_of (known_of root) text).inside outside)) found (no_blocks nothing)

  module _ (settled : (text : Read) → text_of root ≡ Some text → AreSettled text_read false (children text)) where
    read_good : (found : Option Read) → text_of root ≡ found → Each (IsGoodBlock text_read false) (read_by found).blocks
    read_good None e = tt
    read_good (Some text) e =
        let all : AreDeclared text_read (met_in text) = subst (AreDeclared text_read) (ap (λ (found : Option Read). option_map_or met_in found []) e) (met_declared root) in
        ((every_good text_read (root_fits root strict) text (text_legal root legal text e)).inside outside here (λ e. refl) (settled text e) (inl refl, empty_good) all).0

    pub body_good : Each (IsGoodBlock text_read false) (draft_of root).body
    body_good = empty_good_blocks text_read false (option_map_or (λ text. (out-Element text).place) (text_of root) 0) (read_text root).blocks (read_good (text_of root) refl)

    some_block : (place : ℕ) (blocks : List Block) → or_empty place blocks ≢ []
    some_block place [] e = absurd cc
    some_block place (block ∷ blocks) e = absurd cc

    pub draft_good : AreTextsGood (draft_of root)
    draft_good = texts_good text_read body_good (some_block (option_map_or (λ text. (out-Element text).place) (text_of root) 0) (read_text root).blocks)

-- without what is asked of kept names
unasked : (known : Read → Bool) (elements : List Read) → Each (λ element. false ≡ true → known element ≡ true) elements
unasked known [] = tt
unasked known (element ∷ elements) = ((λ e. absurd cc), unasked known elements)

pub drafts_good : (root : Read) → IsLegalTree root → AreTextsGood (draft_of root)
drafts_good root legal = draft_good root legal false (λ text e. unasked _ (children text))
