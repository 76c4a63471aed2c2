-- Paragraphs and blocks that are good.
use Rattle.std.proofs.Common.{◌≡◌, ◌≢◌, ℕ, ◌≤◌, Bool, true, false, cond, List, [], ◌∷◌, ◌++◌, map, refl, sym, ap, subst, ◌∙◌, inl, Option, Some, None, option_map, arith, append-nil}
use Rattle.std.specs.List.{AllByRecursion as Each}
use Rattle.doc_model.specs.declared.block.Block.{Block, out-Block, roll-Block}
use Rattle.doc_model.specs.declared.block.Block.TheOpen.{Block-F}
use Rattle.doc_model.specs.declared.block.Block.TheFolds.{fold-roll-Block}
use Rattle.doc_model.specs.declared.block.Block.TheViews.{out-roll-Block, roll-out-Block}
use Rattle.doc_model.specs.declared.block.Section.{Section}
use Rattle.doc_model.specs.declared.paragraph.ListPos.{ListPos}
use Rattle.doc_model.specs.declared.paragraph.Note.{Note}
use Rattle.doc_model.specs.declared.paragraph.Par.{Par, out-Par, roll-Par}
use Rattle.doc_model.specs.declared.paragraph.What.TheViews.{out-roll-Par}
use Rattle.doc_model.specs.Parts.{block_sections}
use Rattle.doc_model.specs.Valid.{IsNoneOrGiven}
use Rattle.doc_model.specs.Reading.{block_paragraphs}
use Rattle.block_facts.proofs.Blocks.{par_reads}
use Rattle.load_model.specs.Blocks.{as_block, empty_paragraph, first_changed, or_empty, paragraphs_of, with_place}
use Rattle.valid_text.specs.Texts.{IsGoodName, IsPlace}
use Rattle.valid_text.proofs.Good.{Text, IsGoodBlock, IsGoodPar, IsGoodSection, Layer, LayerIsGood, NoteOf, place_names}
use Rattle.valid_text.proofs.Lists.{each_append}
use Rattle.valid_text.proofs.Values.{empty_good}

-- what a block of one paragraph holds
sections_none : (par : Par) → block_sections (as_block par) ≡ []
sections_none par = simp fold-roll-Block

front_par : (par : Par) → paragraphs_of (as_block par ∷ []) ≡ par ∷ []
front_par par = simp out-roll-Block

module _ (text : Text) where
  -- a paragraph by its layer
  pub rolled : (N : Note → Type 0) (x : Layer) → LayerIsGood text N x → IsGoodPar text N (roll-Par x)
  rolled N x is = subst (LayerIsGood text N) (sym (out-roll-Par x)) is

  module _ (within : Bool) where
    abbrev N : Note → Type 0
    N = NoteOf text within

    -- a block of one paragraph
    pub block_good : (par : Par) → IsGoodPar text N par → IsGoodBlock text within (as_block par)
    block_good par is =
        (subst (Each (IsGoodPar text N)) (sym (par_reads par)) (is, tt), subst (Each (IsGoodSection text)) (sym (sections_none par)) tt, λ strict inside none. something (sym (front_par par) ∙ none)) where
          something : par ∷ [] ≡ [] → ⊥
          something e = cc

    pub empty_par : (place : ℕ) → IsGoodPar text N (empty_paragraph place)
    empty_par place = rolled N _ ((inl refl, omega arith, tt), (empty_good, tt), tt)

    pub empty_good_blocks : (place : ℕ) (blocks : List Block) → Each (IsGoodBlock text within) blocks → Each (IsGoodBlock text within) (or_empty place blocks)
    empty_good_blocks place [] each = (block_good (empty_paragraph place) (empty_par place), tt)
    empty_good_blocks place (block ∷ blocks) each = each

    -- the paragraphs among blocks
    kind_pars : (x : Block-F Block Section) → Each (IsGoodPar text N) (block_paragraphs (roll-Block x)) → Each (IsGoodPar text N) (paragraphs_of (roll-Block x ∷ []))
    kind_pars (Block-F.Par par) each = subst (Each (IsGoodPar text N)) (sym (front_par par)) (subst (Each (IsGoodPar text N)) (par_reads par) each)
    kind_pars (Block-F.Section section) each = subst (Each (IsGoodPar text N)) (sym none) tt where
      none : paragraphs_of (roll-Block (Block-F.Section section) ∷ []) ≡ []
      none = simp out-roll-Block

    front_pars : (block : Block) → Each (IsGoodPar text N) (block_paragraphs block) → Each (IsGoodPar text N) (paragraphs_of (block ∷ []))
    front_pars block = subst (λ (one : Block). Each (IsGoodPar text N) (block_paragraphs one) → Each (IsGoodPar text N) (paragraphs_of (one ∷ []))) (roll-out-Block block) (kind_pars (out-Block block))

    parted : (block : Block) (blocks : List Block) → paragraphs_of (block ∷ blocks) ≡ paragraphs_of (block ∷ []) ++ paragraphs_of blocks
    parted block blocks = ap (λ (front : List Par). front ++ paragraphs_of blocks) (sym (append-nil _))

    pub paragraphs_good : (blocks : List Block) → Each (IsGoodBlock text within) blocks → Each (IsGoodPar text N) (paragraphs_of blocks)
    paragraphs_good [] each = tt
    paragraphs_good (block ∷ blocks) each =
        subst (Each (IsGoodPar text N)) (sym (parted block blocks)) (each_append (IsGoodPar text N) (paragraphs_of (block ∷ [])) (paragraphs_of blocks) (front_pars block each.0.0) (paragraphs_good blocks each.1))

    -- a change of list places that keeps the list and the level
    module _ (change : ListPos → ListPos) (keeps : (place : ListPos) → ((change place).style ≡ place.style) × ((change place).level ≡ place.level)) where
      place_kept : (list : Option ListPos) → IsPlace text.doc list → IsPlace text.doc (option_map change list)
      place_kept None is = tt
      place_kept (Some place) is = (subst (IsNoneOrGiven (map (λ list. list.name) text.doc.lists)) (sym (keeps place).0) is.0, subst (λ (n : ℕ). 1 ≤ n) (sym (keeps place).1) is.1)

      names_kept : (style : List ℕ) (list : Option ListPos) → Each IsGoodName (style ∷ place_names list) → Each IsGoodName (style ∷ place_names (option_map change list))
      names_kept style None is = is
      names_kept style (Some place) is = (is.0, (subst IsGoodName (sym (keeps place).0) is.1.0, tt))

      changed_par : (par : Par) → IsGoodPar text N par → IsGoodPar text N (with_place change par)
      changed_par par is = rolled N (record (out-Par par) { list = option_map change (out-Par par).list })
          ((is.0.0, is.0.1, place_kept (out-Par par).list is.0.2), names_kept (out-Par par).style (out-Par par).list is.1, is.2)

      changed_pars : (pars : List Par) → Each (IsGoodPar text N) pars → Each (IsGoodBlock text within) (map (λ par. as_block (with_place change par)) pars)
      changed_pars [] each = tt
      changed_pars (par ∷ pars) each = (block_good (with_place change par) (changed_par par each.0), changed_pars pars each.1)

      pub changed_good : (test : Block → Bool) (blocks : List Block) → Each (IsGoodBlock text within) blocks → Each (IsGoodBlock text within) (first_changed test change blocks)
      changed_good test [] each = tt
      changed_good test (block ∷ blocks) each = by_test (test block) (changed_good test blocks each.1) where
        by_test : (b : Bool) → Each (IsGoodBlock text within) (first_changed test change blocks)
            → Each (IsGoodBlock text within) (cond b (map (λ par. as_block (with_place change par)) (paragraphs_of (block ∷ [])) ++ blocks) (block ∷ first_changed test change blocks))
        by_test true rest = each_append (IsGoodBlock text within) (map (λ par. as_block (with_place change par)) (paragraphs_of (block ∷ []))) blocks (changed_pars (paragraphs_of (block ∷ [])) (front_pars block each.0.0)) each.1
        by_test false rest = (each.0, rest)

  -- a note has a paragraph
  pub paragraphs_there : (place : ℕ) (blocks : List Block) → Each (IsGoodBlock text true) (or_empty place blocks) → text.strict ≡ true → paragraphs_of (or_empty place blocks) ≢ []
  paragraphs_there place [] each strict = each.0.2 strict refl
  paragraphs_there place (block ∷ blocks) each strict = λ none. each.0.2 strict refl (front_none (paragraphs_of (block ∷ [])) (paragraphs_of blocks) (sym (parted true block blocks) ∙ none)) where
    front_none : (front more : List Par) → front ++ more ≡ [] → front ≡ []
    front_none [] more e = refl
    front_none (par ∷ front) more e = absurd cc
