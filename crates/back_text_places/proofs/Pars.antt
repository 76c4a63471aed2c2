-- Paragraphs and blocks don't look at numbers.
use Rattle.std.proofs.Common.{◌≡◌, ℕ, ◌==◌, ◌||◌, Bool, true, false, cond, List, [], ◌∷◌, ◌++◌, map, refl, sym, ap, ap₂, subst, ◌∙◌, append-nil, Option}
use Rattle.std.specs.List.{list_any}
use Rattle.std.specs.Option.{option_map_or}
use Rattle.std.proofs.lemmas.List.{map-append}
use Rattle.std.specs.List.{AllByRecursion as Each}
use Rattle.doc_model.specs.Alike.{in_block, in_paragraph}
use Rattle.doc_model.specs.declared.block.Block.{Block, out-Block, roll-Block}
use Rattle.doc_model.specs.declared.block.Block.TheOpen.{Block-F, Section-F}
use Rattle.doc_model.specs.declared.block.Block.TheFolds.{fold-roll-Block, fold-roll-Section}
use Rattle.doc_model.specs.declared.block.Block.TheViews.{out-roll-Block, roll-out-Block}
use Rattle.doc_model.specs.declared.block.Section.{Section}
use Rattle.doc_model.specs.declared.paragraph.Item.{Item}
use Rattle.doc_model.specs.declared.paragraph.ListPos.{ListPos}
use Rattle.doc_model.specs.declared.paragraph.Note.{Note}
use Rattle.doc_model.specs.declared.paragraph.Par.{Par, out-Par, roll-Par}
use Rattle.doc_model.specs.declared.paragraph.What.{What}
use Rattle.doc_model.specs.declared.paragraph.What.TheOpen.{Par-F}
use Rattle.doc_model.specs.declared.paragraph.What.TheViews.{out-roll-Par}
use Rattle.block_facts.proofs.Blocks.{of_block, par_changes, section_block, section_changes}
use Rattle.load_model.specs.Blocks.{as_block, empty_paragraph, first_changed, is_directly_in, or_empty, paragraphs_of, with_place}
use Rattle.back_text_places.specs.Bare.{at_paragraphs, bare_par, unnumbered_par}
use Rattle.back_text_places.proofs.Raws.{bare_items}

-- a paragraph by its parts
abbrev pub par_of : ℕ → List ℕ → ℕ → Option ListPos → List Item → Par
par_of number style level list items = roll-Par (record { id = record { 0 = number }; style = style; level = level; list = list; items = items })

pub par_bare : (within : Bool) (number : ℕ) (style : List ℕ) (level : ℕ) (list : Option ListPos) (items : List Item)
    → bare_par within (par_of number style level list items) ≡ par_of 0 style level list (bare_items within items)
par_bare true number style level list items = simp out-roll-Par
par_bare false number style level list items = simp out-roll-Par

abbrev Layer : Type 0
Layer = Par-F What Item Note Par

list_bare : (within : Bool) (par : Par) → (out-Par (bare_par within par)).list ≡ (out-Par par).list
list_bare true par = simp out-roll-Par
list_bare false par = simp out-roll-Par

-- a change of list places goes through
pub place_bare : (within : Bool) (change : ListPos → ListPos) (par : Par) → with_place change (bare_par within par) ≡ bare_par within (with_place change par)
place_bare true change par = simp out-roll-Par
place_bare false change par = simp out-roll-Par

-- blocks
pub at_par : (change : Par → Par) (par : Par) → at_paragraphs change (as_block par) ≡ as_block (change par)
at_par change par = simp fold-roll-Block

pub at_section : (change : Par → Par) (x : Section-F Block Section) → at_paragraphs change (section_block x) ≡ section_block (record x { blocks = map (at_paragraphs change) x.blocks })
at_section change x = simp (fold-roll-Block, fold-roll-Section)

kind_pars : (change : Par → Par) (x : Block-F Block Section) → paragraphs_of (at_paragraphs change (roll-Block x) ∷ []) ≡ map change (paragraphs_of (roll-Block x ∷ []))
kind_pars change (Block-F.Par par) = simp (fold-roll-Block, out-roll-Block)
kind_pars change (Block-F.Section section) = simp (fold-roll-Block, out-roll-Block)

front_pars : (change : Par → Par) (block : Block) → paragraphs_of (at_paragraphs change block ∷ []) ≡ map change (paragraphs_of (block ∷ []))
front_pars change block = subst (λ (one : Block). paragraphs_of (at_paragraphs change one ∷ []) ≡ map change (paragraphs_of (one ∷ []))) (roll-out-Block block) (kind_pars change (out-Block block))

pars_parted : (block : Block) (blocks : List Block) → paragraphs_of (block ∷ blocks) ≡ paragraphs_of (block ∷ []) ++ paragraphs_of blocks
pars_parted block blocks = ap (λ (front : List Par). front ++ paragraphs_of blocks) (sym (append-nil _))

pub pars_bare : (change : Par → Par) (blocks : List Block) → paragraphs_of (map (at_paragraphs change) blocks) ≡ map change (paragraphs_of blocks)
pars_bare change [] = refl
pars_bare change (block ∷ blocks) =
    pars_parted (at_paragraphs change block) (map (at_paragraphs change) blocks)
    ∙ ap₂ (λ (front more : List Par). front ++ more) (front_pars change block) (pars_bare change blocks)
    ∙ sym (map-append change (paragraphs_of (block ∷ [])) (paragraphs_of blocks)) ∙ ap (map change) (sym (pars_parted block blocks))

-- a paragraph directly in a list
abbrev stands_at : ℕ → Option ListPos → Bool
stands_at level list = option_map_or (λ (place : ListPos). place.level == level) list false

any_bare : (within : Bool) (level : ℕ) (pars : List Par) → list_any (λ par. stands_at level (out-Par par).list) (map (bare_par within) pars) ≡ list_any (λ par. stands_at level (out-Par par).list) pars
any_bare within level [] = refl
any_bare within level (par ∷ pars) = ap₂ (λ (one more : Bool). one || more) (ap (stands_at level) (list_bare within par)) (any_bare within level pars)

pub directly_bare : (within : Bool) (level : ℕ) (block : Block) → is_directly_in level (at_paragraphs (bare_par within) block) ≡ is_directly_in level block
directly_bare within level block = ap (list_any (λ par. stands_at level (out-Par par).list)) (front_pars (bare_par within) block) ∙ any_bare within level (paragraphs_of (block ∷ []))

-- the first that passes a test
module _ (within : Bool) (test : Block → Bool) (change : ListPos → ListPos) (same : (block : Block) → test (at_paragraphs (bare_par within) block) ≡ test block) where
  abbrev bared : Block → Block
  bared = at_paragraphs (bare_par within)

  abbrev placed : Par → Block
  placed par = as_block (with_place change par)

  placed_bare : (pars : List Par) → map placed (map (bare_par within) pars) ≡ map bared (map placed pars)
  placed_bare [] = refl
  placed_bare (par ∷ pars) =
      ap₂ (λ (one : Block) (more : List Block). one ∷ more) (ap as_block (place_bare within change par) ∙ sym (at_par (bare_par within) (with_place change par))) (placed_bare pars)

  front_bare : (block : Block) → map placed (paragraphs_of (bared block ∷ [])) ≡ map bared (map placed (paragraphs_of (block ∷ [])))
  front_bare block = ap (map placed) (front_pars (bare_par within) block) ∙ placed_bare (paragraphs_of (block ∷ []))

  pub changed_bare : (blocks : List Block) → first_changed test change (map bared blocks) ≡ map bared (first_changed test change blocks)
  changed_bare [] = refl
  changed_bare (block ∷ blocks) =
      ap (λ (b : Bool). cond b (map placed (paragraphs_of (bared block ∷ [])) ++ map bared blocks) (bared block ∷ first_changed test change (map bared blocks))) (same block)
      ∙ ap₂ (λ (front more : List Block). cond (test block) (front ++ map bared blocks) (bared block ∷ more)) (front_bare block) (changed_bare blocks)
      ∙ by_test (test block)
    where
      by_test : (b : Bool) → cond b (map bared (map placed (paragraphs_of (block ∷ []))) ++ map bared blocks) (bared block ∷ map bared (first_changed test change blocks))
          ≡ map bared (cond b (map placed (paragraphs_of (block ∷ [])) ++ blocks) (block ∷ first_changed test change blocks))
      by_test true = sym (map-append bared (map placed (paragraphs_of (block ∷ []))) blocks)
      by_test false = refl

pub empty_bare : (within : Bool) (place : ℕ) (blocks : List Block) → or_empty 0 (map (at_paragraphs (bare_par within)) blocks) ≡ map (at_paragraphs (bare_par within)) (or_empty place blocks)
empty_bare true place [] = ap (λ (block : Block). block ∷ []) (ap as_block (sym (par_bare true place [] 0 Option.None [])) ∙ sym (at_par (bare_par true) (empty_paragraph place)))
empty_bare false place [] = ap (λ (block : Block). block ∷ []) (ap as_block (sym (par_bare false place [] 0 Option.None [])) ∙ sym (at_par (bare_par false) (empty_paragraph place)))
empty_bare within place (block ∷ blocks) = refl

-- in the body, the paragraphs of all notes
abbrev Changed : Block → Type 0
Changed block = at_paragraphs (in_paragraph unnumbered_par) block ≡ in_block unnumbered_par block

list_changed : (blocks : List Block) → Each Changed blocks → map (at_paragraphs (in_paragraph unnumbered_par)) blocks ≡ map (in_block unnumbered_par) blocks
list_changed [] each = refl
list_changed (block ∷ blocks) each = ap₂ (λ (one : Block) (more : List Block). one ∷ more) each.0 (list_changed blocks each.1)

pub whole_changed : (block : Block) → Changed block
whole_changed = of_block Changed (λ par. at_par (in_paragraph unnumbered_par) par ∙ sym (par_changes unnumbered_par par))
    (λ x each. at_section (in_paragraph unnumbered_par) x ∙ ap (λ (blocks : List Block). section_block (record x { blocks = blocks })) (list_changed x.blocks each) ∙ sym (section_changes unnumbered_par x))
