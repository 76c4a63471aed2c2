-- Whether blocks hold the paragraph of a number, and how many of their rows are of it.
use Rattle.std.proofs.Common.{◌≡◌, ℕ, ◌+◌, ◌≤◌, Bool, true, false, cond, eqb, ◌||◌, List, [], ◌∷◌, ◌++◌, map, Some, refl, ap, ap₂, sym, ◌∙◌, subst, arith, append-nil}
use Rattle.std.specs.List.{flat_map, list_any, AllByRecursion as Each}
use Rattle.std.proofs.lemmas.Bool.{false≢true, eqb-true}
use Rattle.doc_model.specs.declared.block.Block.{Block, out-Block, roll-Block}
use Rattle.doc_model.specs.declared.block.Block.TheOpen.{Block-F}
use Rattle.doc_model.specs.declared.block.Block.TheViews.{out-roll-Block, roll-out-Block}
use Rattle.doc_model.specs.declared.block.Section.{Section}
use Rattle.doc_model.specs.declared.paragraph.Par.{Par, out-Par}
use Rattle.doc_model.specs.Reading.{number_of, notes_of, block_paragraphs}
use Rattle.doc_model.specs.declared.paragraph.Note.{Note}
use Rattle.doc_model.specs.declared.block.Block.TheFolds.{fold-roll-Block}
use Rattle.edit_rules.specs.Places.{as_block, paragraph_of, is_paragraph, holds}
use Rattle.node_array.specs.Rows.{par_rows}
use Rattle.container_rows.proofs.Spots.{times, times_both}
use Rattle.container_rows.proofs.Parts.{text_rows, own_rows}
use Rattle.container_rows.proofs.Firsts.{by_test, or_nothing}

pub par_alone : (par : Par) → paragraph_of (as_block par) ≡ par ∷ []
par_alone par = simp out-roll-Block

pub section_alone : (section : Section) → paragraph_of (roll-Block (Block-F.Section section)) ≡ []
section_alone section = simp out-roll-Block

pub pars_back : (pars : List Par) → flat_map paragraph_of (map as_block pars) ≡ pars
pars_back [] = refl
pars_back (par ∷ pars) = ap₂ (λ a b. a ++ b) (par_alone par) (pars_back pars)

-- the notes of a block
abbrev pub block_notes : Block → List Note
block_notes block = flat_map notes_of (block_paragraphs block)

pub par_notes : (par : Par) → block_notes (as_block par) ≡ notes_of par
par_notes par = let alone : block_paragraphs (as_block par) ≡ par ∷ [] = simp fold-roll-Block in ap (flat_map notes_of) alone ∙ append-nil (notes_of par)

-- a paragraph whose notes hold no rows
abbrev pub HasNoTexts : Par → Type 0
HasNoTexts par = flat_map text_rows (out-Par par).items ≡ []

-- a block that is the paragraph of a number
pub record IsAt (number : ℕ) (block : Block) : Type 0 where
  pub par : Par
  pub is : block ≡ as_block par
  pub numbered : number_of par ≡ number

module _ (number : ℕ) where
  pub test_is : (par : Par) → is_paragraph number (as_block par) ≡ eqb (number_of par) number
  test_is par = ap (list_any (λ (p : Par). eqb (number_of p) number)) (par_alone par) ∙ or_nothing (eqb (number_of par) number)

  pub section_test : (section : Section) → is_paragraph number (roll-Block (Block-F.Section section)) ≡ false
  section_test section = ap (list_any (λ (p : Par). eqb (number_of p) number)) (section_alone section)

  at_layer : (layer : Block-F Block Section) → is_paragraph number (roll-Block layer) ≡ true → IsAt number (roll-Block layer)
  at_layer (Block-F.Par par) e = record { par = par; is = refl; numbered = eqb-true (number_of par) number (sym (test_is par) ∙ e) }
  at_layer (Block-F.Section section) e = absurd (false≢true (sym (section_test section) ∙ e))

  pub paragraph_at : (block : Block) → is_paragraph number block ≡ true → IsAt number block
  paragraph_at block e =
      subst (IsAt number) (roll-out-Block block) (at_layer (out-Block block) (ap (is_paragraph number) (roll-out-Block block) ∙ e))

  -- rows of a paragraph
  pub par_times : (par : Par) → times number (par_rows par) ≡ cond (eqb (number_of par) number) 1 0 + times number (flat_map text_rows (out-Par par).items)
  par_times par = ap (times number) (own_rows par)

  pub par_here : (par : Par) → eqb (number_of par) number ≡ true → times number (par_rows par) ≡ 1 + times number (flat_map text_rows (out-Par par).items)
  par_here par e = par_times par ∙ ap (λ (b : Bool). cond b 1 0 + times number (flat_map text_rows (out-Par par).items)) e

  pub par_other : (par : Par) → eqb (number_of par) number ≡ false → times number (par_rows par) ≡ times number (flat_map text_rows (out-Par par).items)
  par_other par e =
      par_times par ∙ ap (λ (b : Bool). cond b 1 0 + times number (flat_map text_rows (out-Par par).items)) e ∙ none (times number (flat_map text_rows (out-Par par).items)) where
        none : (n : ℕ) → 0 + n ≡ n
        none n = omega arith

  -- paragraphs of a note
  pub holds_is : (pars : List Par) → holds number (map Some pars) ≡ list_any (is_paragraph number) (map as_block pars)
  holds_is [] = refl
  holds_is (par ∷ pars) = ap₂ (λ (a b : Bool). a || b) (sym (test_is par)) (holds_is pars)

  pub some_held : (pars : List Par) → Each HasNoTexts pars → 1 ≤ times number (flat_map par_rows pars) → list_any (is_paragraph number) (map as_block pars) ≡ true
  some_held [] bare many = absurd (omega (arith, many))
  some_held (par ∷ pars) bare many =
      by_test (eqb (number_of par) number)
      (λ is_so. ap (λ (b : Bool). b || list_any (is_paragraph number) (map as_block pars)) (test_is par ∙ is_so))
      (λ other.
      let none : times number (par_rows par) ≡ 0 = par_other par other ∙ ap (times number) bare.0 in
      let sum = times_both number (par_rows par) (flat_map par_rows pars) in
      ap₂ (λ (a b : Bool). a || b) (test_is par ∙ other) (some_held pars bare.1 (omega (arith, none, sum, many))))

  pub none_held : (pars : List Par) → times number (flat_map par_rows pars) ≡ 0 → list_any (is_paragraph number) (map as_block pars) ≡ false
  none_held [] none = refl
  none_held (par ∷ pars) none =
      let sum = times_both number (par_rows par) (flat_map par_rows pars) in
      by_test (eqb (number_of par) number)
      (λ is_so. absurd (omega (arith, par_here par is_so, sum, none)))
      (λ other. ap₂ (λ (a b : Bool). a || b) (test_is par ∙ other) (none_held pars (omega (arith, sum, none))))
