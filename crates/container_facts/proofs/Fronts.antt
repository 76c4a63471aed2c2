-- A paragraph is the first of its container where its row stands at the front.
use Rattle.std.proofs.Common.{◌≡◌, ℕ, ◌≤◌, Bool, true, false, eqb, ◌||◌, ◌&&◌, List, [], ◌∷◌, ◌++◌, map, Option, Some, refl, ap, ap₂, sym, ◌∙◌, subst, arith, append_assoc, append-nil}
use Rattle.std.specs.Prelude.{find, unwrap_or}
use Rattle.std.specs.List.{flat_map, list_any, AllByRecursion as Each}
use Rattle.std.proofs.lemmas.Bool.{false≢true}
use Rattle.std.proofs.lemmas.List.Folds.{list_any-append}
use Rattle.doc_model.specs.declared.block.Block.{Block}
use Rattle.doc_model.specs.declared.block.Block.TheOpen.{Section-F}
use Rattle.doc_model.specs.declared.block.Section.{Section, roll-Section}
use Rattle.doc_model.specs.declared.document.Document.{Document}
use Rattle.doc_model.specs.declared.paragraph.Note.{Note, out-Note}
use Rattle.doc_model.specs.declared.paragraph.Par.{Par}
use Rattle.doc_model.specs.declared.paragraph.ParId.{ParId}
use Rattle.doc_model.specs.Reading.{block_paragraphs, notes_of, number_of}
use Rattle.container_rows.specs.Standing.{IsApart}
use Rattle.container_rows.proofs.Firsts.{by_test, or_nothing}
use Rattle.edit_rules.specs.Places.{Held, WithContainers, container_of, containers, holds, is_held, note_container}
use Rattle.held_rows.specs.HeldFrom.{held_of}
use Rattle.held_rows.proofs.Stands.{par_containers, section_none}
use Rattle.node_array.specs.declared.row.Row.{Row}
use Rattle.node_array.specs.declared.row.Row.TheVariants as row
use Rattle.node_array.specs.Rows.{par_rows, block_rows, rows_of}
use Rattle.paragraph_rows.specs.Flat.{AreFlat}
use Rattle.paragraph_rows.specs.OwnRow.{text_rows}
use Rattle.block_facts.proofs.Blocks.{par_block, section_block, of_blocks, par_reads, section_reads}
use Rattle.paragraph_rows.proofs.Blocks.{par_block_rows, section_block_rows}
use Rattle.paragraph_rows.proofs.FlatPars.{IsFlatNote, IsFlatPar, IsFlatBlock, flat_pars}
use Rattle.paragraph_rows.proofs.Lists.{each_front, each_behind}
use Rattle.paragraph_rows.proofs.NoteRows.{alone_rows, grouped}
use Rattle.paragraph_rows.proofs.Opened.{par_open}
use Rattle.container_facts.specs.Fronts.{begins_with, is_front}
use Rattle.container_facts.proofs.Counts.{held_once, held_times, section_within, within_of}
use Rattle.container_facts.proofs.Lists.{some_pass}
use Rattle.container_facts.proofs.Shared.{found_later, found_now}
use Rattle.container_facts.proofs.Texts.{any_counts}

and_none : (test : Bool) → (test && false) ≡ false
and_none true = refl
and_none false = refl

or_assoc : (a b c : Bool) → ((a || b) || c) ≡ (a || (b || c))
or_assoc true b c = refl
or_assoc false b c = refl

module _ (number : ℕ) where
  -- rows behind which nothing is at the front that isn't begun there
  abbrev Ends : List Row → Type 0
  Ends tail = (fresh : Bool) → is_front fresh number tail ≡ is_front false number tail

  -- the paragraphs of a note
  pars_front : (fresh : Bool) (pars : List Par) (rest : List Row) → Each (λ par. notes_of par ≡ []) pars
      → is_front fresh number (flat_map par_rows pars ++ row.End ∷ rest) ≡ (fresh && begins_with number (map Some pars) || is_front false number rest)
  pars_front fresh [] rest none = ap (λ (b : Bool). b || is_front false number rest) (sym (and_none fresh))
  pars_front fresh (par ∷ pars) rest none =
      ap (λ (rows : List Row). is_front fresh number ((rows ++ flat_map par_rows pars) ++ row.End ∷ rest)) (alone_rows par none.0)
      ∙ ap (λ (b : Bool). fresh && eqb (number_of par) number || b) (pars_front false pars rest none.1)

  -- notes
  notes_front : (some : List Note) (more : List Row) → Each IsFlatNote some → is_front false number (flat_map text_rows some ++ more) ≡ (list_any (begins_with number) (map note_container some) || is_front false number more)
  notes_front [] more flat = refl
  notes_front (note ∷ some) more flat =
      ap (is_front false number) (grouped note some more) ∙ pars_front true (out-Note note).pars (flat_map text_rows some ++ more) flat.0
      ∙ ap (λ (b : Bool). begins_with number (note_container note) || b) (notes_front some more flat.1)
      ∙ sym (or_assoc (begins_with number (note_container note)) (list_any (begins_with number) (map note_container some)) (is_front false number more))

  -- blocks
  abbrev Fronts : Block → Type 0
  Fronts block = IsFlatBlock block → (fresh : Bool) (more : List Row)
      → is_front fresh number (block_rows block ++ more) ≡ (fresh && is_held number (held_of block) || (list_any (begins_with number) (within_of block) || is_front false number more))

  held_par : (par : Par) → held_of (par_block par) ≡ Some par
  held_par par = ap (λ (w : WithContainers). w.held) (par_containers par)

  within_par : (par : Par) → within_of (par_block par) ≡ map note_container (notes_of par)
  within_par par = ap (λ (w : WithContainers). w.within) (par_containers par)

  par_front : (par : Par) → Fronts (par_block par)
  par_front par flat fresh more =
      ap (λ (rows : List Row). is_front fresh number (rows ++ more)) (par_block_rows par ∙ par_open par)
      ∙ ap (λ (b : Bool). fresh && eqb (number_of par) number || b) (notes_front (notes_of par) more (subst (Each IsFlatPar) (par_reads par) flat).0)
      ∙ sym (ap₂ (λ (held : Option Par) (cs : List Held). fresh && is_held number held || (list_any (begins_with number) cs || is_front false number more)) (held_par par) (within_par par))

  blocks_front : (blocks : List Block) → Each Fronts blocks → Each IsFlatPar (flat_map block_paragraphs blocks) → (fresh : Bool) (tail : List Row) → Ends tail
      → is_front fresh number (rows_of blocks ++ tail)
      ≡ (fresh && begins_with number (map held_of blocks) || (list_any (begins_with number) (flat_map within_of blocks) || is_front false number tail))
  blocks_front [] known flat fresh tail ends = ends fresh ∙ ap (λ (b : Bool). b || is_front false number tail) (sym (and_none fresh))
  blocks_front (block ∷ blocks) known flat fresh tail ends =
      ap (is_front fresh number) (append_assoc (block_rows block) (rows_of blocks) tail)
      ∙ known.0 (each_front IsFlatPar (block_paragraphs block) (flat_map block_paragraphs blocks) flat) fresh (rows_of blocks ++ tail)
      ∙ ap (λ (b : Bool). fresh && is_held number (held_of block) || (list_any (begins_with number) (within_of block) || b))
      (blocks_front blocks known.1 (each_behind IsFlatPar (block_paragraphs block) (flat_map block_paragraphs blocks) flat) false tail ends)
      ∙ ap (λ (b : Bool). fresh && is_held number (held_of block) || b)
      (sym (or_assoc (list_any (begins_with number) (within_of block)) (list_any (begins_with number) (flat_map within_of blocks)) (is_front false number tail))
      ∙ ap (λ (b : Bool). b || is_front false number tail) (sym (list_any-append (begins_with number) (within_of block) (flat_map within_of blocks))))

  section_front : (x : Section-F Block Section) → Each Fronts x.blocks → Fronts (section_block x)
  section_front x known flat fresh more =
      ap (λ (rows : List Row). is_front fresh number (rows ++ more)) (section_block_rows x)
      ∙ ap (is_front true number) (append_assoc (rows_of x.blocks) (row.End ∷ []) more)
      ∙ blocks_front x.blocks known (subst (Each IsFlatPar) (section_reads x) flat) true (row.End ∷ more) (λ fresh. refl)
      ∙ sym (or_assoc (begins_with number (map held_of x.blocks)) (list_any (begins_with number) (flat_map within_of x.blocks)) (is_front false number more))
      ∙ sym (ap₂ (λ (a : Bool) (cs : List Held). a || (list_any (begins_with number) cs || is_front false number more))
      (ap (λ (held : Option Par). fresh && is_held number held) (section_none (roll-Section x)) ∙ and_none fresh) (section_within x))

  body_front : (body : List Block) → AreFlat (rows_of body) → is_front true number (rows_of body) ≡ list_any (begins_with number) (map held_of body ∷ flat_map within_of body)
  body_front body flat =
      ap (is_front true number) (sym (append-nil (rows_of body)))
      ∙ blocks_front body (of_blocks Fronts par_front section_front body) (flat_pars body flat) true [] (λ fresh. refl)
      ∙ ap (λ (b : Bool). begins_with number (map held_of body) || b) (or_nothing (list_any (begins_with number) (flat_map within_of body)))

  -- what begins with it holds it
  begins_holds : (c : Held) → begins_with number c ≡ true → holds number c ≡ true
  begins_holds [] is = absurd (false≢true is)
  begins_holds (held ∷ c) is = ap (λ (b : Bool). b || list_any (is_held number) c) is

  none_begins : (cs : List Held) → list_any (holds number) cs ≡ false → list_any (begins_with number) cs ≡ false
  none_begins [] none = refl
  none_begins (c ∷ cs) none =
      by_test (begins_with number c)
      (λ is. absurd (false≢true (sym none ∙ ap (λ (b : Bool). b || list_any (holds number) cs) (begins_holds c is))))
      (λ other. ap₂ (λ (a b : Bool). a || b) other (none_begins cs (rest (holds number c) (list_any (holds number) cs) none))) where
        rest : (a b : Bool) → (a || b) ≡ false → b ≡ false
        rest true b none = absurd (false≢true (sym none))
        rest false b none = none

  one_begins : (cs : List Held) → held_times number cs ≤ 1 → list_any (begins_with number) cs ≡ begins_with number (unwrap_or (find (holds number) cs) [])
  one_begins [] once = refl
  one_begins (c ∷ cs) once =
      by_test (holds number c)
      (λ here.
      let none : list_any (holds number) cs ≡ false =
      by_test (list_any (holds number) cs) (λ some. absurd (omega (arith, once, some_pass (is_held number) c here, any_counts number cs some))) (λ none. none)
      in
      ap (λ (b : Bool). begins_with number c || b) (none_begins cs none) ∙ or_nothing (begins_with number c)
      ∙ ap (λ (o : Option Held). begins_with number (unwrap_or o [])) (sym (found_now (holds number) c cs here)))
      (λ other.
      let not_first : begins_with number c ≡ false = by_test (begins_with number c) (λ is. absurd (false≢true (sym other ∙ begins_holds c is))) (λ no_one. no_one) in
      ap (λ (b : Bool). b || list_any (begins_with number) cs) not_first ∙ one_begins cs (omega (arith, once))
      ∙ ap (λ (o : Option Held). begins_with number (unwrap_or o [])) (sym (found_later (holds number) c cs other)))

-- the first of a container stands at the front
pub front_told : (doc : Document) (par : ParId) → IsApart doc → AreFlat (rows_of doc.body) → begins_with par.0 (container_of doc par) ≡ is_front true par.0 (rows_of doc.body)
front_told doc par apart flat = sym (body_front par.0 doc.body flat ∙ one_begins par.0 (containers doc) (held_once par.0 doc apart))
