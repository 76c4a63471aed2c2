-- A change of paragraphs that leaves names leaves those of the document.
use Rattle.std.proofs.Common.{◌≡◌, ℕ, List, [], ◌∷◌, ◌++◌, map, take, refl, ap, ap₂, sym, subst, ◌∙◌}
use Rattle.std.specs.List.{flat_map}
use Rattle.doc_model.specs.declared.block.Block.{Block, roll-Block}
use Rattle.doc_model.specs.declared.block.Block.TheOpen.{Block-F, Section-F}
use Rattle.doc_model.specs.declared.block.Block.TheFolds.{fold-roll-Block, fold-roll-Section, ind-Block, map-Block, map-Section}
use Rattle.doc_model.specs.declared.block.Section.{Section, roll-Section}
use Rattle.doc_model.specs.declared.paragraph.Par.{Par, out-Par}
use Rattle.doc_model.specs.declared.paragraph.ParId.{ParId}
use Rattle.doc_model.specs.declared.paragraph.Item.{Item}
use Rattle.doc_model.specs.declared.paragraph.What.{What}
use Rattle.doc_model.specs.declared.paragraph.Note.{Note}
use Rattle.doc_model.specs.declared.paragraph.What.TheOpen.{Par-F}
use Rattle.doc_model.specs.declared.paragraph.What.TheViews.{out-roll-Par}
use Rattle.doc_model.specs.declared.document.Document.{Document}
use Rattle.doc_model.specs.Alike.{in_note, in_paragraph, in_block, in_document}
use Rattle.doc_model.specs.Reading.{block_paragraphs, body_paragraphs}
use Rattle.name_index.specs.Names.{of_kinds}
use Rattle.name_index.specs.Scan as scan
use Rattle.names_stay.specs.Blind.{IsBlind, KeepsNames}
use Rattle.names_stay.proofs.Lists.{flat_flat, flat_map_over, flat_same, map_flat}
use Rattle.names_stay.proofs.Told.{par_same}
use Rattle.names_stay.proofs.Tellings.{mark_names, mark_blind, mark_within, refnames, reference_blind, reference_within, ids, id_blind, id_within}

module _ (change : Par → Par) (keeps : KeepsNames change) where
  -- what is known of a block that is changed: its paragraphs are the changed ones, and its sections begin with the same numbers
  record IsChanged (block : Block) : Type 0 where
    paragraphs : block_paragraphs (in_block change block) ≡ map (in_paragraph change) (block_paragraphs block)
    sections : scan.in_block (in_block change block) ≡ scan.in_block block

  abbrev SectionChanged : Section → Type 0
  SectionChanged section = IsChanged (roll-Block (Block-F.Section section))

  abbrev Block-Known : Type 0
  Block-Known = (block : Block) × IsChanged block

  abbrev Section-Known : Type 0
  Section-Known = (section : Section) × SectionChanged section

  abbrev blocks_in : List Block-Known → List Block
  blocks_in ks = map (λ k. k.0) ks

  paragraphs_all : (ks : List Block-Known) → flat_map (λ pars. pars) (map block_paragraphs (map (in_block change) (blocks_in ks))) ≡ map (in_paragraph change) (flat_map (λ pars. pars) (map block_paragraphs (blocks_in ks)))
  paragraphs_all [] = refl
  paragraphs_all (k ∷ ks) =
      ap₂ (λ (front behind : List Par). front ++ behind) k.1.paragraphs (paragraphs_all ks)
      ∙ sym (map_append (block_paragraphs k.0) (flat_map (λ pars. pars) (map block_paragraphs (blocks_in ks)))) where
        map_append : (xs ys : List Par) → map (in_paragraph change) (xs ++ ys) ≡ map (in_paragraph change) xs ++ map (in_paragraph change) ys
        map_append [] ys = refl
        map_append (x ∷ xs) ys = ap (λ (behind : List Par). in_paragraph change x ∷ behind) (map_append xs ys)

  sections_all : (ks : List Block-Known) → map scan.in_block (map (in_block change) (blocks_in ks)) ≡ map scan.in_block (blocks_in ks)
  sections_all [] = refl
  sections_all (k ∷ ks) = ap₂ (λ (one : scan.InBlock) (behind : List scan.InBlock). one ∷ behind) k.1.sections (sections_all ks)

  -- one level of blocks
  par_changed : (par : Par) → in_block change (roll-Block (Block-F.Par par)) ≡ roll-Block (Block-F.Par (in_paragraph change par))
  par_changed par = simp fold-roll-Block

  section_changed : (x : Section-F Block Section) → in_block change (roll-Block (Block-F.Section (roll-Section x))) ≡ roll-Block (Block-F.Section (roll-Section (record x { blocks = map (in_block change) x.blocks })))
  section_changed x = simp (fold-roll-Block, fold-roll-Section)

  par_opens : (par : Par) → block_paragraphs (roll-Block (Block-F.Par par)) ≡ par ∷ []
  par_opens par = simp fold-roll-Block

  section_opens : (x : Section-F Block Section) → block_paragraphs (roll-Block (Block-F.Section (roll-Section x))) ≡ flat_map (λ pars. pars) (map block_paragraphs x.blocks)
  section_opens x = simp (fold-roll-Block, fold-roll-Section)

  par_in : (par : Par) → scan.in_block (roll-Block (Block-F.Par par)) ≡ record { numbers = (out-Par par).id ∷ []; sections = [] }
  par_in par = simp fold-roll-Block

  abbrev in_section : List ℕ → List scan.InBlock → scan.InBlock
  in_section name inside = record {
    numbers = flat_map (λ i. i.numbers) inside;
    sections = map (λ number. (name, number)) (take 1 (flat_map (λ i. i.numbers) inside)) ++ flat_map (λ i. i.sections) inside;
  }

  section_in : (x : Section-F Block Section) → scan.in_block (roll-Block (Block-F.Section (roll-Section x))) ≡ in_section x.name (map scan.in_block x.blocks)
  section_in x = simp (fold-roll-Block, fold-roll-Section)

  par_number : (par : Par) → (out-Par (in_paragraph change par)).id ≡ (out-Par par).id
  par_number par = ap (λ (x : Par-F What Item Note Par). x.id) (out-roll-Par (record (out-Par (change par)) { items = map (in_note change) (out-Par (change par)).items })) ∙ keeps.number par

  par_known : (par : Par) → IsChanged (roll-Block (Block-F.Par par))
  par_known par = record {
    paragraphs = ap block_paragraphs (par_changed par) ∙ par_opens (in_paragraph change par) ∙ ap (map (in_paragraph change)) (sym (par_opens par));
    sections = ap scan.in_block (par_changed par) ∙ par_in (in_paragraph change par) ∙ ap (λ (id : ParId). record { numbers = id ∷ []; sections = [] }) (par_number par) ∙ sym (par_in par);
  }

  section_known : (x : Section-F Block Section) (ks : List Block-Known) → SectionChanged (roll-Section (record x { blocks = blocks_in ks }))
  section_known x ks =
      let made : Section-F Block Section = record x { blocks = blocks_in ks } in
      let later : Section-F Block Section = record x { blocks = map (in_block change) (blocks_in ks) } in
      record {
        paragraphs = ap block_paragraphs (section_changed made) ∙ section_opens later ∙ paragraphs_all ks ∙ ap (map (in_paragraph change)) (sym (section_opens made));
        sections = ap scan.in_block (section_changed made) ∙ section_in later ∙ ap (in_section x.name) (sections_all ks) ∙ sym (section_in made);
      }

  block_step : (x : Block-F Block Section) (y : Block-F Block-Known Section-Known) → map-Block Block-Known Section-Known Block Section (λ k. k.0) (λ k. k.0) y ≡ x → IsChanged (roll-Block x)
  block_step x (Block-F.Par par) is = subst (λ (z : Block-F Block Section). IsChanged (roll-Block z)) is (par_known par)
  block_step x (Block-F.Section known) is = subst (λ (z : Block-F Block Section). IsChanged (roll-Block z)) is known.1

  section_step : (x : Section-F Block Section) (y : Section-F Block-Known Section-Known) → map-Section Block-Known Section-Known Block Section (λ k. k.0) (λ k. k.0) y ≡ x → SectionChanged (roll-Section x)
  section_step x y is = subst (λ (z : Section-F Block Section). SectionChanged (roll-Section z)) is (section_known (record { kind = y.kind; name = y.name; style = y.style; protected = y.protected; hidden = y.hidden; source = y.source; blocks = [] }) y.blocks)

  block_known : (block : Block) → IsChanged block
  block_known = ind-Block IsChanged SectionChanged block_step section_step

  body_changed : (body : List Block) → flat_map block_paragraphs (map (in_block change) body) ≡ map (in_paragraph change) (flat_map block_paragraphs body)
  body_changed body =
      flat_map_over block_paragraphs (in_block change) body
      ∙ flat_same (λ block. block_paragraphs (in_block change block)) (λ block. map (in_paragraph change) (block_paragraphs block)) (λ block. (block_known block).paragraphs) body
      ∙ sym (map_flat (in_paragraph change) block_paragraphs body)

  module _ (names : Item → List (List ℕ)) (blind : IsBlind names) (inner : (c : Par → Par) (item : Item) → names (in_note c item) ≡ names item) where
    names_same : (doc : Document) → flat_map (scan.names_at names) (scan.placed_in_reading_order (in_document change doc)) ≡ flat_map (scan.names_at names) (scan.placed_in_reading_order doc)
    names_same doc =
        flat_flat (scan.names_at names) scan.placed_read (body_paragraphs (in_document change doc))
        ∙ ap (flat_map (λ par. flat_map (scan.names_at names) (scan.placed_read par))) (body_changed doc.body)
        ∙ flat_map_over (λ par. flat_map (scan.names_at names) (scan.placed_read par)) (in_paragraph change) (body_paragraphs doc)
        ∙ flat_same (λ par. flat_map (scan.names_at names) (scan.placed_read (in_paragraph change par))) (λ par. flat_map (scan.names_at names) (scan.placed_read par)) (par_same names blind inner change keeps) (body_paragraphs doc)
        ∙ sym (flat_flat (scan.names_at names) scan.placed_read (body_paragraphs doc))

  sections_same : (doc : Document) → scan.section_names (in_document change doc) ≡ scan.section_names doc
  sections_same doc =
      flat_map_over (λ block. (scan.in_block block).sections) (in_block change) doc.body
      ∙ flat_same (λ block. (scan.in_block (in_block change block)).sections) (λ block. (scan.in_block block).sections) (λ block. ap (λ (inside : scan.InBlock). inside.sections) (block_known block).sections) doc.body

  pub names_left : (doc : Document) → scan.names_of (in_document change doc) ≡ scan.names_of doc
  names_left doc =
      ap (λ (pairs : List (List ℕ × ParId)). of_kinds (scan.given pairs) (scan.given (scan.section_names (in_document change doc))) (scan.given (scan.reference_names (in_document change doc))) (scan.given (scan.note_names (in_document change doc)))) (names_same mark_names mark_blind mark_within doc)
      ∙ ap (λ (pairs : List (List ℕ × ParId)). of_kinds (scan.given (scan.bookmark_names doc)) (scan.given pairs) (scan.given (scan.reference_names (in_document change doc))) (scan.given (scan.note_names (in_document change doc)))) (sections_same doc)
      ∙ ap (λ (pairs : List (List ℕ × ParId)). of_kinds (scan.given (scan.bookmark_names doc)) (scan.given (scan.section_names doc)) (scan.given pairs) (scan.given (scan.note_names (in_document change doc)))) (names_same refnames reference_blind reference_within doc)
      ∙ ap (λ (pairs : List (List ℕ × ParId)). of_kinds (scan.given (scan.bookmark_names doc)) (scan.given (scan.section_names doc)) (scan.given (scan.reference_names doc)) (scan.given pairs)) (names_same ids id_blind id_within doc)
