-- The document of such a tree.
use Rattle.std.proofs.Common.{◌≡◌, ◌≢◌, ℕ, false, List, [], ◌∷◌, map, refl, sym, ap, ap₂, ◌∙◌}
use Rattle.std.specs.Option.{option_map_or}
use Rattle.doc_model.specs.Alike.{IsAlike, in_block, in_document}
use Rattle.doc_model.specs.declared.block.Block.{Block}
use Rattle.doc_model.specs.declared.document.Document.{Document}
use Rattle.doc_model.specs.Reading.{number_of, paragraphs}
use Rattle.doc_model.specs.Valid.{IsValid}
use Rattle.load_model.specs.declared.element.Element.{Element as Read, out-Element}
use Rattle.load_model.specs.Blocks.{ReadBlocks, or_empty}
use Rattle.load_model.specs.Loaded.{draft_of, loaded, read_text, text_of}
use Rattle.load_model.specs.Styles.{names_of}
use Rattle.written_model.specs.Written.{written}
use Rattle.back_names.specs.Named.{named, placeless}
use Rattle.back_parts.specs.Parts.{AreBack}
use Rattle.back_text_places.specs.Bare.{at_paragraphs, bare_par, unnumbered_par}
use Rattle.back_text_places.proofs.Pars.{whole_changed}
use Rattle.back_valid.specs.Found.{AreNamesOf}
use Rattle.read_back.specs.Back.{HasRanges}
use Rattle.read_back.proofs.Numbers.{numbers_bare, tens_stay}
use Rattle.read_back.proofs.Text.{read_back, sequences_are, variables_are}
use Rattle.read_back.proofs.Tree.{defaults_are, global_is, layouts_are, lists_are, masters_are, outline_is, styles_are}

-- without numbers
all_changed : (blocks : List Block) → map (at_paragraphs (bare_par false)) blocks ≡ map (in_block unnumbered_par) blocks
all_changed [] = refl
all_changed (block ∷ blocks) = ap₂ (λ (one : Block) (more : List Block). one ∷ more) (whole_changed block) (all_changed blocks)

-- blocks of which there are some
some_blocks : (place : ℕ) (blocks body : List Block) → body ≢ [] → map (in_block unnumbered_par) blocks ≡ map (in_block unnumbered_par) body → or_empty place blocks ≡ blocks
some_blocks place [] [] some e = absurd (some refl)
some_blocks place [] (block ∷ body) some e = cc
some_blocks place (block ∷ blocks) body some e = refl

module _ (doc : Document) (root : Read) (valid : IsValid doc) (ranges : HasRanges doc) (back : AreBack doc) (same : placeless root ≡ named (written doc)) (are : AreNamesOf doc (names_of root)) where
  blocks_are : map (in_block unnumbered_par) (read_text root).blocks ≡ map (in_block unnumbered_par) doc.body
  blocks_are = sym (all_changed (read_text root).blocks) ∙ ap (λ (read : ReadBlocks). read.blocks) (read_back doc root valid ranges same are)

  abbrev place : ℕ
  place = option_map_or (λ text. (out-Element text).place) (text_of root) 0

  body_is : map (in_block unnumbered_par) (or_empty place (read_text root).blocks) ≡ map (in_block unnumbered_par) doc.body
  body_is = ap (map (in_block unnumbered_par)) (some_blocks place (read_text root).blocks doc.body valid.body blocks_are) ∙ blocks_are

  pub draft_alike : IsAlike (draft_of root) doc
  draft_alike = λ i. record {
    global = global_is doc root valid back same i;
    defaults = defaults_are doc root valid back same i;
    styles = styles_are doc root valid back same i;
    lists = lists_are doc root valid back same i;
    outline = outline_is doc root valid back same i;
    layouts = layouts_are doc root valid back same i;
    masters = masters_are doc root valid back same i;
    variables = variables_are doc root valid ranges same are i;
    sequences = sequences_are doc root valid ranges same are i;
    counting = sym valid.counting i;
    body = body_is i;
  }

  pub loaded_alike : IsAlike (loaded root) doc
  loaded_alike = numbers_bare (map number_of (paragraphs (draft_of root))) (draft_of root) ∙ ap (in_document _) draft_alike ∙ tens_stay doc valid
