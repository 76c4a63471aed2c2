-- A note holds good paragraphs.
use Rattle.std.proofs.Common.{◌≡◌, ◌≢◌, ℕ, Bool, true, false, cond, List, [], ◌∷◌, ◌++◌, map, refl, sym, ap, subst, eq-eqb, inl}
use Rattle.std.specs.List.{AllByRecursion as Each}
use Rattle.doc_model.specs.declared.field.NoteClass.TheVariants as class
use Rattle.doc_model.specs.declared.paragraph.Note.{roll-Note}
use Rattle.doc_model.specs.declared.paragraph.What.TheOpen.{What-F}
use Rattle.doc_model.specs.declared.paragraph.What.TheViews.{out-roll-Note}
use Rattle.load_model.specs.declared.names.Key.TheVariants as key
use Rattle.load_model.specs.declared.names.Tag.{Tag}
use Rattle.load_model.specs.declared.names.Tag.TheVariants as tag
use Rattle.load_model.specs.declared.element.Attribute.{Attribute}
use Rattle.load_model.specs.declared.element.Element.{Element as Read}
use Rattle.load_model.specs.Blocks.{Gives, ReadBlocks, blocks_alone, first_given, gives_of, joined_blocks, lists_of_note, note_blocks, note_content, or_empty, paragraphs_of}
use Rattle.load_model.specs.Fields.{own_name}
use Rattle.load_model.specs.Left.{is_same_tag, tag_of}
use Rattle.load_model.specs.Met as met
use Rattle.load_model.specs.Met.{Met, Where, each, in_note, is_at, named_at, note_met}
use Rattle.load_model.specs.Values as value
use Rattle.load_model.specs.Values.{stated, stated_or}
use Rattle.valid_text.specs.Texts.{IsGoodName}
use Rattle.valid_text.proofs.Good.{Text, Fits, AreGoodBlocks, AreSpans, IsGoodBlock, IsGoodPar, IsGoodRaw, IsNone, NoteLayer, NoteLayerIsGood, NoteOf, item_good}
use Rattle.valid_text.proofs.Lists.{each_both}
use Rattle.valid_text.proofs.Pars.{paragraphs_good, paragraphs_there, empty_good_blocks}
use Rattle.valid_text.proofs.Steps.{tag_given, tag_met}
use Rattle.valid_text.proofs.Values.{AreLegal, empty_good, own_good, stated_or_holds}
use Rattle.valid_text.proofs.Walk.{AreDeclared, AreSettled, InText, IsDeclared, IsGood, joined_good, note_settled}

module _ (text : Text) (fits : Fits text) (place : ℕ) (attributes : List Attribute) (legal : AreLegal attributes) where
  -- where blocks alone are read
  alone_good : (read : ReadBlocks) → AreGoodBlocks text true read → AreGoodBlocks text true (blocks_alone read)
  alone_good read good = (good.0, tt)

  abbrev here : Where
  here = in_note place

  abbrev body_of : Gives → ReadBlocks
  body_of body = blocks_alone (body.inside lists_of_note)

  -- the first body
  bodies_good : (elements : List Read) → Each (IsGood text) elements → AreSettled text true elements → AreDeclared text (each (λ one. one.inside) here (met.first_given tag.NoteBody (map met.gives_of elements)))
      → AreGoodBlocks text true (note_blocks (map (gives_of text.known) elements))
  bodies_good [] good settled declared = (tt, tt)
  bodies_good (element ∷ elements) good settled declared =
      subst (λ (b : Bool). AreGoodBlocks text true (joined_blocks (map body_of (cond b (gives_of text.known element ∷ []) (first_given tag.NoteBody (map (gives_of text.known) elements))))))
      (sym (ap (λ (one : Tag). is_same_tag one tag.NoteBody) (tag_given text.known element)))
      (by_test (is_same_tag (tag_of element) tag.NoteBody) (bodies_good elements good.1 settled.1)
      (subst (λ (b : Bool). AreDeclared text (each (λ one. one.inside) here (cond b (met.gives_of element ∷ []) (met.first_given tag.NoteBody (map met.gives_of elements)))))
      (ap (λ (one : Tag). is_same_tag one tag.NoteBody) (tag_met element)) declared))
    where
      by_test : (b : Bool)
          → (AreDeclared text (each (λ one. one.inside) here (met.first_given tag.NoteBody (map met.gives_of elements))) → AreGoodBlocks text true (note_blocks (map (gives_of text.known) elements)))
          → AreDeclared text (each (λ one. one.inside) here (cond b (met.gives_of element ∷ []) (met.first_given tag.NoteBody (map met.gives_of elements))))
          → AreGoodBlocks text true (joined_blocks (map body_of (cond b (gives_of text.known element ∷ []) (first_given tag.NoteBody (map (gives_of text.known) elements)))))
      by_test true more declared =
          joined_good text true (body_of (gives_of text.known element) ∷ []) (
            alone_good ((gives_of text.known element).inside lists_of_note)
                (good.0.inside lists_of_note here (λ e. absurd cc) (note_settled text element settled.0) (inl refl, empty_good) (each_both (IsDeclared text.doc) ((met.gives_of element).inside here) [] declared).0),
            tt,
          )
      by_test false more declared = more declared

  -- the paragraphs
  pars_good : (read : ReadBlocks) → AreGoodBlocks text true read
      → (text.strict ≡ true → paragraphs_of (or_empty place read.blocks) ≢ []) × Each (IsGoodPar text IsNone) (paragraphs_of (or_empty place read.blocks))
  pars_good read good =
      let all : Each (IsGoodBlock text true) (or_empty place read.blocks) = empty_good_blocks text true place read.blocks good.0 in
      ((λ strict. paragraphs_there text place read.blocks all strict), paragraphs_good text true (or_empty place read.blocks) all)

  id_good : IsGoodName (stated_or key.Id (own_name (is_at text.known.kept.notes place)) [] attributes)
  id_good = stated_or_holds IsGoodName key.Id (own_name (is_at text.known.kept.notes place)) [] attributes legal empty_good (own_good (is_at text.known.kept.notes place))

  pub note_good : (elements : List Read) → Each (IsGood text) elements → AreSettled text true elements → (within : Bool) (spans : List (List ℕ)) → AreSpans text spans → (at : Where) → InText within at
      → AreDeclared text (note_met place (stated key.Id value.name attributes) (map met.gives_of elements) at)
      → Each (IsGoodRaw text within) (note_content text.known (record { spans = spans; in_note = within }) place attributes (map (gives_of text.known) elements)).raws
  note_good elements good settled true spans are at outside declared = tt
  note_good elements good settled false spans are at outside declared =
      let all : AreDeclared text (map met.Note (named_at place (stated key.Id value.name attributes)) ++ each (λ one. one.inside) here (met.first_given tag.NoteBody (map met.gives_of elements))) =
      subst (AreDeclared text) (ap (λ (b : Bool). cond b (map met.Note (named_at place (stated key.Id value.name attributes)) ++ each (λ one. one.inside) here (met.first_given tag.NoteBody (map met.gives_of elements))) []) (eq-eqb at.text 0 (outside refl))) declared in
      let parts = each_both (IsDeclared text.doc) (map met.Note (named_at place (stated key.Id value.name attributes))) (each (λ one. one.inside) here (met.first_given tag.NoteBody (map met.gives_of elements))) all in
      let pars = pars_good (note_blocks (map (gives_of text.known) elements)) (bodies_good elements good settled parts.1) in
      let note : NoteLayer = record {
        id = stated_or key.Id (own_name (is_at text.known.kept.notes place)) [] attributes;
        class = stated_or key.NoteClass value.note_class class.Footnote attributes;
        pars = paragraphs_of (or_empty place (note_blocks (map (gives_of text.known) elements)).blocks);
      } in
      (item_good text (NoteOf text false) spans (What-F.Note (roll-Note note)) are (subst (NoteLayerIsGood text) (sym (out-roll-Note note)) (id_good, pars.0, pars.1)), tt)
