-- Names that are used are declared, so none is declared by its use.
use Rattle.std.proofs.Common.{◌≡◌, ℕ, not, Bool, true, cond, List, [], ◌∷◌, ◌++◌, map, filter, refl, sym, ap, subst, ◌∙◌, bytes_eq, Option, Some, None}
use Rattle.std.specs.List.{flat_map, Any, AllByRecursion as Each}
use Rattle.std.proofs.lemmas.List.Folds.{list_any-from_Any}
use Rattle.std.proofs.lemmas.Slice.Eq.{bytes_eq-Decides}
use Rattle.doc_model.specs.declared.block.Block.{Block}
use Rattle.doc_model.specs.declared.block.Block.TheOpen.{Section-F}
use Rattle.doc_model.specs.declared.block.Section.{Section}
use Rattle.doc_model.specs.declared.document.Document.{Document}
use Rattle.doc_model.specs.declared.field.Field.{Field}
use Rattle.doc_model.specs.declared.field.Field.TheVariants as fields
use Rattle.doc_model.specs.declared.paragraph.Item.{Item}
use Rattle.doc_model.specs.declared.paragraph.Mark.{Mark as DocMark}
use Rattle.doc_model.specs.declared.paragraph.Note.{Note as DocNote, out-Note}
use Rattle.doc_model.specs.declared.paragraph.Par.{Par}
use Rattle.doc_model.specs.declared.paragraph.What.{What}
use Rattle.doc_model.specs.declared.paragraph.What.TheOpen.{What-F}
use Rattle.doc_model.specs.Parts.{all_items, field_of, items_of, what_of}
use Rattle.doc_model.specs.Reading.{block_paragraphs, note_of}
use Rattle.doc_model.specs.Valid.{AreNamesGiven, IsField, IsValid}
use Rattle.block_facts.proofs.Blocks.{of_blocks, par_block, par_reads, section_block, section_reads}
use Rattle.load_model.specs.Left.{is_one_of}
use Rattle.load_model.specs.Met.{Met, MetName, Mark, Note, Reference, Section as MetSection, Sequence, Table, Variable, named_at, sequences_met, variables_met}
use Rattle.back_kept.proofs.Apart.{AreApart, pairs_of, some_all, some_apart}
use Rattle.back_met.proofs.Blocks.{things_par, things_section}
use Rattle.back_met.proofs.Readable.{HoldsOf, by_paragraphs}
use Rattle.back_met.specs.Things.{AreMet, Counted, Headed, IsInner, IsMet, Marked, Noted, Thing, block_things, field_met, if_any, mark_at, note_items, things_in, things_of}
use Rattle.back_spans.proofs.Runs.{each_both}
use Rattle.back_valid.proofs.Lists.{each_part}

-- names that are given are apart
pub apart : (names : List (List ℕ)) → AreNamesGiven names → AreApart names
apart names is = subst AreApart (some_all names is.0) (some_apart names (pairs_of names (λ i j d lt l same. absurd (is.1 i j d lt l same))))

-- a name that is there
some_also : {X : Type 0} (P Q : X → Type 0) (xs : List X) → ((x : X) → P x → Q x) → Any P xs → Any Q xs
some_also P Q xs step any = (any.0, any.1, any.2, any.3, step any.1 any.4)

there : (given : List (List ℕ)) (name : List ℕ) → Any (λ other. other ≡ name) given → is_one_of given name ≡ true
there given name any =
    list_any-from_Any (λ (other : List ℕ). bytes_eq other name) given (some_also (λ other. other ≡ name) (λ other. bytes_eq other name ≡ true) given (λ other e. (bytes_eq-Decides other name).1 e) any)

pub each_parts : {X : Type 0} (P : X → Type 0) (xs ys : List X) → Each P xs → Each P ys → Each P (xs ++ ys)
each_parts P [] ys one other = other
each_parts P (x ∷ xs) ys one other = (one.0, each_parts P xs ys one.1 other)

module _ (doc : Document) where
  abbrev pub IsOf : List (List ℕ) → MetName → Type 0
  IsOf names used = is_one_of names used.name ≡ true

  -- the variables and the sequences that are met are declared
  pub record AreDeclared (met : List Met) : Type 0 where
    pub variables : Each (IsOf doc.variables) (variables_met met)
    pub sequences : Each (IsOf doc.sequences) (sequences_met met)

  none_declared : AreDeclared []
  none_declared = record { variables = tt; sequences = tt }

  variables_both : (met more : List Met) → variables_met (met ++ more) ≡ variables_met met ++ variables_met more
  variables_both [] more = refl
  variables_both (Variable field ∷ met) more = ap (λ (rest : List MetName). field ∷ rest) (variables_both met more)
  variables_both (MetSection section ∷ met) more = variables_both met more
  variables_both (Mark mark ∷ met) more = variables_both met more
  variables_both (Note note ∷ met) more = variables_both met more
  variables_both (Reference field ∷ met) more = variables_both met more
  variables_both (Sequence field ∷ met) more = variables_both met more
  variables_both (Table place ∷ met) more = variables_both met more

  sequences_both : (met more : List Met) → sequences_met (met ++ more) ≡ sequences_met met ++ sequences_met more
  sequences_both [] more = refl
  sequences_both (Sequence field ∷ met) more = ap (λ (rest : List MetName). field ∷ rest) (sequences_both met more)
  sequences_both (MetSection section ∷ met) more = sequences_both met more
  sequences_both (Mark mark ∷ met) more = sequences_both met more
  sequences_both (Note note ∷ met) more = sequences_both met more
  sequences_both (Reference field ∷ met) more = sequences_both met more
  sequences_both (Variable field ∷ met) more = sequences_both met more
  sequences_both (Table place ∷ met) more = sequences_both met more

  both_declared : (met more : List Met) → AreDeclared met → AreDeclared more → AreDeclared (met ++ more)
  both_declared met more one other = record {
    variables = subst (Each (IsOf doc.variables)) (sym (variables_both met more)) (each_parts (IsOf doc.variables) (variables_met met) (variables_met more) one.variables other.variables);
    sequences = subst (Each (IsOf doc.sequences)) (sym (sequences_both met more)) (each_parts (IsOf doc.sequences) (sequences_met met) (sequences_met more) one.sequences other.sequences);
  }

  -- of things that are met so, where each is good
  module _ (P : Thing → List Met → Type 0) (Good : Thing → Type 0) (of_one : (thing : Thing) (met : List Met) → Good thing → P thing met → AreDeclared met) where
    all_declared : (things : List Thing) (met : List Met) → Each Good things → AreMet P things met → AreDeclared met
    all_declared [] met good are = subst AreDeclared (sym are) none_declared
    all_declared (thing ∷ things) met good are =
        subst AreDeclared (sym are.2) (both_declared are.0 are.1 (of_one thing are.0 good.0 are.3) (all_declared things are.1 good.1 are.4))

  field_declared : (place : ℕ) (field : Field) → IsField doc field → AreDeclared (field_met place field)
  field_declared place (fields.Sequence name [] format) is = record { variables = tt; sequences = (there doc.sequences name is, tt) }
  field_declared place (fields.Sequence name (c ∷ cs) format) is = record { variables = tt; sequences = (there doc.sequences name is, tt) }
  field_declared place (fields.VarSet name value) is = record { variables = (there doc.variables name is.0, tt); sequences = tt }
  field_declared place (fields.VarGet name) is = record { variables = (there doc.variables name is, tt); sequences = tt }
  field_declared place (fields.Chapter display level) is = none_declared
  field_declared place (fields.PageNumber select adjust format) is = none_declared
  field_declared place (fields.PageCount format) is = none_declared
  field_declared place (fields.BookRef name form) is = none_declared
  field_declared place (fields.SeqRef name form) is = none_declared
  field_declared place (fields.NoteRef name class form) is = none_declared

  mark_declared : (place text : ℕ) (mark : DocMark) → AreDeclared (mark_at place text mark ∷ [])
  mark_declared place text mark = record { variables = tt; sequences = tt }

  -- in a note
  abbrev IsGoodInner : Thing → Type 0
  IsGoodInner (Counted field) = IsField doc field
  IsGoodInner _ = Unit {0}

  inner_declared : (text : ℕ) (thing : Thing) (met : List Met) → IsGoodInner thing → IsInner text thing met → AreDeclared met
  inner_declared text (Marked mark) met good is = subst AreDeclared (sym is.1) (mark_declared is.0 text mark)
  inner_declared text (Counted field) met good is = subst AreDeclared (sym is.1) (field_declared is.0 field good)
  inner_declared text (Noted note) met good is = absurd is
  inner_declared text (Headed name) met good is = absurd is

  -- in the body
  abbrev IsGood : Thing → Type 0
  IsGood (Counted field) = IsField doc field
  IsGood (Noted note) = Each IsGoodInner (flat_map things_of (note_items note))
  IsGood _ = Unit {0}

  note_declared : (place : ℕ) (id : Option (List ℕ)) → AreDeclared (map Note (named_at place id))
  note_declared place None = none_declared
  note_declared place (Some id) = record { variables = tt; sequences = tt }

  one_declared : (thing : Thing) (met : List Met) → IsGood thing → IsMet thing met → AreDeclared met
  one_declared (Marked mark) met good is = subst AreDeclared (sym is.1) (mark_declared is.0 0 mark)
  one_declared (Counted field) met good is = subst AreDeclared (sym is.1) (field_declared is.0 field good)
  one_declared (Noted note) met good is =
      subst AreDeclared (sym is.2) (both_declared (map Note (named_at is.0 (if_any (out-Note note).id))) is.1 (note_declared is.0 (if_any (out-Note note).id))
      (all_declared (IsInner is.0) IsGoodInner (inner_declared is.0) (flat_map things_of (note_items note)) is.1 good is.3))
  one_declared (Headed name) met good is = subst AreDeclared (sym is.2) (record { variables = tt; sequences = tt })

  -- the things of a valid document are good
  abbrev IsFine : Item → Type 0
  IsFine item = Each (IsField doc) (field_of item)

  abbrev fields_in : What-F What Item DocNote Par → List Field
  fields_in (What-F.Field field) = field ∷ []
  fields_in _ = []

  abbrev notes_in : What-F What Item DocNote Par → List DocNote
  notes_in (What-F.Note note) = note ∷ []
  notes_in _ = []

  inner_good : (what : What-F What Item DocNote Par) → Each (IsField doc) (fields_in what) → Each IsGoodInner (things_in what)
  inner_good (What-F.Field field) each = (each.0, tt)
  inner_good (What-F.Mark mark) each = (tt, tt)
  inner_good (What-F.Note note) each = (tt, tt)
  inner_good (What-F.Char c) each = tt
  inner_good What-F.Tab each = tt
  inner_good What-F.Break each = tt

  inners_good : (items : List Item) → Each IsFine items → Each IsGoodInner (flat_map things_of items)
  inners_good [] each = tt
  inners_good (item ∷ items) each = each_parts IsGoodInner (things_of item) (flat_map things_of items) (inner_good (what_of item) each.0) (inners_good items each.1)

  abbrev AreFine : DocNote → Type 0
  AreFine note = Each (λ inner. Each IsFine (items_of inner)) (out-Note note).pars

  joined_fine : (pars : List Par) → Each (λ inner. Each IsFine (items_of inner)) pars → Each IsFine (flat_map items_of pars)
  joined_fine [] each = tt
  joined_fine (par ∷ pars) each = each_parts IsFine (items_of par) (flat_map items_of pars) each.0 (joined_fine pars each.1)

  what_good : (what : What-F What Item DocNote Par) → Each (IsField doc) (fields_in what) → Each AreFine (notes_in what) → Each IsGood (things_in what)
  what_good (What-F.Field field) each notes = (each.0, tt)
  what_good (What-F.Mark mark) each notes = (tt, tt)
  what_good (What-F.Note note) each notes = (inners_good (note_items note) (joined_fine (out-Note note).pars notes.0), tt)
  what_good (What-F.Char c) each notes = tt
  what_good What-F.Tab each notes = tt
  what_good What-F.Break each notes = tt

  items_good : (items : List Item) → Each IsFine items → Each (λ item. Each AreFine (note_of item)) items → Each IsGood (flat_map things_of items)
  items_good [] each notes = tt
  items_good (item ∷ items) each notes = each_parts IsGood (things_of item) (flat_map things_of items) (what_good (what_of item) each.0 notes.0) (items_good items each.1 notes.1)

  par_good : (par : Par) → HoldsOf IsFine par → Each IsGood (flat_map things_of (items_of par))
  par_good par holds = items_good (items_of par) holds.0 (each_part AreFine note_of (items_of par) holds.1)

  abbrev HasGood : Block → Type 0
  HasGood block = Each (HoldsOf IsFine) (block_paragraphs block) → Each IsGood (block_things block)

  each_good : (blocks : List Block) → Each HasGood blocks → Each (HoldsOf IsFine) (flat_map block_paragraphs blocks) → Each IsGood (flat_map block_things blocks)
  each_good [] each holds = tt
  each_good (block ∷ blocks) each holds =
      let parts = each_both (HoldsOf IsFine) (block_paragraphs block) (flat_map block_paragraphs blocks) holds in
      each_parts IsGood (block_things block) (flat_map block_things blocks) (each.0 parts.0) (each_good blocks each.1 parts.1)

  par_case : (par : Par) → HasGood (par_block par)
  par_case par holds = subst (Each IsGood) (sym (things_par par)) (par_good par (subst (Each (HoldsOf IsFine)) (par_reads par) holds).0)

  section_case : (x : Section-F Block Section) → Each HasGood x.blocks → HasGood (section_block x)
  section_case x each holds = subst (Each IsGood) (sym (things_section x)) (tt, each_good x.blocks each (subst (Each (HoldsOf IsFine)) (section_reads x) holds))

  pub used_declared : IsValid doc → (met : List Met) → AreMet IsMet (flat_map block_things doc.body) met → AreDeclared met
  used_declared valid met are =
      all_declared IsMet IsGood one_declared (flat_map block_things doc.body) met
      (each_good doc.body (of_blocks HasGood par_case section_case doc.body) (by_paragraphs IsFine doc (each_part (IsField doc) field_of (all_items doc) valid.each_field))) are

-- none is used that isn't one of these
pub none_further : (names : List (List ℕ)) (used : List MetName) → Each (λ one. is_one_of names one.name ≡ true) used → filter (λ one. not (is_one_of names one.name)) used ≡ []
none_further names [] each = refl
none_further names (one ∷ used) each = ap (λ (b : Bool). cond (not b) (one ∷ filter (λ other. not (is_one_of names other.name)) used) (filter (λ other. not (is_one_of names other.name)) used)) each.0 ∙ none_further names used each.1
