-- No limit is passed where the document passes none.
use Rattle.std.proofs.Common.{◌≡◌, ℕ, ◌≤◌, false, true, List, [], ◌++◌, length, map, sym, ap, ◌∙◌, subst, arith, sum_by}
use Rattle.std.specs.List.{flat_map, AllByRecursion as Each}
use Rattle.std.proofs.lemmas.List.{length-map}
use Rattle.doc_model.specs.declared.document.Document.{Document}
use Rattle.doc_model.specs.declared.page_layout.HeadPar.{HeadPar}
use Rattle.doc_model.specs.declared.page_layout.Master.{Master}
use Rattle.doc_model.specs.declared.paragraph.Par.{Par}
use Rattle.doc_model.specs.declared.refusal.Limit.{Limit}
use Rattle.doc_model.specs.declared.refusal.Limit.TheVariants as limit
use Rattle.doc_model.specs.Limits.{limit_number, measure}
use Rattle.doc_model.specs.Parts.{head_paragraphs, items_of}
use Rattle.doc_model.specs.Reading.{number_of, paragraphs}
use Rattle.doc_model.specs.Valid.{IsValid}
use Rattle.load_model.specs.declared.element.Element.{Element as Read}
use Rattle.load_model.specs.Loaded.{declared_names, draft_of, met_of}
use Rattle.load_model.specs.Met.{MetSection, kept_sections}
use Rattle.load_model.specs.Offences.{Counted, counted_heads, counted_paragraphs, declaration_places, place_of, places_beyond, too_deep}
use Rattle.load_model.specs.Styles.{InPart, kept_layouts, kept_lists, kept_masters, kept_styles}
use Rattle.written_model.specs.Written.{written}
use Rattle.back_names.specs.Named.{named, placeless}
use Rattle.back_offences.specs.Read.{IsReadOf}
use Rattle.back_offences.proofs.Alike.{alike_counted, count}
use Rattle.back_offences.proofs.Declared.{declarations_counted}
use Rattle.back_offences.proofs.Depth.{none_deep}
use Rattle.back_offences.proofs.Heads.{heads_few}
use Rattle.back_offences.proofs.Kept.{layouts_counted, lists_counted, masters_counted, styles_counted}
use Rattle.back_spans.proofs.Runs.{each_both}
use Rattle.back_valid.proofs.Lists.{each_at_most, each_mapped}
use Rattle.back_offences.proofs.Lists.{each_append, none_beyond}
use Rattle.back_offences.proofs.Paragraphs.{none_long, none_many, sum_told, told_told}
use Rattle.back_offences.proofs.Root.{file_is, met_is}
use Rattle.back_offences.proofs.Sections.{sections_few}

-- the limits of a document, one by one
pub record PassesNone (doc : Document) : Type 0 where
  pub paragraphs : measure doc limit.Paragraphs ≤ limit_number limit.Paragraphs
  pub items_of_paragraph : measure doc limit.ItemsOfParagraph ≤ limit_number limit.ItemsOfParagraph
  pub items : measure doc limit.Items ≤ limit_number limit.Items
  pub sections : measure doc limit.Sections ≤ limit_number limit.Sections
  pub depth : measure doc limit.SectionDepth ≤ limit_number limit.SectionDepth
  pub styles : measure doc limit.Styles ≤ limit_number limit.Styles
  pub lists : measure doc limit.ListStyles ≤ limit_number limit.ListStyles
  pub layouts : measure doc limit.Layouts ≤ limit_number limit.Layouts
  pub masters : measure doc limit.Masters ≤ limit_number limit.Masters
  pub declarations : measure doc limit.Declarations ≤ limit_number limit.Declarations

passes_none : (doc : Document) → IsValid doc → PassesNone doc
passes_none doc valid =
    let few = valid.limits in
    record {
      paragraphs = few.0;
      items_of_paragraph = few.1.0;
      items = few.1.1.0;
      sections = few.1.1.1.0;
      depth = few.1.1.1.1.0;
      styles = few.1.1.1.1.1.0;
      lists = few.1.1.1.1.1.1.0;
      layouts = few.1.1.1.1.1.1.1.0;
      masters = few.1.1.1.1.1.1.1.1.0;
      declarations = few.1.1.1.1.1.1.1.1.1.0;
    }

-- as many places as things of which there are few
few_places : {X : Type 0} (which : Limit) (place : X → ℕ) (xs : List X) (size : ℕ) → length xs ≡ size → size ≤ limit_number which → length (map place xs) ≤ limit_number which
few_places which place xs size is few = let same = length-map xs place in omega (arith, same, is, few)

module _ (doc : Document) (root : Read) (valid : IsValid doc) (same : placeless root ≡ named (written doc)) (is : IsReadOf doc root) where
  abbrev few : PassesNone doc
  few = passes_none doc valid

  -- paragraphs and their items
  items_told : map (λ (par : Counted). par.items) (counted_paragraphs root) ≡ map count (paragraphs doc)
  items_told =
      told_told (λ (par : Counted). par.items) (λ (par : Par). record { place = number_of par; items = length (items_of par) }) (paragraphs (draft_of root)) ∙ alike_counted (draft_of root) doc is.text

  as_many : length (counted_paragraphs root) ≡ length (paragraphs doc)
  as_many =
      let one = length-map (counted_paragraphs root) (λ (par : Counted). par.items) in
      let two = length-map (paragraphs doc) count in
      let both : length (map (λ (par : Counted). par.items) (counted_paragraphs root)) ≡ length (map count (paragraphs doc)) = ap length items_told in
      omega (arith, one, two, both)

  pub paragraphs_few : places_beyond limit.Paragraphs root ≡ []
  paragraphs_few = none_beyond limit.Paragraphs (map (λ (par : Counted). par.place) (counted_paragraphs root))
      (few_places limit.Paragraphs (λ (par : Counted). par.place) (counted_paragraphs root) (length (paragraphs doc)) as_many few.paragraphs)

  abbrev most : ℕ
  most = limit_number limit.ItemsOfParagraph

  each_length : Each (λ n. n ≤ most) (map count (paragraphs doc)) × Each (λ n. n ≤ most) (map (λ (par : HeadPar). length par.items) (head_paragraphs doc))
  each_length =
      each_both (λ n. n ≤ most) (map count (paragraphs doc)) (map (λ (par : HeadPar). length par.items) (head_paragraphs doc))
      (each_at_most most 0 (map count (paragraphs doc) ++ map (λ (par : HeadPar). length par.items) (head_paragraphs doc)) few.items_of_paragraph).1

  pars_short : Each (λ (par : Counted). par.items ≤ most) (counted_paragraphs root)
  pars_short = each_mapped (λ n. n ≤ most) (λ (par : Counted). par.items) (counted_paragraphs root) (subst (Each (λ n. n ≤ most)) (sym items_told) each_length.0)

  heads_short : Each (λ (par : Counted). par.items ≤ most) (counted_heads root)
  heads_short =
      heads_few most root
      (subst (λ (all : List Master). Each (λ (par : HeadPar). length par.items ≤ most) (flat_map (λ master. master.header ++ master.footer) all)) (sym is.masters)
      (each_mapped (λ n. n ≤ most) (λ (par : HeadPar). length par.items) (head_paragraphs doc) each_length.1))

  pub paragraphs_short : places_beyond limit.ItemsOfParagraph root ≡ []
  paragraphs_short =
      none_long (counted_paragraphs root ++ counted_heads root) (each_append (λ (par : Counted). par.items ≤ most) (counted_paragraphs root) (counted_heads root) pars_short heads_short)

  pub items_few : places_beyond limit.Items root ≡ []
  items_few =
      let one = sum_told (λ (par : Counted). par.items) (counted_paragraphs root) in
      let two = sum_told count (paragraphs doc) in
      let both : sum_by (λ n. n) (map (λ (par : Counted). par.items) (counted_paragraphs root)) ≡ sum_by (λ n. n) (map count (paragraphs doc)) = ap (sum_by (λ n. n)) items_told in
      let sum : sum_by (λ (par : Counted). par.items) (counted_paragraphs root) ≡ sum_by count (paragraphs doc) = one ∙ both ∙ sym two in
      none_many 0 (counted_paragraphs root) (omega (arith, sum, few.items))

  -- sections
  pub sections_are_few : places_beyond limit.Sections root ≡ []
  sections_are_few =
      let count_is = sections_few doc (met_of root) valid is.met in
      none_beyond limit.Sections (map (λ (section : MetSection). section.place) (kept_sections (met_of root))) (omega (arith, count_is, few.sections))

  pub sections_shallow : places_beyond limit.SectionDepth root ≡ []
  sections_shallow =
      let file = file_is doc root same in
      ap too_deep (met_is doc root same) ∙ none_deep doc file.text valid few.depth file.written_so

  -- styles, lists, layouts and masters
  pub styles_few : places_beyond limit.Styles root ≡ []
  styles_few = none_beyond limit.Styles (map (λ (in_part : InPart). place_of in_part.element) (kept_styles root))
      (few_places limit.Styles (λ (in_part : InPart). place_of in_part.element) (kept_styles root) (length doc.styles) (sym (styles_counted root) ∙ ap length is.styles) few.styles)

  pub lists_few : places_beyond limit.ListStyles root ≡ []
  lists_few = none_beyond limit.ListStyles (map place_of (kept_lists root)) (few_places limit.ListStyles place_of (kept_lists root) (length doc.lists) (sym (lists_counted root) ∙ ap length is.lists) few.lists)

  pub layouts_few : places_beyond limit.Layouts root ≡ []
  layouts_few = none_beyond limit.Layouts (map place_of (kept_layouts root)) (few_places limit.Layouts place_of (kept_layouts root) (length doc.layouts) (sym (layouts_counted root) ∙ ap length is.layouts) few.layouts)

  pub masters_few : places_beyond limit.Masters root ≡ []
  masters_few = none_beyond limit.Masters (map place_of (kept_masters root)) (few_places limit.Masters place_of (kept_masters root) (length doc.masters) (sym (masters_counted root) ∙ ap length is.masters) few.masters)

  -- declarations
  pub declarations_few : places_beyond limit.Declarations root ≡ []
  declarations_few =
      let size = declarations_counted root in
      let variables : length (declared_names false root) ≡ length doc.variables = ap length is.variables in
      let sequences : length (declared_names true root) ≡ length doc.sequences = ap length is.sequences in
      none_beyond limit.Declarations (declaration_places root) (omega (arith, size, variables, sequences, few.declarations))
