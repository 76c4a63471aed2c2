-- The paragraphs of headers and footers have no more items than those of the masters.
use Rattle.std.proofs.Common.{◌≡◌, ℕ, ◌≤◌, true, List, [], ◌++◌, length, map, Option, Some, None, option_to_list, is_some}
use Rattle.std.specs.List.{flat_map, AllByRecursion as Each}
use Rattle.std.proofs.lemmas.Bool.{false≢true}
use Rattle.doc_model.specs.declared.page_layout.HeadPar.{HeadPar}
use Rattle.doc_model.specs.declared.page_layout.Master.{Master}
use Rattle.load_model.specs.declared.names.Key.TheVariants as key
use Rattle.load_model.specs.declared.names.Tag.TheVariants as tag
use Rattle.load_model.specs.declared.element.Element.{Element}
use Rattle.load_model.specs.Headers.{head_elements, head_of, head_paragraph, head_paragraphs, masters}
use Rattle.load_model.specs.Offences.{Counted, counted_heads, place_of}
use Rattle.load_model.specs.Left.{attributes_of}
use Rattle.load_model.specs.Styles.{kept_masters, name_of, names_of, reference}
use Rattle.load_model.specs.Values.{stated_or}
use Rattle.back_offences.proofs.Kept.{masters_named}
use Rattle.back_spans.proofs.Runs.{each_both}
use Rattle.back_valid.proofs.Lists.{each_also, each_joined, each_map, each_mapped, each_part}
use Rattle.back_offences.proofs.Lists.{each_append, each_flat}

module _ (most : ℕ) (root : Element) where
  abbrev IsShort : HeadPar → Type 0
  IsShort par = length par.items ≤ most

  abbrev IsFew : Counted → Type 0
  IsFew counted = counted.items ≤ most

  abbrev AreShort : Master → Type 0
  AreShort master = Each IsShort (master.header ++ master.footer)

  abbrev count_of : Element → Counted
  count_of element = record { place = place_of element; items = length (head_paragraph (names_of root) element).items }

  abbrev pars_in : Element → List HeadPar
  pars_in header = map (head_paragraph (names_of root)) (head_elements header)

  -- those of a header
  header_few : (header : Element) → Each IsShort (pars_in header) → Each IsFew (map count_of (head_elements header))
  header_few header short = each_map IsFew count_of (head_elements header) (each_mapped IsShort (head_paragraph (names_of root)) (head_elements header) short)

  headers_few : (headers : List Element) → Each IsShort (flat_map pars_in headers) → Each (λ header. Each IsFew (map count_of (head_elements header))) headers
  headers_few headers short = each_also (λ header. Each IsShort (pars_in header)) (λ header. Each IsFew (map count_of (head_elements header))) header_few headers (each_part IsShort pars_in headers short)

  -- those of a master
  abbrev heads : Element → List Element
  heads master = option_to_list (head_of tag.Header master) ++ option_to_list (head_of tag.Footer master)

  master_few : (master : Element) → Each IsShort (head_paragraphs (names_of root) tag.Header master ++ head_paragraphs (names_of root) tag.Footer master)
      → Each IsFew (flat_map (λ header. map count_of (head_elements header)) (heads master))
  master_few master short =
      let both = each_both IsShort (head_paragraphs (names_of root) tag.Header master) (head_paragraphs (names_of root) tag.Footer master) short in
      each_flat IsFew (λ header. map count_of (head_elements header)) (heads master)
      (each_append (λ header. Each IsFew (map count_of (head_elements header))) (option_to_list (head_of tag.Header master)) (option_to_list (head_of tag.Footer master))
      (headers_few (option_to_list (head_of tag.Header master)) both.0) (headers_few (option_to_list (head_of tag.Footer master)) both.1))

  -- a master of a name
  abbrev master_by : Element → List ℕ → Master
  master_by element name = record {
    name = name;
    layout = stated_or key.Layout (reference (names_of root).layouts) [] (attributes_of element);
    next = stated_or key.Next (reference (names_of root).masters) [] (attributes_of element);
    header = head_paragraphs (names_of root) tag.Header element;
    footer = head_paragraphs (names_of root) tag.Footer element;
  }

  abbrev OwnShort : Element → Type 0
  OwnShort element = Each IsShort (head_paragraphs (names_of root) tag.Header element ++ head_paragraphs (names_of root) tag.Footer element)

  by_name : (element : Element) (name : Option (List ℕ)) → is_some name ≡ true → Each AreShort (map (master_by element) (option_to_list name)) → OwnShort element
  by_name element None called short = absurd (false≢true called)
  by_name element (Some name) called short = short.0

  pub heads_few : Each IsShort (flat_map (λ master. master.header ++ master.footer) (masters (names_of root) root)) → Each IsFew (counted_heads root)
  heads_few short =
      each_flat IsFew (λ master. flat_map (λ header. map count_of (head_elements header)) (heads master)) (kept_masters root)
      (each_joined (λ element. is_some (name_of element) ≡ true) (λ element. Each AreShort (map (master_by element) (option_to_list (name_of element)))) (λ element. Each IsFew (flat_map (λ header. map count_of (head_elements header)) (heads element)))
      (λ element called all. master_few element (by_name element (name_of element) called all)) (kept_masters root) (masters_named root)
      (each_part AreShort (λ element. map (master_by element) (option_to_list (name_of element))) (kept_masters root) (each_part IsShort (λ master. master.header ++ master.footer) (masters (names_of root) root) short)))
