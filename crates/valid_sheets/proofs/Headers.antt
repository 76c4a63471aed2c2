-- Headers and footers hold what may stand there.
use Rattle.std.proofs.Common.{◌≡◌, ℕ, ◌≤◌, ◌&&◌, ◌||◌, zero, suc, Bool, true, false, cond, List, [], ◌∷◌, ◌++◌, map, filter, take, length, replicate, min, arith, refl, sym, ap, subst, ◌∙◌, append-nil, Option, Some, None, option_to_list, inl, inr}
use Rattle.std.specs.List.{flat_map, list_any, AllByRecursion as Each}
use Rattle.std.specs.Option.{option_map_or}
use Rattle.std.proofs.lemmas.Bool.{false≢true}
use Rattle.std.proofs.lemmas.List.{length-map, length-take}
use mathlib.Core.Former.{this}
use Rattle.markup_nodes.specs.formers.nodes.Nodes.{the_former}
use Rattle.markup_nodes.specs.Node.{Node, Element as Inner, Char as Letter}
use Rattle.markup_nodes.specs.Nodes.{elems}
use Rattle.doc_model.specs.Chars.{IsLegal}
use Rattle.doc_model.specs.declared.page_layout.HeadPar.{HeadPar}
use Rattle.doc_model.specs.declared.page_layout.Master.{Master}
use Rattle.doc_model.specs.declared.paragraph.Item.{out-Item}
use Rattle.doc_model.specs.declared.paragraph.What.TheOpen.{What-F}
use Rattle.doc_model.specs.declared.paragraph.What.TheViews.{out-roll-What}
use Rattle.doc_model.specs.Valid.{IsOfHeader}
use Rattle.load_model.specs.Blocks.{ReadContent, content_with, no_content, one_element}
use Rattle.load_model.specs.Content.{Raw, Blank, Read, spaced, is_nearest_solid, is_solid, is_white, item_in, items_behind, items_of_raw, raw_character}
use Rattle.load_model.specs.declared.element.Element.{Element}
use Rattle.load_model.specs.declared.element.Attribute.{Attribute}
use Rattle.load_model.specs.declared.element.Element.{Element, out-Element, roll-Element}
use Rattle.load_model.specs.declared.element.Element.TheOpen.{Element-F}
use Rattle.load_model.specs.declared.element.Element.TheViews.{out-roll-Element}
use Rattle.load_model.specs.declared.element.Element.TheFolds.{fold_out-Element, ind-Element}
use Rattle.load_model.specs.declared.names.Key.TheVariants as key
use Rattle.load_model.specs.declared.names.Tag.{Tag}
use Rattle.load_model.specs.declared.names.Tag.TheVariants as tag
use Rattle.load_model.specs.Fields.{field_of, is_field, is_header_field}
use Rattle.load_model.specs.Headers as head
use Rattle.load_model.specs.Headers.{Gives, Within, content_of, element_content, head_elements, head_of, head_paragraph, is_not_kept, kept_field, masters, own_text, span_content, stored_text, within}
use Rattle.load_model.specs.Left.{attributes_of, children, first, is, tag_of}
use Rattle.load_model.specs.Loaded.{draft_of}
use Rattle.load_model.specs.Met.{is_dropped}
use Rattle.load_model.specs.Styles.{Names, kept_masters, masters_in, names_of, style_reference}
use Rattle.load_model.specs.Values as value
use Rattle.load_model.specs.Values.{value_of}
use Rattle.legal_trees.specs.Legal.{IsLegalNode, IsLegalTree}
use Rattle.legal_trees.proofs.Trees.{nodes_legal}
use Rattle.doc_model.specs.declared.style.Family.TheVariants as family
use Rattle.valid_sheets.proofs.Levels.{children_legal}
use Rattle.valid_sheets.proofs.Stated.{Anything, anything, is_stated, number_read}
use Rattle.valid_sheets.specs.Sheets.{AreHeadersValid}
use Rattle.valid_sheets.proofs.Lists.{each_all, each_append, each_filter, each_firsts, each_flat, each_found, each_map, each_so}
use Rattle.valid_sheets.proofs.Names.{master_of, own_name}

-- what holds of each element, if it holds where it holds of those in it
module _ (P : Element → Type 0) (step : (element : Element) → Each P (elems (out-Element element).nodes) → P element) where
  abbrev Known-Element : Type 0
  Known-Element = (element : Element) × P element

  abbrev plain : Known-Element → Element
  plain one = one.0

  each_known : (nodes : List (Node Known-Element)) → Each P (elems ((the_former this).map Known-Element Element plain nodes))
  each_known [] = tt
  each_known (Inner one ∷ nodes) = (one.1, each_known nodes)
  each_known (Letter c ∷ nodes) = each_known nodes

  abbrev layer_of : Element-F Known-Element → Element-F Element
  layer_of y = record { place = y.place; tag = y.tag; attributes = y.attributes; nodes = (the_former this).map Known-Element Element plain y.nodes }

  rolled : (y : Element-F Known-Element) → P (roll-Element (layer_of y))
  rolled y = step (roll-Element (layer_of y)) (subst (λ (x : Element-F Element). Each P (elems x.nodes)) (sym (out-roll-Element (layer_of y))) (each_known y.nodes))

  every : (element : Element) → P element
  every = ind-Element P (λ x y is. subst (λ (z : Element-F Element). P (roll-Element z)) is (rolled y))

-- what is read is what may stand in a header
abbrev IsGood : Raw → Type 0
IsGood (Blank spans) = Unit {0}
IsGood (Read item) = IsOfHeader (out-Item item).what

space_good : (spans : List (List ℕ)) → IsOfHeader (out-Item (item_in spans (What-F.Char 0x20))).what
space_good spans = simp out-roll-What (inr (inr (inr (inl (omega arith, omega arith)))), omega arith)

-- the items of what is read
items_good : (before raws : List Raw) → Each IsGood raws → Each (λ item. IsOfHeader (out-Item item).what) (items_behind before raws)
items_good before [] each = tt
items_good before (Read item ∷ after) each = (each.0, items_good (Read item ∷ before) after each.1)
items_good before (Blank spans ∷ after) each = by_test (is_nearest_solid before && list_any is_solid after) (items_good (Blank spans ∷ before) after each.1) where
  by_test : (b : Bool) → Each (λ item. IsOfHeader (out-Item item).what) (items_behind (Blank spans ∷ before) after)
      → Each (λ item. IsOfHeader (out-Item item).what) (cond b (item_in spans (What-F.Char 0x20) ∷ items_behind (Blank spans ∷ before) after) (items_behind (Blank spans ∷ before) after))
  by_test true rest = (space_good spans, rest)
  by_test false rest = rest

-- characters
white_is : (c : ℕ) → is_white c ≡ false → (d : ℕ) → c ≡ d → is_white d ≡ true → ⊥
white_is c white d e is = false≢true (sym white ∙ ap is_white e ∙ is)

is_text : (c : ℕ) → IsLegal c → is_white c ≡ false → 0x20 ≤ c
is_text c (inl e) white = absurd (white_is c white 0x9 e refl)
is_text c (inr (inl e)) white = absurd (white_is c white 0xa e refl)
is_text c (inr (inr (inl e))) white = absurd (white_is c white 0xd e refl)
is_text c (inr (inr (inr (inl h)))) white = h.0
is_text c (inr (inr (inr (inr (inl h))))) white = let low = h.0 in omega (arith, low)
is_text c (inr (inr (inr (inr (inr h))))) white = let low = h.0 in omega (arith, low)

character_good : (spans : List (List ℕ)) (c : ℕ) → IsLegal c → IsGood (raw_character spans c)
character_good spans c legal = by_white (is_white c) refl where
  by_white : (b : Bool) → is_white c ≡ b → IsGood (cond b (Blank spans) (Read (item_in spans (What-F.Char c))))
  by_white true e = tt
  by_white false e = simp out-roll-What (legal, is_text c legal e)

spaced_good : (text : List ℕ) → Each IsLegal text → Each IsGood (map Read (map (λ c. item_in [] (What-F.Char c)) (spaced text)))
spaced_good [] legal = tt
spaced_good (c ∷ cs) legal = (by_white (is_white c) refl, spaced_good cs legal.1) where
  by_white : (b : Bool) → is_white c ≡ b → IsOfHeader (out-Item (item_in [] (What-F.Char (cond b 0x20 c)))).what
  by_white true e = space_good []
  by_white false e = simp out-roll-What (legal.0, is_text c legal.0 e)

spaces_good : (count : ℕ) → Each IsGood (map Read (replicate count (item_in [] (What-F.Char 0x20))))
spaces_good zero = tt
spaces_good (suc count) = (space_good [], spaces_good count)

tab_good : IsGood (Read (item_in [] What-F.Tab))
tab_good = simp out-roll-What tt

break_good : IsGood (Read (item_in [] What-F.Break))
break_good = simp out-roll-What tt

-- fields that stay fields
field_good : (which : Tag) (attributes : List Attribute) → is_header_field which ≡ true → Each IsGood (map Read (map (λ field. item_in [] (What-F.Field field)) (option_to_list (field_of which true [] attributes))))
field_good tag.Chapter attributes e =
    (simp out-roll-What (is_stated Anything (λ n. (1 ≤ n) × (n ≤ 10)) value.level (λ text n known e. number_read 1 10 text n e) key.OutlineLevel 1 attributes (omega arith, omega arith) (anything attributes)), tt)
field_good tag.PageNumber attributes e = (simp out-roll-What tt, tt)
field_good tag.PageCount attributes e = (simp out-roll-What tt, tt)
field_good _ attributes e = cc

-- what nodes give, whose elements are known
abbrev gives_of : Within → Gives
gives_of one = one.content

abbrev as_content : Node Within → Node Gives
as_content (Inner one) = Inner one.content
as_content (Letter c) = Letter c

abbrev nodes_within : List (Node Element) → List (Node Within)
nodes_within nodes = (the_former this).map Element Within within nodes

abbrev given : List (Node Element) → List (Node Gives)
given nodes = map as_content (nodes_within nodes)

abbrev AreGood : ReadContent → Type 0
AreGood content = Each IsGood content.raws

record IsGoodElement (element : Element) : Type 0 where
  content : IsLegalTree element → (names : Names) → AreGood ((within element).content names)
  inside : IsLegalTree element → (names : Names) → AreGood ((within element).inside names)

content_good : (names : Names) (nodes : List (Node Element)) → Each IsGoodElement (elems nodes) → Each IsLegalNode nodes → AreGood (content_of names (given nodes))
content_good names [] good legal = tt
content_good names (Inner element ∷ nodes) good legal =
    each_append IsGood ((within element).content names).raws (content_of names (given nodes)).raws (good.0.content legal.0 names) (content_good names nodes good.1 legal.1)
content_good names (Letter c ∷ nodes) good legal = (character_good [] c legal.0, content_good names nodes good legal.1)

own_legal : (nodes : List (Node Element)) → Each IsLegalNode nodes → Each IsLegal (own_text (given nodes))
own_legal [] legal = tt
own_legal (Inner element ∷ nodes) legal = own_legal nodes legal.1
own_legal (Letter c ∷ nodes) legal = (legal.0, own_legal nodes legal.1)

-- a span gives what it holds
module _ (names : Names) (attributes : List Attribute) (nodes : List (Node Gives)) where
  span_good : AreGood (content_of names nodes) → AreGood (span_content names attributes nodes)
  span_good good = by_value (value_of key.StyleName attributes) refl where
    by_reference : (text : List ℕ) (found : Option (List ℕ)) → value_of key.StyleName attributes ≡ Some text → style_reference names family.Text text ≡ found → AreGood (span_content names attributes nodes)
    by_reference text None e f = rw e (rw f good)
    by_reference text (Some name) e f = rw e (rw f good)

    by_value : (text : Option (List ℕ)) → value_of key.StyleName attributes ≡ text → AreGood (span_content names attributes nodes)
    by_value None e = rw e good
    by_value (Some text) e = by_reference text (style_reference names family.Text text) e refl

element_good : (which : Tag) (attributes : List Attribute) (nodes : List (Node Element)) (names : Names) → Each IsGoodElement (elems nodes) → Each IsLegalNode nodes → AreGood (element_content which attributes (given nodes) names)
element_good which attributes nodes names good legal = by_tag which where
  held : AreGood (content_of names (given nodes))
  held = content_good names nodes good legal

  other : (which : Tag) (a b c : Bool) → is_header_field which ≡ a
      → AreGood (cond a (kept_field which attributes (given nodes)) (cond b (stored_text which attributes (given nodes)) (cond c (no_content one_element) (content_with one_element (content_of names (given nodes))))))
  other which true b c e = field_good which attributes e
  other which false true c e = spaced_good (own_text (given nodes)) (own_legal nodes legal)
  other which false false true e = tt
  other which false false false e = held

  by_tag : (which : Tag) → AreGood (element_content which attributes (given nodes) names)
  by_tag tag.Span = span_good names attributes (given nodes) held
  by_tag tag.Spaces = spaces_good _
  by_tag tag.Tab = (tab_good, tt)
  by_tag tag.LineBreak = (break_good, tt)
  by_tag one = other one (is_header_field one) (is_field one) (is_not_kept one || is_dropped one) refl

-- every element
within_out : (element : Element) → within element ≡ record { content = element_content (tag_of element) (attributes_of element) (given (out-Element element).nodes); inside = λ names. content_of names (given (out-Element element).nodes) }
within_out element = fold_out-Element Within _ element

one_good : (element : Element) → Each IsGoodElement (elems (out-Element element).nodes) → IsGoodElement element
one_good element good = record {
  content = λ legal names. subst (λ (one : Within). AreGood (one.content names)) (sym (within_out element)) (element_good (tag_of element) (attributes_of element) (out-Element element).nodes names good (nodes_legal element legal));
  inside = λ legal names. subst (λ (one : Within). AreGood (one.inside names)) (sym (within_out element)) (content_good names (out-Element element).nodes good (nodes_legal element legal));
}

every_good : (element : Element) → IsGoodElement element
every_good = every IsGoodElement one_good

-- paragraphs of headers, and headers of masters
par_good : (names : Names) (element : Element) → IsLegalTree element → Each IsOfHeader (head_paragraph names element).items
par_good names element legal =
    each_map IsOfHeader (λ item. (out-Item item).what) (items_of_raw ((within element).inside names).raws) (items_good [] ((within element).inside names).raws ((every_good element).inside legal names))

each_take : {X : Type 0} (P : X → Type 0) (count : ℕ) (xs : List X) → Each P xs → Each P (take count xs)
each_take P zero xs each = tt
each_take P (suc count) [] each = tt
each_take P (suc count) (x ∷ xs) each = (each.0, each_take P count xs each.1)

abbrev AreAll : List HeadPar → Type 0
AreAll pars = Each (λ (par : HeadPar). Each IsOfHeader par.items) pars

header_good : (names : Names) (header : Element) → IsLegalTree header → AreAll (map (head_paragraph names) (head_elements header))
header_good names header legal =
    each_map (λ (par : HeadPar). Each IsOfHeader par.items) (head_paragraph names) (head_elements header)
    (each_so IsLegalTree (λ element. Each IsOfHeader (head_paragraph names element).items) (λ element own. par_good names element own) (head_elements header)
    (each_take IsLegalTree 16 _ (each_filter IsLegalTree _ (children header) (children_legal header legal))))

head_good : (names : Names) (which : Tag) (master : Element) → IsLegalTree master → AreAll (head.head_paragraphs names which master)
head_good names which master legal =
    each_flat (λ (par : HeadPar). Each IsOfHeader par.items) (λ header. map (head_paragraph names) (head_elements header)) (option_to_list (head_of which master))
    (each_so IsLegalTree (λ header. AreAll (map (head_paragraph names) (head_elements header))) (λ header own. header_good names header own) (option_to_list (head_of which master))
    (each_found IsLegalTree (is which) (children master) (children_legal master legal)))

-- at most sixteen paragraphs
few_in : (names : Names) (header : Element) → length (map (head_paragraph names) (head_elements header)) ≤ 16
few_in names header =
    let all = filter head.is_paragraph (children header) in
    let one : length (map (head_paragraph names) (head_elements header)) ≡ length (take 16 all) = length-map (take 16 all) (head_paragraph names) in
    let two : length (take 16 all) ≡ min 16 (length all) = length-take 16 all in
    omega (arith, one, two)

few_by : (names : Names) (found : Option Element) → length (flat_map (λ header. map (head_paragraph names) (head_elements header)) (option_to_list found)) ≤ 16
few_by names None = omega arith
few_by names (Some header) = subst (λ (pars : List HeadPar). length pars ≤ 16) (sym (append-nil (map (head_paragraph names) (head_elements header)))) (few_in names header)

module _ (root : Element) (legal : IsLegalTree root) where
  abbrev names : Names
  names = names_of root

  found_legal : (found : Option Element) → Each IsLegalTree (option_to_list found) → Each IsLegalTree (option_map_or children found [])
  found_legal None each = tt
  found_legal (Some part) each = children_legal part each.0

  pub masters_legal : Each IsLegalTree (kept_masters root)
  masters_legal =
      each_firsts IsLegalTree _ _ (each_filter IsLegalTree _ (masters_in root)
      (found_legal (first tag.MasterStyles (children root)) (each_found IsLegalTree (is tag.MasterStyles) (children root) (children_legal root legal))))

  of_masters : (P : Master → Type 0) → ((element : Element) (name : List ℕ) → IsLegalTree element → P (master_of names element name)) → Each P (masters names root)
  of_masters P all =
      each_flat P (λ element. map (master_of names element) (own_name element)) (kept_masters root)
      (each_so IsLegalTree (λ element. Each P (map (master_of names element) (own_name element)))
      (λ element own. each_map P (master_of names element) (own_name element) (each_all (λ name. P (master_of names element name)) (λ name. all element name own) (own_name element))) (kept_masters root) masters_legal)

  pub headers_valid : AreHeadersValid (draft_of root)
  headers_valid = record {
    headers = of_masters (λ master. (length master.header ≤ 16) × (length master.footer ≤ 16)) (λ element name own. (few_by names (head_of tag.Header element), few_by names (head_of tag.Footer element)));
    header_items = each_flat (λ (par : HeadPar). Each IsOfHeader par.items) (λ master. master.header ++ master.footer) (masters names root)
        (of_masters (λ master. AreAll (master.header ++ master.footer))
        (λ element name own. each_append (λ (par : HeadPar). Each IsOfHeader par.items) (head.head_paragraphs names tag.Header element) (head.head_paragraphs names tag.Footer element) (head_good names tag.Header element own) (head_good names tag.Footer element own)));
  }
