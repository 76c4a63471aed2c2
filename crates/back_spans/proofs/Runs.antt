-- Spans round runs of neighbours.
use Rattle.std.proofs.Common.{◌≡◌, ℕ, ◌+◌, ◌≤◌, zero, suc, Bool, true, false, cond, List, [], ◌∷◌, ◌++◌, map, length, length-append, codes, refl, sym, ap, ap₂, ◌∙◌, subst, append_assoc, append-nil, arith, Option, Some, None}
use Rattle.std.specs.Prelude.{nat_lt, max, fold, is_some}
use Rattle.std.specs.List.{flat_map, AllByRecursion as Each}
use Rattle.std.proofs.lemmas.Bool.Decides.{nat_tests}
use Rattle.std.proofs.lemmas.Grind.{flat_map-append}
use Rattle.std.proofs.lemmas.Slice.Eq.{bytes_eq-Decides}
use Rattle.markup_nodes.specs.declared.tree.Elem.{Elem}
use Rattle.markup_nodes.specs.Node.{Node}
use Rattle.doc_model.specs.declared.style.Family.TheVariants as family
use Rattle.load_model.specs.declared.names.Key.TheVariants as key
use Rattle.load_model.specs.declared.names.Tag.TheVariants as tag
use Rattle.load_model.specs.Blocks.{Around, ReadContent, content_of, content_with, left_by, node_content, one_element}
use Rattle.load_model.specs.Content.{Raw}
use Rattle.load_model.specs.Left.{Left, only_attributes}
use Rattle.load_model.specs.Names.{known_tags, known_keys}
use Rattle.load_model.specs.Styles.{Names, style_reference}
use Rattle.load_model.specs.Values.{rule}
use Rattle.written_model.specs.Content.{Spanned, Run, outermost_of, within, is_same_span, in_front_of, runs_of, span_element, of_run, in_spans, span_depth}
use Rattle.written_model.specs.Elements.{attribute}
use Rattle.spelling_model.specs.Spelling.{is_there}
use Rattle.back_names.specs.Named.{tag_named, key_named}
use Rattle.back_fields.specs.Given.{given, whole}
use Rattle.back_fields.proofs.Attributes.{at, named_first, left_first}
use Rattle.back_fields.proofs.Fields.{element_read}
use Rattle.back_spans.specs.Spans.{deeper, read_in, IsTextStyle, IsIn}
use Rattle.back_spans.proofs.InOrder.{Reads, reads_one, reads_append, reads_first}

span_tag : tag_named (codes "text:span") ≡ tag.Span
unfolding tag_named known_tags
span_tag = refl

pub style_name_key : key_named (codes "text:style-name") ≡ key.StyleName
unfolding key_named known_keys
style_name_key = refl

-- a node of a run with its outermost span again, and all of them
abbrev put : Option (List ℕ) → Spanned → Spanned
put None node = record { spans = []; node = node.node }
put (Some name) node = record { spans = name ∷ node.spans; node = node.node }

abbrev restored : Run → List Spanned
restored run = map (put run.outermost) run.inside

abbrev inner : Spanned → Spanned
inner node = record { spans = within node.spans; node = node.node }

put_back : (spans : List (List ℕ)) (node : Node Elem) → put (outermost_of spans) (record { spans = within spans; node = node }) ≡ record { spans = spans; node = node }
put_back [] node = refl
put_back (name ∷ names) node = refl

same_span : (a b : Option (List ℕ)) → is_same_span a b ≡ true → b ≡ a
same_span None None e = refl
same_span (Some name) (Some other) e = ap (λ (n : List ℕ). Some n) (sym ((bytes_eq-Decides name other).0 e))
same_span None (Some other) e = cc
same_span (Some name) None e = cc

front_restored : (node : Spanned) (runs : List Run) → flat_map restored (in_front_of node runs) ≡ node ∷ flat_map restored runs
front_restored node [] = ap (λ (one : Spanned). one ∷ []) (put_back node.spans node.node)
front_restored node (run ∷ runs) = by_test (is_same_span (outermost_of node.spans) run.outermost) refl where
  by_test : (same : Bool) → is_same_span (outermost_of node.spans) run.outermost ≡ same → flat_map restored (in_front_of node (run ∷ runs)) ≡ node ∷ flat_map restored (run ∷ runs)
  by_test true e =
      ap (λ (b : Bool). flat_map restored (cond b (record { outermost = run.outermost; inside = inner node ∷ run.inside } ∷ runs) (record { outermost = outermost_of node.spans; inside = inner node ∷ [] } ∷ run ∷ runs))) e
      ∙ ap (λ (one : Spanned). one ∷ flat_map restored (run ∷ runs)) (ap (λ (span : Option (List ℕ)). put span (inner node)) (same_span (outermost_of node.spans) run.outermost e) ∙ put_back node.spans node.node)
  by_test false e =
      ap (λ (b : Bool). flat_map restored (cond b (record { outermost = run.outermost; inside = inner node ∷ run.inside } ∷ runs) (record { outermost = outermost_of node.spans; inside = inner node ∷ [] } ∷ run ∷ runs))) e
      ∙ ap (λ (one : Spanned). one ∷ flat_map restored (run ∷ runs)) (put_back node.spans node.node)

all_restored : (nodes : List Spanned) → flat_map restored (runs_of nodes) ≡ nodes
all_restored [] = refl
all_restored (node ∷ nodes) = front_restored node (runs_of nodes) ∙ ap (λ (more : List Spanned). node ∷ more) (all_restored nodes)

-- each run holds something
abbrev AreFilled : List Run → Type 0
AreFilled = Each (λ run. is_there run.inside ≡ true)

front_filled : (node : Spanned) (runs : List Run) → AreFilled runs → AreFilled (in_front_of node runs)
front_filled node [] filled = (refl, tt)
front_filled node (run ∷ runs) filled = by_test (is_same_span (outermost_of node.spans) run.outermost) where
  by_test : (same : Bool) → AreFilled (cond same (record { outermost = run.outermost; inside = inner node ∷ run.inside } ∷ runs) (record { outermost = outermost_of node.spans; inside = inner node ∷ [] } ∷ run ∷ runs))
  by_test true = (refl, filled.1)
  by_test false = (refl, filled)

all_filled : (nodes : List Spanned) → AreFilled (runs_of nodes)
all_filled [] = tt
all_filled (node ∷ nodes) = front_filled node (runs_of nodes) (all_filled nodes)

pub each_both : {X : Type 0} (P : X → Type 0) (xs ys : List X) → Each P (xs ++ ys) → Each P xs × Each P ys
each_both P [] ys each = (tt, each)
each_both P (x ∷ xs) ys each = let rest = each_both P xs ys each.1 in ((each.0, rest.0), rest.1)

module _ (names : Names) where
  -- what is asked of nodes in at most so many spans
  abbrev Fits : ℕ → Around → Spanned → Type 0
  Fits depth around node = (length node.spans ≤ depth) × IsIn names around node

  abbrev raws_in : Around → Spanned → List Raw
  raws_in around node = (read_in names around node).raws

  -- a node in no further span
  bare_one : (around : Around) (node : Node Elem) → IsIn names around (record { spans = []; node = node }) → node_content around (given names node) ≡ whole (raws_in around (record { spans = []; node = node }))
  bare_one around node is =
      ap (λ (spans : List (List ℕ)). node_content (record around { spans = spans }) (given names node)) (sym (append-nil around.spans))
      ∙ ap (λ (left : Left). record { raws = raws_in around (record { spans = []; node = node }); left = left }) is.none

  bare_run : (around : Around) (inside : List Spanned) → Each (IsIn names around) (map (put None) inside) → Reads names around (map (λ node. node.node) inside) (flat_map (raws_in around) (map (put None) inside))
  bare_run around [] each = refl
  bare_run around (node ∷ nodes) each =
      reads_first names around node.node (map (λ node. node.node) nodes) (raws_in around (put None node)) (flat_map (raws_in around) (map (put None) nodes)) (bare_one around node.node each.0) (bare_run around nodes each.1)

  -- a span
  span_read : (around : Around) (name : List ℕ) (nodes : List (Node Elem)) (raws : List Raw) → IsTextStyle names name → length around.spans + 1 ≤ 8 → Reads names (deeper around (name ∷ [])) nodes raws
      → node_content around (given names (span_element name nodes)) ≡ whole raws
  span_read around name nodes raws style few held =
      let room : nat_lt (length around.spans) 8 ≡ true = grind (arith, nat_tests, few) in
      let good : is_some (style_reference names family.Text name) ≡ true = ap is_some style in
      element_read names around (codes "text:span") (attribute (codes "text:style-name") name ∷ []) nodes tag.Span (at key.StyleName name ∷ []) span_tag (named_first (codes "text:style-name") name key.StyleName [] [] style_name_key refl)
      ∙ ap by_reference style ∙ ap by_room room
      ∙ ap₂ (λ (left : Left) (content : ReadContent). content_with left content) (left_first (rule key.StyleName (style_reference names family.Text) ∷ []) (at key.StyleName name) [] good refl) held where
        inside : List ℕ → ReadContent
        inside one = content_with (left_by (rule key.StyleName (style_reference names family.Text) ∷ []) (at key.StyleName name ∷ [])) (content_of (deeper around (one ∷ [])) (map (given names) nodes))

        by_room : Bool → ReadContent
        by_room room = cond room (inside name) (content_with one_element (content_of around (map (given names) nodes)))

        by_reference : Option (List ℕ) → ReadContent
        by_reference None = content_with (only_attributes 1) (content_of around (map (given names) nodes))
        by_reference (Some one) = cond (nat_lt (length around.spans) 8) (inside one) (content_with one_element (content_of around (map (given names) nodes)))

  -- nodes of a run in its span
  moved : (around : Around) (name : List ℕ) (node : Spanned) → read_in names (deeper around (name ∷ [])) node ≡ read_in names around (put (Some name) node)
  moved around name node = ap (λ (spans : List (List ℕ)). node_content (record around { spans = spans }) (given names node.node)) (append_assoc around.spans (name ∷ []) node.spans)

  moved_in : (depth : ℕ) (around : Around) (name : List ℕ) (node : Spanned) → Fits (suc depth) around (put (Some name) node) → Fits depth (deeper around (name ∷ [])) node
  moved_in depth around name node fits =
      let few : length (around.spans ++ name ∷ []) + length node.spans ≤ 8 = omega (arith, length-append around.spans (name ∷ []), fits.1.few) in
      (omega (arith, fits.0), record { styles = fits.1.styles.1; few = few; none = ap (λ (content : ReadContent). content.left) (moved around name node) ∙ fits.1.none })

  all_moved_in : (depth : ℕ) (around : Around) (name : List ℕ) (nodes : List Spanned) → Each (Fits (suc depth) around) (map (put (Some name)) nodes) → Each (Fits depth (deeper around (name ∷ []))) nodes
  all_moved_in depth around name [] each = tt
  all_moved_in depth around name (node ∷ nodes) each = (moved_in depth around name node each.0, all_moved_in depth around name nodes each.1)

  all_moved : (around : Around) (name : List ℕ) (nodes : List Spanned) → flat_map (raws_in (deeper around (name ∷ []))) nodes ≡ flat_map (raws_in around) (map (put (Some name)) nodes)
  all_moved around name [] = refl
  all_moved around name (node ∷ nodes) = ap₂ (λ (front back : List Raw). front ++ back) (ap (λ (content : ReadContent). content.raws) (moved around name node)) (all_moved around name nodes)

  only_in : (depth : ℕ) (around : Around) (nodes : List Spanned) → Each (Fits depth around) nodes → Each (IsIn names around) nodes
  only_in depth around [] each = tt
  only_in depth around (node ∷ nodes) each = (each.0.1, only_in depth around nodes each.1)

  -- what is said of all nodes in at most so many spans
  abbrev AreRead : ℕ → Type 0
  AreRead depth = (around : Around) (nodes : List Spanned) → Each (Fits depth around) nodes → Reads names around (in_spans depth nodes) (flat_map (raws_in around) nodes)

  run_read : (depth : ℕ) → AreRead depth → (around : Around) (span : Option (List ℕ)) (inside : List Spanned) → is_there inside ≡ true → Each (Fits (suc depth) around) (map (put span) inside)
      → Reads names around (of_run (in_spans depth) (record { outermost = span; inside = inside })) (flat_map (raws_in around) (map (put span) inside))
  run_read depth read around None inside there each = bare_run around inside (only_in (suc depth) around (map (put None) inside) each)
  run_read depth read around (Some name) [] there each = cc
  run_read depth read around (Some name) (node ∷ nodes) there each =
      let few : length around.spans + 1 ≤ 8 = omega (arith, each.0.1.few) in
      reads_one names around (span_element name (in_spans depth (node ∷ nodes))) (flat_map (raws_in around) (map (put (Some name)) (node ∷ nodes)))
      (span_read around name (in_spans depth (node ∷ nodes)) (flat_map (raws_in around) (map (put (Some name)) (node ∷ nodes))) each.0.1.styles.0 few
      (read (deeper around (name ∷ [])) (node ∷ nodes) (all_moved_in depth around name (node ∷ nodes) each) ∙ ap whole (all_moved around name (node ∷ nodes))))

  runs_read : (depth : ℕ) → AreRead depth → (around : Around) (runs : List Run) → AreFilled runs → Each (Fits (suc depth) around) (flat_map restored runs)
      → Reads names around (flat_map (of_run (in_spans depth)) runs) (flat_map (raws_in around) (flat_map restored runs))
  runs_read depth read around [] filled each = refl
  runs_read depth read around (run ∷ runs) filled each =
      let parts = each_both (Fits (suc depth) around) (restored run) (flat_map restored runs) each in
      reads_append names around (of_run (in_spans depth) run) (flat_map (of_run (in_spans depth)) runs) (flat_map (raws_in around) (restored run)) (flat_map (raws_in around) (flat_map restored runs))
      (run_read depth read around run.outermost run.inside filled.0 parts.0) (runs_read depth read around runs filled.1 parts.1)
      ∙ ap whole (sym (flat_map-append (raws_in around) (restored run) (flat_map restored runs)))

  none_read : (around : Around) (nodes : List Spanned) → Each (Fits 0 around) nodes → Reads names around (map (λ node. node.node) nodes) (flat_map (raws_in around) nodes)
  none_read around [] each = refl
  none_read around (node ∷ nodes) each =
      reads_first names around node.node (map (λ node. node.node) nodes) (raws_in around node) (flat_map (raws_in around) nodes) (by_spans node.spans node.node each.0) (none_read around nodes each.1) where
        by_spans : (spans : List (List ℕ)) (here : Node Elem) → Fits 0 around (record { spans = spans; node = here }) → node_content around (given names here) ≡ whole (raws_in around (record { spans = spans; node = here }))
        by_spans [] here fits = bare_one around here fits.1
        by_spans (name ∷ more) here fits = absurd (omega (arith, fits.0))

  spans_read : (depth : ℕ) → AreRead depth
  spans_read zero around nodes each = none_read around nodes each
  spans_read (suc depth) around nodes each =
      runs_read depth (spans_read depth) around (runs_of nodes) (all_filled nodes) (subst (λ (all : List Spanned). Each (Fits (suc depth) around) all) (sym (all_restored nodes)) each)
      ∙ ap (λ (all : List Spanned). whole (flat_map (raws_in around) all)) (all_restored nodes)

  -- all stand in at most as many spans as the deepest
  most : (a b : ℕ) (around : Around) (nodes : List Spanned) → fold max a (map (λ node. length node.spans) nodes) ≤ b → Each (IsIn names around) nodes → (a ≤ b) × Each (Fits b around) nodes
  most a b around [] h each = (h, tt)
  most a b around (node ∷ nodes) h each = let rest = most (max a (length node.spans)) b around nodes h each.1 in (omega (arith, rest.0), ((omega (arith, rest.0), each.0), rest.1))

  pub nodes_read : (around : Around) (nodes : List Spanned) → Each (IsIn names around) nodes → Reads names around (in_spans (span_depth nodes) nodes) (flat_map (raws_in around) nodes)
  nodes_read around nodes each = spans_read (span_depth nodes) around nodes (most 0 (span_depth nodes) around nodes (omega arith) each).1
