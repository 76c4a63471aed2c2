-- Spans come to tags between neighbours.
use Rattle.std.proofs.Common.{◌≡◌, ◌≤◌, ℕ, Bool, true, false, List, [], ◌∷◌, ◌++◌, length, codes, map, fold, max, refl, ap, sym, ◌∙◌, subst, append_assoc, Option, Some, None, zero, suc, arith}
use Rattle.std.specs.Prelude.{if◌then◌else◌}
use Rattle.std.proofs.lemmas.List.{append-nil}
use Rattle.std.proofs.lemmas.Grind.{flat_map-append}
use Rattle.std.specs.List.{flat_map, AllByRecursion as Each}
use Rattle.std.specs.Str.{bytes_eq}
use Rattle.markup_nodes.specs.declared.tree.Elem.{Elem}
use Rattle.markup_nodes.specs.Node.{Node}
use Rattle.tree_text.specs.Writing.{tag_text, child_text, content_text}
use Rattle.tree_text.proofs.ConstructsWritten.{bytes_same}
use Rattle.spelling_model.specs.Spelling.{is_there}
use Rattle.value_write.proofs.ElementLemmas.{filled_text}
use Rattle.written_model.specs.Elements.{attribute}
use Rattle.written_model.specs.Content.{Spanned, Run, outermost_of, within, is_same_span, in_front_of, runs_of, span_element, of_run, in_spans, span_depth}
use Rattle.content_write.specs.Rest.{span_start, span_end, starts, ends, tags}
use Rattle.content_write.proofs.TextLemmas.{bytes_are}

-- nodes from front to back
abbrev pub walked : List (List ℕ) → List Spanned → List ℕ
walked around [] = tags around []
walked around (node ∷ nodes) = tags around node.spans ++ (child_text node.node ++ walked node.spans nodes)

-- the node within its outermost span
abbrev inner : Spanned → Spanned
inner node = record { spans = within node.spans; node = node.node }

abbrev bare_text : List Spanned → List ℕ
bare_text nodes = content_text (map (λ node. node.node) nodes)

-- the text of a run
abbrev text_in : Option (List ℕ) → List Spanned → List ℕ
text_in None inside = bare_text inside
text_in (Some name) inside = span_start name ++ (walked [] inside ++ span_end)

abbrev texts : List Run → List ℕ
texts = flat_map (λ run. text_in run.outermost run.inside)

-- the first run where it stands in this outermost span, and the runs behind it
abbrev joined : Option (List ℕ) → List Run → List Spanned
joined span [] = []
joined span (run ∷ runs) = if is_same_span span run.outermost then run.inside else []

abbrev apart : Option (List ℕ) → List Run → List Run
apart span [] = []
apart span (run ∷ runs) = if is_same_span span run.outermost then runs else run ∷ runs

same_span : (a b : Option (List ℕ)) → is_same_span a b ≡ true → b ≡ a
same_span None None e = refl
same_span (Some name) (Some other) e = ap (λ (n : List ℕ). Some n) (sym (bytes_are name other e))
same_span None (Some other) e = cc
same_span (Some name) None e = cc

front_is : (node : Spanned) (runs : List Run)
    → in_front_of node runs ≡ record { outermost = outermost_of node.spans; inside = inner node ∷ joined (outermost_of node.spans) runs } ∷ apart (outermost_of node.spans) runs
front_is node [] = refl
front_is node (run ∷ runs) = by_test (is_same_span (outermost_of node.spans) run.outermost) refl where
  by_test : (same : Bool) → is_same_span (outermost_of node.spans) run.outermost ≡ same
      → in_front_of node (run ∷ runs) ≡ record { outermost = outermost_of node.spans; inside = inner node ∷ joined (outermost_of node.spans) (run ∷ runs) } ∷ apart (outermost_of node.spans) (run ∷ runs)
  by_test true e = rw e (ap (λ (span : Option (List ℕ)). record { outermost = span; inside = inner node ∷ run.inside } ∷ runs) (same_span (outermost_of node.spans) run.outermost e))
  by_test false e = rw e refl

-- a run without span, then the others
bare_first : (runs : List Run) → bare_text (joined None runs) ++ texts (apart None runs) ≡ texts runs
bare_first [] = refl
bare_first (run ∷ runs) = by_span run.outermost run.inside where
  by_span : (span : Option (List ℕ)) (inside : List Spanned) →
      let first : Run = record { outermost = span; inside = inside } in bare_text (joined None (first ∷ runs)) ++ texts (apart None (first ∷ runs)) ≡ texts (first ∷ runs)
  by_span None inside = refl
  by_span (Some name) inside = refl

-- what is left to write in a span that is open, with those within it that are open
abbrev left_in : List ℕ → List (List ℕ) → List Run → List ℕ
left_in name around runs = walked around (joined (Some name) runs) ++ (span_end ++ texts (apart (Some name) runs))

three_parts : (a b c d : List ℕ) → a ++ (b ++ (c ++ d)) ≡ (a ++ (b ++ c)) ++ d
three_parts a b c d = ap (λ (t : List ℕ). a ++ t) (sym (append_assoc b c d)) ∙ sym (append_assoc a (b ++ c) d)

-- a node in the text of its runs
node_in_run : (name : List ℕ) (names : List (List ℕ)) (node : Node Elem) (runs : List Run)
    → texts (in_front_of (record { spans = name ∷ names; node = node }) runs) ≡ starts (name ∷ names) ++ (child_text node ++ left_in name names runs)
node_in_run name names node runs =
    let first : Spanned = record { spans = name ∷ names; node = node } in
    let held = walked names (joined (Some name) runs) in
    let behind = texts (apart (Some name) runs) in
    ap texts (front_is first runs)
    ∙ (append_assoc (span_start name) ((starts names ++ (child_text node ++ held)) ++ span_end) behind
    ∙ (ap (λ (t : List ℕ). span_start name ++ t) (append_assoc (starts names ++ (child_text node ++ held)) span_end behind ∙ sym (three_parts (starts names) (child_text node) held (span_end ++ behind)))
    ∙ sym (append_assoc (span_start name) (starts names) (child_text node ++ left_in name names runs))))

bare_in_run : (node : Node Elem) (runs : List Run) → texts (in_front_of (record { spans = []; node = node }) runs) ≡ child_text node ++ texts runs
bare_in_run node runs =
    ap texts (front_is (record { spans = []; node = node }) runs)
    ∙ (append_assoc (child_text node) (bare_text (joined None runs)) (texts (apart None runs)) ∙ ap (λ (t : List ℕ). child_text node ++ t) (bare_first runs))

-- a node behind an open span: in it too, or not
goes_on : (name : List ℕ) (around names : List (List ℕ)) (node : Node Elem) (runs : List Run)
    → left_in name around (in_front_of (record { spans = name ∷ names; node = node }) runs) ≡ tags around names ++ (child_text node ++ left_in name names runs)
goes_on name around names node runs =
    let first : Spanned = record { spans = name ∷ names; node = node } in
    let behind = texts (apart (Some name) runs) in
    ap (left_in name around) (front_is first runs)
    ∙ rw (bytes_same name) (sym (three_parts (tags around names) (child_text node) (walked names (joined (Some name) runs)) (span_end ++ behind)))

stops : (name : List ℕ) (around : List (List ℕ)) (node : Spanned) (runs : List Run) → is_same_span (Some name) (outermost_of node.spans) ≡ false
    → left_in name around (in_front_of node runs) ≡ tags around [] ++ (span_end ++ texts (in_front_of node runs))
stops name around node runs e = rw (front_is node runs) (rw e refl)

-- the tags of open spans come to as many ends
pub ends_all : (names : List (List ℕ)) → tags names [] ≡ ends names
ends_all [] = refl
ends_all (name ∷ names) = refl

end_behind : (end : List ℕ) (names : List (List ℕ)) → end ++ flat_map (λ (name : List ℕ). end) names ≡ flat_map (λ (name : List ℕ). end) names ++ end
end_behind end [] = append-nil end
end_behind end (name ∷ names) = ap (λ (t : List ℕ). end ++ t) (end_behind end names) ∙ sym (append_assoc end (flat_map (λ (name : List ℕ). end) names) end)

-- all open spans end before what stands in none
all_end : (name : List ℕ) (around : List (List ℕ)) (text : List ℕ) → ends (name ∷ around) ++ text ≡ tags around [] ++ (span_end ++ text)
all_end name around text =
    ap (λ (t : List ℕ). t ++ text) (end_behind span_end around) ∙ (append_assoc (ends around) span_end text ∙ ap (λ (t : List ℕ). t ++ (span_end ++ text)) (sym (ends_all around)))

-- nodes from front to back are the text of their runs, behind no span and behind one
abbrev IsWalked : List Spanned → Type 0
IsWalked nodes = (texts (runs_of nodes) ≡ walked [] nodes) × ((name : List ℕ) (around : List (List ℕ)) → walked (name ∷ around) nodes ≡ left_in name around (runs_of nodes))

bare_walked : (node : Node Elem) (nodes : List Spanned) → IsWalked nodes → IsWalked (record { spans = []; node = node } ∷ nodes)
bare_walked node nodes h =
    let runs = runs_of nodes in
    let first : Spanned = record { spans = []; node = node } in
    let whole : texts (in_front_of first runs) ≡ child_text node ++ walked [] nodes = bare_in_run node runs ∙ ap (λ (t : List ℕ). child_text node ++ t) h.0 in (
      whole,
      λ name around.
          all_end name around (child_text node ++ walked [] nodes)
          ∙ (ap (λ (t : List ℕ). tags around [] ++ (span_end ++ t)) (sym whole) ∙ sym (stops name around first runs refl)),
    )

spanned_walked : (name : List ℕ) (names : List (List ℕ)) (node : Node Elem) (nodes : List Spanned) → IsWalked nodes → IsWalked (record { spans = name ∷ names; node = node } ∷ nodes)
spanned_walked name names node nodes h = (whole, λ before around. by_test before around (bytes_eq before name) refl) where
  first : Spanned
  first = record { spans = name ∷ names; node = node }

  left : child_text node ++ walked (name ∷ names) nodes ≡ child_text node ++ left_in name names (runs_of nodes)
  left = ap (λ (t : List ℕ). child_text node ++ t) (h.1 name names)

  whole : texts (in_front_of first (runs_of nodes)) ≡ walked [] (first ∷ nodes)
  whole = node_in_run name names node (runs_of nodes) ∙ ap (λ (t : List ℕ). starts (name ∷ names) ++ t) (sym left)

  by_test : (before : List ℕ) (around : List (List ℕ)) (same : Bool) → bytes_eq before name ≡ same → walked (before ∷ around) (first ∷ nodes) ≡ left_in before around (in_front_of first (runs_of nodes))
  by_test before around true e =
      rw e (ap (λ (t : List ℕ). tags around names ++ t) left
      ∙ (sym (goes_on name around names node (runs_of nodes)) ∙ ap (λ (n : List ℕ). left_in n around (in_front_of first (runs_of nodes))) (sym (bytes_are before name e))))
  by_test before around false e =
      rw e (append_assoc (ends (before ∷ around)) (starts (name ∷ names)) (child_text node ++ walked (name ∷ names) nodes)
      ∙ (all_end before around (starts (name ∷ names) ++ (child_text node ++ walked (name ∷ names) nodes))
      ∙ (ap (λ (t : List ℕ). tags around [] ++ (span_end ++ t)) (sym whole) ∙ sym (stops before around first (runs_of nodes) e))))

runs_walked : (nodes : List Spanned) → IsWalked nodes
runs_walked [] = (refl, λ name around. sym (append-nil (ends (name ∷ around))) ∙ all_end name around [])
runs_walked (node ∷ nodes) = by_spans node.spans node.node (runs_walked nodes) where
  by_spans : (spans : List (List ℕ)) (here : Node Elem) → IsWalked nodes → IsWalked (record { spans = spans; node = here } ∷ nodes)
  by_spans [] here h = bare_walked here nodes h
  by_spans (name ∷ names) here h = spanned_walked name names here nodes h

-- nodes that stand in at most so many spans
abbrev Within : ℕ → List Spanned → Type 0
Within depth = Each (λ node. length node.spans ≤ depth)

-- a run holds something, in at most so many spans
abbrev IsRun : ℕ → Run → Type 0
IsRun depth run = (is_there run.inside ≡ true) × Within depth run.inside

inner_within : (depth : ℕ) (spans : List (List ℕ)) → length spans ≤ suc depth → length (within spans) ≤ depth
inner_within depth [] h = omega arith
inner_within depth (name ∷ names) h = omega arith

joined_within : (depth : ℕ) (span : Option (List ℕ)) (runs : List Run) → Each (IsRun depth) runs → Within depth (joined span runs)
joined_within depth span [] h = tt
joined_within depth span (run ∷ runs) h = by_test (is_same_span span run.outermost) where
  by_test : (same : Bool) → Within depth (if same then run.inside else [])
  by_test true = h.0.1
  by_test false = tt

apart_within : (depth : ℕ) (span : Option (List ℕ)) (runs : List Run) → Each (IsRun depth) runs → Each (IsRun depth) (apart span runs)
apart_within depth span [] h = tt
apart_within depth span (run ∷ runs) h = by_test (is_same_span span run.outermost) where
  by_test : (same : Bool) → Each (IsRun depth) (if same then runs else run ∷ runs)
  by_test true = h.1
  by_test false = h

are_runs : (depth : ℕ) (nodes : List Spanned) → Within (suc depth) nodes → Each (IsRun depth) (runs_of nodes)
are_runs depth [] h = tt
are_runs depth (node ∷ nodes) h =
    let runs = runs_of nodes in
    let here = are_runs depth nodes h.1 in
    let span = outermost_of node.spans in
    subst (λ (rs : List Run). Each (IsRun depth) rs) (sym (front_is node runs))
    ((refl, (inner_within depth node.spans h.0, joined_within depth span runs here)), apart_within depth span runs here)

-- something in spans is something
pub in_spans_there : (depth : ℕ) (node : Spanned) (nodes : List Spanned) → is_there (in_spans depth (node ∷ nodes)) ≡ true
in_spans_there zero node nodes = refl
in_spans_there (suc depth) node nodes = rw (front_is node (runs_of nodes)) (by_span (outermost_of node.spans) (joined (outermost_of node.spans) (runs_of nodes)) (apart (outermost_of node.spans) (runs_of nodes))) where
  by_span : (span : Option (List ℕ)) (others : List Spanned) (runs : List Run) → is_there (of_run (in_spans depth) (record { outermost = span; inside = inner node ∷ others }) ++ flat_map (of_run (in_spans depth)) runs) ≡ true
  by_span None others runs = refl
  by_span (Some name) others runs = refl

span_text : (name : List ℕ) (nodes : List (Node Elem)) → is_there nodes ≡ true → child_text (span_element name nodes) ≡ span_start name ++ (content_text nodes ++ span_end)
span_text name [] e = cc
span_text name (node ∷ nodes) e =
    filled_text (codes "text:span") (attribute (codes "text:style-name") name ∷ []) node nodes
    ∙ sym (append_assoc (tag_text (codes "text:span") (attribute (codes "text:style-name") name ∷ [])) (codes ">") (content_text (node ∷ nodes) ++ span_end))

-- what is said of all that stand in at most so many spans
abbrev AreWritten : ℕ → Type 0
AreWritten depth = (nodes : List Spanned) → Within depth nodes → content_text (in_spans depth nodes) ≡ walked [] nodes

run_written : (depth : ℕ) → AreWritten depth → (run : Run) → IsRun depth run → content_text (of_run (in_spans depth) run) ≡ text_in run.outermost run.inside
run_written depth written run h = by_span run.outermost run.inside h where
  by_span : (span : Option (List ℕ)) (inside : List Spanned) → (is_there inside ≡ true) × Within depth inside → content_text (of_run (in_spans depth) (record { outermost = span; inside = inside })) ≡ text_in span inside
  by_span None inside h = refl
  by_span (Some name) [] h = cc
  by_span (Some name) (node ∷ nodes) h =
      append-nil (child_text (span_element name (in_spans depth (node ∷ nodes))))
      ∙ (span_text name (in_spans depth (node ∷ nodes)) (in_spans_there depth node nodes) ∙ ap (λ (t : List ℕ). span_start name ++ (t ++ span_end)) (written (node ∷ nodes) h.1))

runs_written : (depth : ℕ) → AreWritten depth → (runs : List Run) → Each (IsRun depth) runs → content_text (flat_map (of_run (in_spans depth)) runs) ≡ texts runs
runs_written depth written [] h = refl
runs_written depth written (run ∷ runs) h =
    flat_map-append child_text (of_run (in_spans depth) run) (flat_map (of_run (in_spans depth)) runs)
    ∙ (ap (λ (t : List ℕ). t ++ content_text (flat_map (of_run (in_spans depth)) runs)) (run_written depth written run h.0)
    ∙ ap (λ (t : List ℕ). text_in run.outermost run.inside ++ t) (runs_written depth written runs h.1))

none_written : (nodes : List Spanned) → Within 0 nodes → bare_text nodes ≡ walked [] nodes
none_written [] h = refl
none_written (node ∷ nodes) h = by_spans node.spans h.0 (none_written nodes h.1) where
  by_spans : (spans : List (List ℕ)) → length spans ≤ 0 → bare_text nodes ≡ walked [] nodes → child_text node.node ++ bare_text nodes ≡ walked [] (record { spans = spans; node = node.node } ∷ nodes)
  by_spans [] h e = ap (λ (t : List ℕ). child_text node.node ++ t) e
  by_spans (name ∷ names) h e = absurd (omega arith)

spans_written : (depth : ℕ) → AreWritten depth
spans_written zero nodes h = none_written nodes h
spans_written (suc depth) nodes h = runs_written depth (spans_written depth) (runs_of nodes) (are_runs depth nodes h) ∙ (runs_walked nodes).0

fold_max : (a b : ℕ) (nodes : List Spanned) → fold max a (map (λ node. length node.spans) nodes) ≤ b → (a ≤ b) × Within b nodes
fold_max a b [] h = (h, tt)
fold_max a b (node ∷ nodes) h = let rest = fold_max (max a (length node.spans)) b nodes h in (omega (arith, rest.0), (omega (arith, rest.0), rest.1))

-- nodes in their spans, from front to back
pub nodes_written : (nodes : List Spanned) → content_text (in_spans (span_depth nodes) nodes) ≡ walked [] nodes
nodes_written nodes = spans_written (span_depth nodes) nodes (fold_max 0 (span_depth nodes) nodes (omega arith)).1
