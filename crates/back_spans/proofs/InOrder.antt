-- What is read one after another.
use Rattle.std.proofs.Common.{◌≡◌, List, [], ◌∷◌, ◌++◌, map, refl, ap, ap₂, ◌∙◌, append-nil}
use Rattle.std.specs.List.{flat_map, fold}
use Rattle.std.proofs.lemmas.Grind.{flat_map-append, fold-append}
use Rattle.std.proofs.lemmas.List.{map-append}
use Rattle.markup_nodes.specs.declared.tree.Elem.{Elem}
use Rattle.markup_nodes.specs.Node.{Node}
use Rattle.load_model.specs.Blocks.{Around, ReadContent, content_of, node_content}
use Rattle.load_model.specs.Content.{Raw}
use Rattle.load_model.specs.Left.{Left, both, nothing, all_of}
use Rattle.load_model.specs.Styles.{Names}
use Rattle.back_fields.specs.Given.{given, whole}

module _ (names : Names) (around : Around) where
  -- nodes are read so, with nothing left out
  abbrev pub Reads : List (Node Elem) → List Raw → Type 0
  Reads nodes raws = content_of around (map (given names) nodes) ≡ whole raws

  abbrev contents : List (Node Elem) → List ReadContent
  contents nodes = map (node_content around) (map (given names) nodes)

  abbrev lefts : List (Node Elem) → List Left
  lefts nodes = map (λ (part : ReadContent). part.left) (contents nodes)

  pub reads_none : Reads [] []
  reads_none = refl

  pub reads_one : (node : Node Elem) (raws : List Raw) → node_content around (given names node) ≡ whole raws → Reads (node ∷ []) raws
  reads_one node raws e =
      ap (λ (one : ReadContent). record { raws = one.raws ++ []; left = both nothing one.left }) e ∙ ap whole (append-nil raws)

  contents_append : (nodes more : List (Node Elem)) → contents (nodes ++ more) ≡ contents nodes ++ contents more
  contents_append nodes more = ap (map (node_content around)) (map-append (given names) nodes more) ∙ map-append (node_content around) (map (given names) nodes) (map (given names) more)

  pub reads_append : (nodes more : List (Node Elem)) (raws others : List Raw) → Reads nodes raws → Reads more others → Reads (nodes ++ more) (raws ++ others)
  reads_append nodes more raws others one other =
      ap₂ (λ (read : List Raw) (left : Left). record { raws = read; left = left })
      (ap (flat_map (λ (part : ReadContent). part.raws)) (contents_append nodes more) ∙ flat_map-append (λ (part : ReadContent). part.raws) (contents nodes) (contents more)
      ∙ ap₂ (λ (front back : List Raw). front ++ back) (ap (λ (read : ReadContent). read.raws) one) (ap (λ (read : ReadContent). read.raws) other))
      (ap (λ (all : List ReadContent). all_of (map (λ (part : ReadContent). part.left) all)) (contents_append nodes more)
      ∙ ap all_of (map-append (λ (part : ReadContent). part.left) (contents nodes) (contents more))
      ∙ fold-append both nothing (lefts nodes) (lefts more)
      ∙ ap (λ (left : Left). fold both left (lefts more)) (ap (λ (read : ReadContent). read.left) one)
      ∙ ap (λ (read : ReadContent). read.left) other)

  pub reads_first : (node : Node Elem) (more : List (Node Elem)) (raws others : List Raw) → node_content around (given names node) ≡ whole raws → Reads more others → Reads (node ∷ more) (raws ++ others)
  reads_first node more raws others one other = reads_append (node ∷ []) more raws others (reads_one node raws one) other
