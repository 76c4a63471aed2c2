-- Every element gives what is good.
use Rattle.std.proofs.Common.{List, [], ◌∷◌, sym, subst}
use Rattle.std.specs.List.{AllByRecursion as Each}
use Rattle.markup_nodes.specs.Nodes.{elems}
use Rattle.load_model.specs.declared.element.Element.{Element as Read, out-Element}
use Rattle.load_model.specs.Blocks.{Gives}
use Rattle.load_model.specs.Left.{attributes_of, tag_of}
use Rattle.load_model.specs.Met as met
use Rattle.legal_trees.specs.Legal.{IsLegalTree}
use Rattle.legal_trees.proofs.Trees.{attributes_legal, nodes_legal}
use Rattle.valid_text.proofs.Good.{Text, Fits, AreGoodBlocks, IsGoodRaw}
use Rattle.valid_text.proofs.Blocks.{blocks_at, entry_at, inside_at}
use Rattle.valid_text.proofs.Contents.{content_at}
use Rattle.valid_text.proofs.Steps.{every, gives_out, met_out}
use Rattle.valid_text.proofs.Walk.{AreDeclared, IsGood, elems_legal, inner_settled, own_is_settled}

module _ (text : Text) (fits : Fits text) where
  abbrev IsGoodWhereLegal : Read → Type 0
  IsGoodWhereLegal element = IsLegalTree element → IsGood text element

  each_given : (elements : List Read) → Each IsLegalTree elements → Each IsGoodWhereLegal elements → Each (IsGood text) elements
  each_given [] legal inner = tt
  each_given (element ∷ elements) legal inner = (inner.0 legal.0, each_given elements legal.1 inner.1)

  element_good : (element : Read) → Each IsGoodWhereLegal (elems (out-Element element).nodes) → IsGoodWhereLegal element
  element_good element inner legal =
      let place = (out-Element element).place in
      let attributes = attributes_of element in
      let nodes = (out-Element element).nodes in
      let own = attributes_legal element legal in
      let chars = nodes_legal element legal in
      let good = each_given (elems nodes) (elems_legal nodes chars) inner in
      record {
        content = λ around here outside settled spans declared. subst (λ (one : Gives). Each (IsGoodRaw text around.in_note) (one.content around).raws) (sym (gives_out text.known element))
            (content_at text fits place attributes own nodes chars good around here outside spans (tag_of element) (own_is_settled text around.in_note element settled) (inner_settled text around.in_note element settled)
            (subst (λ (one : met.Gives). AreDeclared text (one.content here)) (met_out element) declared));
        blocks = λ lists here outside settled named declared. subst (λ (one : Gives). AreGoodBlocks text lists.in_note (one.blocks lists)) (sym (gives_out text.known element))
            (blocks_at text fits place attributes own nodes chars good (tag_of element) lists here outside (own_is_settled text lists.in_note element settled) (inner_settled text lists.in_note element settled) named
            (subst (λ (one : met.Gives). AreDeclared text (one.blocks here)) (met_out element) declared));
        entry = λ lists here outside settled named declared. subst (λ (one : Gives). AreGoodBlocks text lists.in_note (one.entry lists)) (sym (gives_out text.known element))
            (entry_at text fits place attributes own nodes chars good (tag_of element) lists here outside (inner_settled text lists.in_note element settled) named
            (subst (λ (one : met.Gives). AreDeclared text (one.entry here)) (met_out element) declared));
        inside = λ lists here outside settled named declared. subst (λ (one : Gives). AreGoodBlocks text lists.in_note (one.inside lists)) (sym (gives_out text.known element))
            (inside_at text fits place attributes own nodes chars good lists here outside settled named
            (subst (λ (one : met.Gives). AreDeclared text (one.inside here)) (met_out element) declared));
      }

  pub every_good : (element : Read) → IsLegalTree element → IsGood text element
  every_good = every IsGoodWhereLegal element_good
