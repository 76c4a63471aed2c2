-- Every element, and a whole text.
use Rattle.std.proofs.Common.{◌≡◌, Bool, true, false, List, [], refl, sym, ap, subst, ◌∙◌}
use Rattle.std.specs.List.{AllByRecursion as Each}
use Rattle.markup_nodes.specs.Node.{Node}
use Rattle.markup_nodes.specs.Nodes.{elems}
use Rattle.load_model.specs.declared.element.Element.{Element as Read, out-Element}
use Rattle.load_model.specs.Blocks.{Known, Gives, gives_of}
use Rattle.load_model.specs.Left.{attributes_of, tag_of}
use Rattle.load_model.specs.Met as met
use Rattle.load_model.specs.Met.{Met, Where, met_in, reads_sections}
use Rattle.met_read.proofs.WalkLemmas.{gives_out as met_out}
use Rattle.back_names.specs.Named.{placeless}
use Rattle.back_paragraphs.specs.Paragraphs.{outside}
use Rattle.back_text_places.specs.Bare.{bare_blocks, bare_content}
use Rattle.back_text_places.specs.Standing.{Standing, standing}
use Rattle.back_text_places.proofs.Blocks.{blocks_at, entry_at, inside_at}
use Rattle.back_text_places.proofs.Contents.{content_at}
use Rattle.back_text_places.proofs.Same.{AreKept, IsSame, bare_known, bared, placed}
use Rattle.back_text_places.proofs.Steps.{bare_out, every, gives_out, standing_out}

module _ (known : Known) where
  -- what an element gives in a role, from what its parts give
  module _ {X : Type 0} (role : Gives → X) (given : met.Gives → List Met) (stands : Standing → Bool) (change : X → X) (element : Read) where
    abbrev nodes : List (Node Read)
    nodes = (out-Element element).nodes

    opened : (one other : X) (all : List Met) (stand : Bool) → role (bared known element) ≡ one → role (placed known element) ≡ other → given (met.gives_of element) ≡ all → stands (standing element) ≡ stand
        → (stand ≡ true → AreKept known all → one ≡ change other) → stands (standing element) ≡ true → AreKept known (given (met.gives_of element)) → role (bared known element) ≡ change (role (placed known element))
    opened one other all stand e f g h same stands kept = e ∙ same (sym h ∙ stands) (subst (AreKept known) g kept) ∙ ap change (sym f)

  element_same : (element : Read) → Each (IsSame known) (elems (out-Element element).nodes) → IsSame known element
  element_same element same =
      let place = (out-Element element).place in
      let attributes = attributes_of element in
      let inner = (out-Element element).nodes in
      record {
        content = λ around here text stands kept. opened (λ (one : Gives). one.content around) (λ (one : met.Gives). one.content here) (λ (one : Standing). one.content) (bare_content around.in_note) element
            _ _ _ _ (ap (λ (one : Gives). one.content around) (bare_out (bare_known known) element)) (ap (λ (one : Gives). one.content around) (gives_out known element))
            (ap (λ (one : met.Gives). one.content here) (met_out element)) (ap (λ (one : Standing). one.content) (standing_out element))
            (content_at known place attributes inner same around here text (tag_of element)) stands kept;
        blocks = λ lists here sections text read stands kept. opened (λ (one : Gives). one.blocks lists) (λ (one : met.Gives). one.blocks here) (λ (one : Standing). one.blocks sections) (bare_blocks lists.in_note) element
            _ _ _ _ (ap (λ (one : Gives). one.blocks lists) (bare_out (bare_known known) element)) (ap (λ (one : Gives). one.blocks lists) (gives_out known element))
            (ap (λ (one : met.Gives). one.blocks here) (met_out element)) (ap (λ (one : Standing). one.blocks sections) (standing_out element))
            (blocks_at known place attributes inner same (tag_of element) lists here sections text read) stands kept;
        entry = λ lists here text stands kept. opened (λ (one : Gives). one.entry lists) (λ (one : met.Gives). one.entry here) (λ (one : Standing). one.entry) (bare_blocks lists.in_note) element
            _ _ _ _ (ap (λ (one : Gives). one.entry lists) (bare_out (bare_known known) element)) (ap (λ (one : Gives). one.entry lists) (gives_out known element))
            (ap (λ (one : met.Gives). one.entry here) (met_out element)) (ap (λ (one : Standing). one.entry) (standing_out element))
            (entry_at known place attributes inner same (tag_of element) lists here text) stands kept;
        inside = λ lists here sections text read stands kept. opened (λ (one : Gives). one.inside lists) (λ (one : met.Gives). one.inside here) (λ (one : Standing). one.inside sections) (bare_blocks lists.in_note) element
            _ _ _ _ (ap (λ (one : Gives). one.inside lists) (bare_out (bare_known known) element)) (ap (λ (one : Gives). one.inside lists) (gives_out known element))
            (ap (λ (one : met.Gives). one.inside here) (met_out element)) (ap (λ (one : Standing). one.inside sections) (standing_out element))
            (inside_at known place attributes inner same lists here sections text read) stands kept;
      }

  every_same : (element : Read) → IsSame known element
  every_same = every (IsSame known) element_same

  pub text_same : (text : Read) → (standing text).inside true ≡ true → AreKept known (met_in text) → (gives_of (bare_known known) (placeless text)).inside (outside false) ≡ bare_blocks false ((gives_of known text).inside (outside false))
  text_same text stands kept = (every_same text).inside (outside false) (record { text = 0; in_list = false; sections = [] }) true (λ e. refl) (λ e. refl) stands kept
