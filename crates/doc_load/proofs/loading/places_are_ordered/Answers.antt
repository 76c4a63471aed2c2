use Rattle.load_model.specs.Names.{resolved}
use Rattle.doc_load.proofs.loading.places_are_ordered.Goals as goal

pub returns : goal.returns
returns c = record {
  names = λ tree spelled. c.bad_names_rise.ensures tree.root (c.spelled_trees_are_in_order.ensures spelled.bytes tree spelled.spelled);
  ordered = λ tree spelled.
      let order = c.resolved_trees_are_in_order.ensures tree.root (c.spelled_trees_are_in_order.ensures spelled.bytes tree spelled.spelled) in
      record {
        declarations = λ sequences. c.declarations_rise.ensures.stated sequences (resolved tree.root) order;
        uses = λ sequences. c.declarations_rise.ensures.used sequences (resolved tree.root) order;
        numbers = c.paragraphs_are_apart.ensures (resolved tree.root) order;
        sections = c.sections_are_nested.ensures.file (resolved tree.root) order;
      };
}
