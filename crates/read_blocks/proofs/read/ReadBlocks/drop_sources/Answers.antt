use Rattle.std.proofs.Common.{◌∙◌, ◌≡◌, ap, arith, length, map}
use Rattle.std.proofs.lemmas.List.{length-map}
use Rattle.load_model.specs.Left.{only_elements}
use Rattle.element_parts.specs.Shown.{shown}
use Rattle.read_blocks.specs.Shown.{shown_source}
use Rattle.read_blocks.proofs.read.ReadBlocks.drop_sources.Goals as goal

pub returns : goal.returns
returns c = λ in_note all are. record {
  blocks_are = are.blocks_are;
  sources_are = c.truncate.ensures.items;
  declarations_are = are.declarations_are;
  left_is = c.both-self.ensures (only_elements (length all.sources)) all.left
      (c.elements-dropped.ensures ∙ ap (λ n. shown (only_elements n)) ((let counted : c.len.result ≡ length c.args.self.now.sources.items = omega (arith, c.len.ensures) in counted) ∙ ap length are.sources_are ∙ length-map all.sources shown_source)) are.left_is;
}
