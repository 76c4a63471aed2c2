use Rattle.fodt_read.proofs.Texts.{pushed}
use Rattle.std.proofs.Common.{◌∙◌}
use Rattle.fodt_read.proofs.body.push_paragraph.Goals as goal

pub returns : goal.returns
returns c = record {
  ok = λ texts e. pushed texts c.args.text.now c.args.blocks.now.items _ _ c.len.result e (c.len.ensures ∙ c.args.blocks.now.ok.0) c.in_ok-plain_block.ensures c.in_ok-push.ensures.items;
}
