use Rattle.std.proofs.Common.{arith, ◌∙◌}
use Rattle.idle_queue.proofs.PlainPlaces.{body_count, some_paragraphs, few_paragraphs}
use Rattle.idle_queue.proofs.places.paragraph_count.Goals as goal

pub overflow_cast-result : goal.overflow_cast-result
overflow_cast-result c = omega (arith, c.len.ensures, body_count c.args.doc.now c.requires, few_paragraphs c.args.doc.now c.requires)

pub returns : goal.returns
returns c = record {
  count = c.len.ensures ∙ body_count c.args.doc.now c.requires;
  some = omega (arith, c.len.ensures, body_count c.args.doc.now c.requires, some_paragraphs c.args.doc.now c.requires);
  few = omega (arith, c.len.ensures, body_count c.args.doc.now c.requires, few_paragraphs c.args.doc.now c.requires);
}
