use Rattle.std.proofs.Common.{◌∙◌, sym}
use Rattle.key_parts.proofs.Texts.{nothing_in_front, spaced}
use Rattle.key_parts.proofs.keys.push_front.Goals as goal

pub returns-then-is_empty : goal.returns-then-is_empty
returns-then-is_empty c = nothing_in_front _ c.get.result.now c.args.text.now c.get.ensures (sym c.is_empty.ensures ∙ c.if-is_empty.true)

pub returns : goal.returns
returns c = spaced c.push.result _ _ _ c.get.result.now c.args.text.now c.get.utf8 c.get.ensures (sym c.is_empty.ensures ∙ c.if-is_empty.false) c.in_ok-push_text.ensures c.push.ensures.bytes
