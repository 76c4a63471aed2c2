use Rattle.std.proofs.Common.{◌∙◌, ap, ◌++◌}
use Rattle.std.specs.Prelude.{string_bytes}
use Rattle.std.specs.Str.{encode_utf8_all}
use Rattle.doc_model.specs.declared.paragraph.Item.{Item}
use Rattle.par_keys.specs.ItemText.{text_of_item}
use Rattle.par_keys.proofs.Texts.{text_more}
use Rattle.par_keys.proofs.keys.shown.Goals as goal

pub items-preserved : goal.items-preserved
items-preserved c =
    c.in_ok-push_item.ensures
    ∙ ap (λ (item : Item). string_bytes c.items.text ++ encode_utf8_all (text_of_item item)) c.item-item.is
    ∙ text_more (string_bytes c.items.text) c.as_slice-item-items.result.now c.items.item-index c.item-item.result c.items-test.true c.items.invariant
