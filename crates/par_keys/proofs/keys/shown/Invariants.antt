use Rattle.std.proofs.Common.{◌≡◌, take}
use Rattle.std.specs.Prelude.{string_bytes}
use Rattle.std.specs.List.{flat_map}
use Rattle.std.specs.Str.{encode_utf8_all}
use Rattle.par_keys.specs.ItemText.{text_of_item}
use Rattle.par_keys.proofs.keys.shown.Given as goal

abbrev pub invariant-items : goal.invariant-items
invariant-items l = string_bytes l.text ≡ encode_utf8_all (flat_map text_of_item (take l.item-index l.item-items))
