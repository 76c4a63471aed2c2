use Rattle.std.proofs.Common.{◌∙◌, sym}
use Rattle.std.specs.Prelude.{string_bytes}
use Rattle.std.proofs.lemmas.Str.{chars_from_encodes, IsUtf8-had}
use Rattle.line_model.specs.Keys.{text_of}
use Rattle.par_keys.proofs.keys.text_of.Goals as goal

pub returns : goal.returns
returns c =
    c.from_list.ensures
    ∙ sym (chars_from_encodes (text_of c.args.par.now) (string_bytes c.in_ok-shown.field-0) (IsUtf8-had (string_bytes c.in_ok-shown.field-0) c.in_ok-shown.field-0.ok) (sym c.in_ok-shown.ensures))
