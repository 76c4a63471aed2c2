use Rattle.std.proofs.Common.{chars, ap, ◌∙◌}
use Rattle.std.specs.Prelude.{string_bytes}
use Rattle.std.proofs.lemmas.Str.{IsUtf8-string_bytes, chars-append}
use Rattle.field_walk.proofs.quotes.push_chars.Goals as goal

pub returns : goal.returns
returns c = ap chars c.in_ok-push_str.ensures.bytes ∙ chars-append (string_bytes c.args.text.now) c.args.more.now (IsUtf8-string_bytes c.args.text.now)
