use Rattle.std.proofs.Common.{ap, ◌∙◌, string_bytes}
use Rattle.std.specs.Str.{encode_utf8_all}
use Rattle.std.proofs.lemmas.Result.{MatchResult-at_ok}
use Rattle.std.proofs.lemmas.Str.{encodes-chars, IsUtf8-string_bytes}
use Rattle.script_lang.proofs.operations.text_of.Goals as goal

pub unwrap-text-requires : goal.unwrap-text-requires
unwrap-text-requires c = c.from_utf8.ensures.succeeds c.requires

pub returns : goal.returns
returns c =
    let same = MatchResult-at_ok _ _ _ c.unwrap-text.ensures c.from_utf8.ensures.ok in
    ap encode_utf8_all c.from_list.ensures ∙ encodes-chars (string_bytes c.unwrap-text.result) (IsUtf8-string_bytes c.unwrap-text.result) ∙ ap (λ v. v.items) same
