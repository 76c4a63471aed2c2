use Rattle.std.proofs.Common.{◌≡◌, ◌++◌, ℕ, List, sym, ap, ◌∙◌, subst}
use Rattle.std.specs.Prelude.{OnOk}
use Rattle.std.specs.Str.{encode_utf8_all}
use Rattle.std.proofs.lemmas.Str.{encodes-chars}
use Rattle.page_print.proofs.printing.push_txt.Goals as goal

pub returns : goal.returns
returns c =
    let spelled : c.as_bytes.result.now ≡ encode_utf8_all c.args.text.now =
    c.as_bytes.ensures.value ∙ sym (encodes-chars c.get.result.now c.get.utf8) ∙ ap encode_utf8_all c.get.ensures in
    subst (λ (bytes : List ℕ). OnOk c.push_bytes.result (c.push_bytes.new.out.items ≡ c.args.out.now.items ++ bytes)) spelled c.push_bytes.ensures
