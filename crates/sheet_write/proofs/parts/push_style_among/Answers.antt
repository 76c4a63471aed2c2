use Rattle.std.proofs.Common.{◌≡◌, ◌++◌, ℕ, List, OnOk, sym, ◌∙◌, ap, subst}
use Rattle.std.proofs.lemmas.List.{append-nil}
use Rattle.std.specs.Str.{chars}
use Rattle.std.specs.String.{string_bytes}
use Rattle.sheet_write.proofs.PartLemmas.{among_none, among_one}
use Rattle.sheet_write.proofs.parts.push_style_among.Goals as goal

pub returns-then-not-is_among : goal.returns-then-not-is_among
returns-then-not-is_among c =
    let old = chars (string_bytes c.args.out.now) in
    sym (append-nil old) ∙ ap (λ (text : List ℕ). old ++ text) (sym (among_none c.args.automatic c.args.style.now (sym c.is_among.ensures ∙ c.if-not-is_among.true)))

pub returns : goal.returns
returns c =
    subst (λ (text : List ℕ). OnOk c.push_style.result (chars (string_bytes c.push_style.new.out) ≡ chars (string_bytes c.args.out.now) ++ text))
    (among_one c.args.automatic c.args.style.now (sym c.is_among.ensures ∙ c.if-not-is_among.false)) c.push_style.ensures
