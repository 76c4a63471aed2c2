use Rattle.std.proofs.Common.{◌≡◌, ℕ, List, [], ◌++◌, ap, ap₂, ◌∙◌, append_assoc}
use Rattle.field_model.specs.Cut.{cut}
use Rattle.number_text.proofs.CutLemmas.{cut_then}
use Rattle.list_num.proofs.labels.numbered_label.Goals as goal

pub returns-clause-full : goal.returns-clause-full
returns-clause-full c =
    let prefix : c.push_str.new.self ≡ cut ([] ++ c.args.prefix.now) = c.in_ok-push_str.ensures ∙ ap₂ (λ (old text : List ℕ). cut (old ++ text)) c.new-full.ensures c.get.ensures in
    let plain : c.push_str-2.new.self ≡ cut (c.push_str.new.self ++ c.args.plain) = c.in_ok-push_str-2.ensures ∙ ap (λ (text : List ℕ). cut (c.push_str.new.self ++ text)) c.get-2.ensures in
    let suffix : c.push_str-3.new.self ≡ cut (c.push_str-2.new.self ++ c.args.suffix.now) = c.in_ok-push_str-3.ensures ∙ ap (λ (text : List ℕ). cut (c.push_str-2.new.self ++ text)) c.get-3.ensures in
    c.into_txt-full.ensures.same
    ∙ cut_then [] c.push_str-2.new.self c.push_str-3.new.self (c.args.prefix.now ++ c.args.plain) c.args.suffix.now
    (cut_then [] c.push_str.new.self c.push_str-2.new.self c.args.prefix.now c.args.plain prefix plain) suffix
    ∙ ap cut (append_assoc c.args.prefix.now c.args.plain c.args.suffix.now)
