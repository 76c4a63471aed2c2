use Rattle.std.proofs.Common.{List, ℕ, [], ◌∷◌, ◌++◌, ◌∙◌, ap, ap₂, sym, map}
use Rattle.doc_model.specs.declared.refusal.Limit.TheVariants as limit
use Rattle.load_model.specs.Offences.{Counted, beyond, counted_heads, counted_paragraphs, first_too_many, least, too_long}
use Rattle.doc_load.specs.Outcomes.{limit_offences}
use Rattle.doc_load.proofs.FaultLemmas.{limits_more, too_long_more}
use Rattle.doc_load.proofs.faults.add_paragraphs.Goals as goal

pub returns : goal.returns
returns c = λ before root counted heads known.
    let paragraphs = c.paragraph_beyond.ensures ∙ ap (λ (pars : List Counted). beyond limit.Paragraphs (map (λ (par : Counted). par.place) pars)) counted in
    let long = c.as_slice.ensures.value ∙ c.in_ok-extend_from_slice.ensures.items
    ∙ ap₂ (λ (some more : List ℕ). some ++ more) (c.in_ok-long.ensures ∙ ap too_long counted) heads
    ∙ sym (too_long_more (counted_paragraphs root) (counted_heads root)) in
    let items = c.first_too_many.ensures ∙ ap (first_too_many 0) counted in
    let one = c.add_limit.ensures before root paragraphs known in
    let two = c.add_limit_at.ensures (before ++ limit_offences (limit.Paragraphs ∷ []) root) root long one ∙ ap least (limits_more before root (limit.Paragraphs ∷ []) (limit.ItemsOfParagraph ∷ [])) in
    c.add_limit-2.ensures (before ++ limit_offences (limit.Paragraphs ∷ limit.ItemsOfParagraph ∷ []) root) root items two
    ∙ ap least (limits_more before root (limit.Paragraphs ∷ limit.ItemsOfParagraph ∷ []) (limit.Items ∷ []))
