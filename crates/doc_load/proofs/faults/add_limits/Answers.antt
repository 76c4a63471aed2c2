use Rattle.std.proofs.Common.{List, [], ◌∷◌, ◌++◌, ◌∙◌, ap, map}
use Rattle.std.specs.List.{flat_map}
use Rattle.doc_model.specs.Reading.{block_paragraphs, with_notes}
use Rattle.doc_model.specs.declared.block.Block.{Block}
use Rattle.doc_model.specs.declared.refusal.Limit.TheVariants as limit
use Rattle.draft_numbers.proofs.DraftLemmas.{counts_alike}
use Rattle.load_model.specs.Loaded.{draft_of}
use Rattle.load_model.specs.Offences.{least}
use Rattle.paragraph_faults.specs.Counts.{count_of, counted_of}
use Rattle.doc_load.specs.Outcomes.{limit_offences}
use Rattle.doc_load.proofs.FaultLemmas.{limits_more}
use Rattle.doc_load.proofs.faults.add_limits.Goals as goal

pub returns : goal.returns
returns c = λ before known.
    let root = c.args.root.now in
    let text = c.requires.text in
    let parts = c.requires.parts in
    let counted = ap (map counted_of) c.as_slice.ensures.value ∙ c.in_ok-counted.ensures
    ∙ ap (λ (body : List Block). map count_of (flat_map with_notes (flat_map block_paragraphs body))) (c.get.ensures ∙ text.body_is)
    ∙ counts_alike (draft_of root) in
    let heads = c.as_slice-2.ensures.value ∙ parts.masters_are.too_long_are in
    let one = c.in_ok-add_paragraphs.ensures before root counted heads known in
    let two = c.add_sections.ensures (before ++ limit_offences (limit.Paragraphs ∷ limit.ItemsOfParagraph ∷ limit.Items ∷ []) root) root text.faults_are one
    ∙ ap least (limits_more before root (limit.Paragraphs ∷ limit.ItemsOfParagraph ∷ limit.Items ∷ []) (limit.Sections ∷ limit.SectionDepth ∷ [])) in
    let three = c.add_parts.ensures (before ++ limit_offences (limit.Paragraphs ∷ limit.ItemsOfParagraph ∷ limit.Items ∷ limit.Sections ∷ limit.SectionDepth ∷ []) root) root parts.limits_are two
    ∙ ap least (limits_more before root (limit.Paragraphs ∷ limit.ItemsOfParagraph ∷ limit.Items ∷ limit.Sections ∷ limit.SectionDepth ∷ []) (limit.Styles ∷ limit.ListStyles ∷ limit.Layouts ∷ limit.Masters ∷ [])) in
    c.add_limit.ensures (before ++ limit_offences (limit.Paragraphs ∷ limit.ItemsOfParagraph ∷ limit.Items ∷ limit.Sections ∷ limit.SectionDepth ∷ limit.Styles ∷ limit.ListStyles ∷ limit.Layouts ∷ limit.Masters ∷ []) root) root text.declarations_are.beyond_is three
    ∙ ap least (limits_more before root (limit.Paragraphs ∷ limit.ItemsOfParagraph ∷ limit.Items ∷ limit.Sections ∷ limit.SectionDepth ∷ limit.Styles ∷ limit.ListStyles ∷ limit.Layouts ∷ limit.Masters ∷ []) (limit.Declarations ∷ []))
