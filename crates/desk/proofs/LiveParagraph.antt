-- The live paragraph of a number, by its block.
use Rattle.std.proofs.Common.{◌≡◌, ◌≤◌, ◌-◌, ◌+◌, ℕ, refl, ap, sym, ◌∙◌, arith, Option, Some, None, length}
use Rattle.std.specs.Prelude.{slice_get}
use Rattle.std.specs.Option.{option_map}
use Rattle.doc_model.specs.declared.paragraph.Par.{Par}
use Rattle.doc_model.specs.declared.paragraph.ParId.{ParId}
use Rattle.doc_model.specs.declared.block.Block.{Block}
use Rattle.doc_model.specs.declared.block.Block.TheVariants as block
use Rattle.doc_model.specs.declared.block.Section.{Section}
use Rattle.doc_model.specs.declared.document.Document.{Document}
use Rattle.edit_model.specs.Edit.{live_paragraph}
use Rattle.doc_model.specs.Parts.{items_of}
use Rattle.doc_model.specs.Plain.{IsPlain, plain_paragraph}
use Rattle.plain_doc.proofs.Edited.{live_paragraph-plain}
use Rattle.edit_ops.proofs.Blocks.{has_block, same_par, no_section, live-none, live-zero}
use Rattle.edit_ops.proofs.Texts.{text_numbered-at}

unmapped : (found : Option Par) → None ≡ option_map (λ (live : Par). length (items_of live)) found → None ≡ found
unmapped None e = refl
unmapped (Some live) e = absurd (cc)

pub live_paragraph-zero : (doc : Document) → IsPlain doc → (par : ParId) → par.0 ≡ 0 → None ≡ live_paragraph doc par
live_paragraph-zero doc plain par nought = unmapped (live_paragraph doc par) (live-zero doc plain par nought)

pub live_paragraph-none : (doc : Document) → IsPlain doc → (par : ParId) → 1 ≤ par.0 → None ≡ slice_get doc.body (par.0 - 1) → None ≡ live_paragraph doc par
live_paragraph-none doc plain par given e = unmapped (live_paragraph doc par) (live-none doc plain par given e)

pub live_paragraph-some : (doc : Document) → IsPlain doc → (par : ParId) (here : Block) (live : Par) → 1 ≤ par.0 → Some here ≡ slice_get doc.body (par.0 - 1) → here ≡ block.Par live → Some live ≡ live_paragraph doc par
live_paragraph-some doc plain par here live given e is =
    let found = has_block doc plain (par.0 - 1) here e in
    let same : live ≡ plain_paragraph (1 + (par.0 - 1)) found.text = same_par live (plain_paragraph (1 + (par.0 - 1)) found.text) (sym is ∙ found.same) in
    let number : 1 + (par.0 - 1) ≡ par.0 = omega (arith, given) in
    ap (λ (p : Par). Some p) (same ∙ ap (λ (n : ℕ). plain_paragraph n found.text) number)
    ∙ sym (ap (λ (d : Document). live_paragraph d par) plain.1.alone
    ∙ live_paragraph-plain plain.0 par
    ∙ ap (option_map (plain_paragraph par.0)) (text_numbered-at par.0 1 (par.0 - 1) plain.0 (omega (arith, given)) ∙ found.found))

pub live_paragraph-section : (doc : Document) → IsPlain doc → (par : ParId) (here : Block) (section : Section) → Some here ≡ slice_get doc.body (par.0 - 1) → here ≡ block.Section section → None ≡ live_paragraph doc par
live_paragraph-section doc plain par here section e is =
    let found = has_block doc plain (par.0 - 1) here e in
    absurd (no_section section (plain_paragraph (1 + (par.0 - 1)) found.text) (sym is ∙ found.same))
