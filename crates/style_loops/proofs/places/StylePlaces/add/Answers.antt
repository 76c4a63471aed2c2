use Rattle.std.proofs.Common.{◌∙◌, refl, ap}
use Rattle.std.specs.Str.{chars}
use Rattle.std.proofs.lemmas.Result.{on_ok_weaker}
use Rattle.doc_model.specs.declared.style.Family.TheVariants as family
use Rattle.style_loops.proofs.PlaceLemmas.{has_added, beside_paragraph, beside_text, beside_section}
use Rattle.style_loops.proofs.places.StylePlaces.add.Goals as goal

pub returns-in-Paragraph : goal.returns-in-Paragraph
returns-in-Paragraph c =
    let old = c.args.self.now in
    on_ok_weaker c.put.result (λ is before count has.
    has_added family.Paragraph old (record old { paragraph = c.put.new.places }) before c.args.style.now c.as_text-name.result c.args.place is
    (beside_paragraph old (record old { paragraph = c.put.new.places }) refl refl) count c.in-Paragraph.is c.as_text-name.utf8 (ap chars c.as_text-name.ensures.same ∙ c.get.ensures) has) c.put.ensures

pub returns-in-Text : goal.returns-in-Text
returns-in-Text c =
    let old = c.args.self.now in
    on_ok_weaker c.put-in-Text.result (λ is before count has.
    has_added family.Text old (record old { text = c.put-in-Text.new.places }) before c.args.style.now c.as_text-name.result c.args.place is
    (beside_text old (record old { text = c.put-in-Text.new.places }) refl refl) count c.in-Text.is c.as_text-name.utf8 (ap chars c.as_text-name.ensures.same ∙ c.get.ensures) has) c.put-in-Text.ensures

pub returns-in-Section : goal.returns-in-Section
returns-in-Section c =
    let old = c.args.self.now in
    on_ok_weaker c.put-in-Section.result (λ is before count has.
    has_added family.Section old (record old { section = c.put-in-Section.new.places }) before c.args.style.now c.as_text-name.result c.args.place is
    (beside_section old (record old { section = c.put-in-Section.new.places }) refl refl) count c.in-Section.is c.as_text-name.utf8 (ap chars c.as_text-name.ensures.same ∙ c.get.ensures) has) c.put-in-Section.ensures
