-- Paragraphs that are moved.
use Rattle.std.proofs.Common.{◌≡◌, ◌≢◌, Bool, true, false, not, ◌||◌, ◌&&◌, eqb, [], ◌∷◌, length, refl, ap, ap₂, sym, ◌∙◌, Some, None}
use Rattle.std.proofs.lemmas.Bool.{and_parts, false≢true}
use Rattle.std.proofs.lemmas.Option.{none-some}
use Rattle.doc_model.specs.declared.document.Document.{Document}
use Rattle.doc_model.specs.declared.edit.EditOp.TheVariants.{MovePars}
use Rattle.doc_model.specs.declared.paragraph.ParId.{ParId}
use Rattle.doc_model.specs.declared.refusal.Refusal.TheVariants.{LastPar, NotTogether}
use Rattle.container_facts.specs.Fronts.{begins_with}
use Rattle.container_facts.proofs.Wholes.{all_held, whole}
use Rattle.container_rows.specs.Standing.{IsApart}
use Rattle.edit_rules.specs.Places.{are_in_order, container_of, held_between, held_from, holds, live_paragraph}
use Rattle.edit_rules.specs.Refusals.{are_paragraphs_in_order, first_refusal_of, is_bad_target, last_paragraph, no_paragraph, not_together, refused_if}
use Rattle.level_walks.proofs.Live.{first_live, rest_live}

-- what stands together stands in order
pub ordered : (doc : Document) (first last : ParId) → are_paragraphs_in_order doc first last ≡ true → are_in_order doc first last ≡ true
ordered doc first last together = (and_parts (are_in_order doc first last) _ together).0

module _ (doc : Document) (first last after : ParId) (test : Bool) (named : no_paragraph doc (MovePars first last after) ≡ None) (together : are_paragraphs_in_order doc first last ≡ true)
    (tests : live_paragraph doc first ≢ None → live_paragraph doc after ≢ None → are_in_order doc first last ≡ true → test ≡ is_bad_target doc first last after) where
  live_first : live_paragraph doc first ≢ None
  live_first = first_live doc first (last ∷ after ∷ []) named

  live_after : live_paragraph doc after ≢ None
  live_after = first_live doc after [] (rest_live doc last (after ∷ []) (rest_live doc first (last ∷ after ∷ []) named))

  told : not_together doc (MovePars first last after) ≡ first_refusal_of (refused_if test (NotTogether first after) ∷ [])
  told =
      ap₂ (λ (a b : Bool). first_refusal_of (refused_if (not a) (NotTogether first last) ∷ refused_if b (NotTogether first after) ∷ [])) together
      (sym (tests live_first live_after (ordered doc first last together)))

  pub bad_target : test ≡ true → Some (NotTogether first after) ≡ not_together doc (MovePars first last after)
  bad_target is = sym (told ∙ ap (λ (b : Bool). first_refusal_of (refused_if b (NotTogether first after) ∷ [])) is)

  pub good_target : test ≡ false → None ≡ not_together doc (MovePars first last after)
  good_target is = sym (told ∙ ap (λ (b : Bool). first_refusal_of (refused_if b (NotTogether first after) ∷ [])) is)

-- what isn't refused as not standing together
module _ (doc : Document) (first last after : ParId) (stand : not_together doc (MovePars first last after) ≡ None) where
  are_together : are_paragraphs_in_order doc first last ≡ true
  are_together = by_order (are_paragraphs_in_order doc first last) refl where
    by_order : (test : Bool) → are_paragraphs_in_order doc first last ≡ test → are_paragraphs_in_order doc first last ≡ true
    by_order true is = is
    by_order false is =
        absurd (none-some (NotTogether first last)
        (sym stand ∙ ap (λ (b : Bool). first_refusal_of (refused_if (not b) (NotTogether first last) ∷ refused_if (is_bad_target doc first last after) (NotTogether first after) ∷ [])) is))

  good : is_bad_target doc first last after ≡ false
  good = by_target (is_bad_target doc first last after) refl where
    by_target : (test : Bool) → is_bad_target doc first last after ≡ test → is_bad_target doc first last after ≡ false
    by_target true is =
        absurd (none-some (NotTogether first after)
        (sym stand ∙ ap₂ (λ (a b : Bool). first_refusal_of (refused_if (not a) (NotTogether first last) ∷ refused_if b (NotTogether first after) ∷ [])) are_together is))
    by_target false is = is

  not_among : holds after.0 (held_between doc first last) ≡ false
  not_among = front (holds after.0 (held_between doc first last)) _ good where
    front : (a b : Bool) → (a || b) ≡ false → a ≡ false
    front true b is = absurd (false≢true (sym is))
    front false b is = refl

  -- all of a container would be moved
  pub all_refused : IsApart doc → (test : Bool) → test ≡ (begins_with first.0 (container_of doc first) && eqb (length (held_from doc last)) 1) → test ≡ true → Some (LastPar first) ≡ last_paragraph doc (MovePars first last after)
  all_refused apart test is yes_all =
      let order : are_in_order doc first last ≡ true = ordered doc first last are_together in
      let both = and_parts (begins_with first.0 (container_of doc first)) (eqb (length (held_from doc last)) 1) (sym is ∙ yes_all) in
      sym (ap₂ (λ (a b : Bool). refused_if (a && not b) (LastPar first)) (whole doc apart first last order ∙ sym is ∙ yes_all)
      (ap (holds after.0) (sym (all_held doc apart first last order both.0 both.1)) ∙ not_among))

  -- something would be left
  pub some_left : IsApart doc → (test : Bool) → test ≡ (begins_with first.0 (container_of doc first) && eqb (length (held_from doc last)) 1) → test ≡ false → None ≡ last_paragraph doc (MovePars first last after)
  some_left apart test is not_all =
      let order : are_in_order doc first last ≡ true = ordered doc first last are_together in
      sym (ap (λ (a : Bool). refused_if (a && not (holds after.0 (container_of doc first))) (LastPar first)) (whole doc apart first last order ∙ sym is ∙ not_all))
