-- The paragraphs of the body, one after another.
use Rattle.std.proofs.Common.{◌≡◌, ℕ, suc, ◌+◌, ◌<◌, List, [], ◌∷◌, ◌++◌, drop, length, get_or, map, sym, ap, subst, ◌∙◌, append_assoc, append-nil, add-one, drop-cons}
use Rattle.std.specs.List.{flat_map}
use Rattle.doc_model.specs.declared.document.Document.{Document}
use Rattle.format_model.specs.Standing.{BodyPar, body_pars}
use Rattle.format_model.specs.Keys.{standing, standing_with_notes}
use Rattle.doc_texts.specs.declared.places.BodyPlace.{BodyPlace}
use Rattle.doc_texts.specs.Places.{body_par}
use Rattle.round_pars.specs.declared.pars.RoundPar.{RoundPar}
use Rattle.round_pars.specs.Pairs.{Pairwise}
use Rattle.round_pars.specs.Pars.{AreRoundPars}
use Rattle.round_texts.specs.declared.bodies.BodyText.{BodyText}
use Rattle.round_texts.specs.Texts.{AreBodyTexts, IsBodyText}

-- the paragraphs of the body up to a place were read, and the paragraphs of the others are left
pub record BodiesLeft (doc : Document) (places : List BodyPlace) (at : ℕ) (rest : List RoundPar) (texts : List BodyText) : Type 0 where
  pub left : AreRoundPars doc (flat_map (standing_with_notes doc) (map body_par (drop at places))) rest
  pub whole : (more : List BodyText) → Pairwise (IsBodyText doc) (map body_par (drop at places)) more → Pairwise (IsBodyText doc) (map body_par places) (texts ++ more)

-- at the start
pub none_read : (doc : Document) (places : List BodyPlace) (rest : List RoundPar) → map body_par places ≡ body_pars doc → AreRoundPars doc (standing doc) rest → BodiesLeft doc places 0 rest []
none_read doc places rest e h = record { left = subst (λ (pars : List BodyPar). AreRoundPars doc (flat_map (standing_with_notes doc) pars) rest) (sym e) h; whole = λ more are. are }

places_left : (places : List BodyPlace) (at : ℕ) (place : BodyPlace) → place ≡ get_or places at place → at < length places → drop at places ≡ place ∷ drop (at + 1) places
places_left places at place is inside = drop-cons places at place inside ∙ ap (λ (x : BodyPlace). x ∷ drop (suc at) places) (sym is) ∙ ap (λ (n : ℕ). place ∷ drop n places) (sym (add-one at))

-- those of the next one, and then the others
pub left_behind : (doc : Document) (places : List BodyPlace) (at : ℕ) (rest : List RoundPar) (texts : List BodyText) (place : BodyPlace) → place ≡ get_or places at place → at < length places → BodiesLeft doc places at rest texts
    → AreRoundPars doc (standing_with_notes doc (body_par place) ++ flat_map (standing_with_notes doc) (map body_par (drop (at + 1) places))) rest
left_behind doc places at rest texts place is inside h =
    subst (λ (back : List BodyPlace). AreRoundPars doc (flat_map (standing_with_notes doc) (map body_par back)) rest) (places_left places at place is inside) h.left

-- one more
pub one_read : (doc : Document) (places : List BodyPlace) (at : ℕ) (rest more : List RoundPar) (texts : List BodyText) (place : BodyPlace) (text : BodyText) → place ≡ get_or places at place → at < length places → BodiesLeft doc places at rest texts
    → IsBodyText doc (body_par place) text → AreRoundPars doc (flat_map (standing_with_notes doc) (map body_par (drop (at + 1) places))) more → BodiesLeft doc places (at + 1) more (texts ++ text ∷ [])
one_read doc places at rest more texts place text is inside h own left = record {
  left = left;
  whole = λ later are.
      let both : Pairwise (IsBodyText doc) (map body_par (drop at places)) (text ∷ later) =
      subst (λ (back : List BodyPlace). Pairwise (IsBodyText doc) (map body_par back) (text ∷ later)) (sym (places_left places at place is inside)) (own, are) in
      subst (Pairwise (IsBodyText doc) (map body_par places)) (sym (append_assoc texts (text ∷ []) later)) (h.whole (text ∷ later) both);
}

-- at the end
pub all_read : (doc : Document) (places : List BodyPlace) (at : ℕ) (rest : List RoundPar) (texts : List BodyText) → drop at places ≡ [] → map body_par places ≡ body_pars doc → BodiesLeft doc places at rest texts → AreBodyTexts doc texts
all_read doc places at rest texts none e h =
    let empty : Pairwise (IsBodyText doc) (map body_par (drop at places)) [] = subst (λ (back : List BodyPlace). Pairwise (IsBodyText doc) (map body_par back) []) (sym none) tt in
    subst (λ (pars : List BodyPar). Pairwise (IsBodyText doc) pars texts) e (subst (Pairwise (IsBodyText doc) (map body_par places)) (append-nil texts) (h.whole [] empty))
