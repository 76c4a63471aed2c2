-- Plain documents and the bytes that they are loaded from.
use Rattle.std.proofs.Common.{Bor, ◌≡◌, ◌≢◌, ℕ, List, ◌++◌, ap, sym, ◌∙◌, subst, append_assoc}
use Rattle.std.specs.Prelude.{Option, None, Some, MatchOption, IsSomeAnd}
use Rattle.std.specs.List.{flat_map}
use Rattle.std.proofs.lemmas.List.{append_cancel_left}
use Rattle.doc_model.specs.declared.document.Document.{Document}
use Rattle.spelling_model.specs.declared.pieces.TheConstants.{ROOT, ROOT_END, BODY}
use Rattle.doc_model.specs.Plain.{plain_document, IsPlainOf}
use Rattle.spelling_model.specs.Spelling.{canonical, head, opening, tail}
use Rattle.doc_model.specs.Valid.{IsValid}
use Rattle.plain_doc.specs.PlainSpelling.{plain_paragraph_bytes}
use Rattle.plain_doc.proofs.Spelled.{canonical-plain}
use Rattle.plain_doc.proofs.Valid.{IsValid-plain, ArePlainTexts-valid}
use Rattle.fodt_read.specs.PlainText.{ArePlain}

-- the texts of a plain document, and the document of such texts
pub are_plain : (texts : List (List ℕ)) (doc : Document) → IsPlainOf texts doc → ArePlain texts
are_plain texts doc of = record {
  characters = of.characters;
  within = ArePlainTexts-valid texts (subst (λ (d : Document). IsValid d) of.alone of.valid);
}

pub plain_of : (texts : List (List ℕ)) (doc : Document) → ArePlain texts → doc ≡ plain_document texts → IsPlainOf texts doc
plain_of texts doc plain is = record {
  alone = is;
  characters = plain.characters;
  valid = subst (λ (d : Document). IsValid d) (sym is) (IsValid-plain texts plain.within plain.characters);
}

-- the bytes of a plain document
pub spelled : (texts : List (List ℕ)) (doc : Document) (bytes : List ℕ) → IsPlainOf texts doc → canonical doc ≡ bytes → bytes ≡ head ++ (opening ++ (flat_map plain_paragraph_bytes texts ++ tail))
spelled texts doc bytes of e = sym e ∙ ap canonical of.alone ∙ canonical-plain texts

-- what stands in front of the body
pub opened : (bytes more : List ℕ) → bytes ≡ head ++ (opening ++ more) → bytes ≡ ROOT.now ++ (ROOT_END.now ++ (BODY.now ++ more))
unfolding head opening
opened bytes more e = e ∙ append_assoc ROOT.now ROOT_END.now (BODY.now ++ more)

pub found_after : (result : Option (Bor (List ℕ))) (bytes front more : List ℕ) → MatchOption result ((rest : List ℕ) → bytes ≢ front ++ rest) (λ rest. bytes ≡ front ++ rest.now)
    → bytes ≡ front ++ more → IsSomeAnd result (λ rest. rest.now ≡ more)
found_after None bytes front more none e = absurd (none more e)
found_after (Some rest) bytes front more found e = append_cancel_left front rest.now more (sym found ∙ e)
