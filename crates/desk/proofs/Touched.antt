-- What edits touch doesn't hang on the document that they are made in, as long as there are inserts and deletes alone.
use Rattle.std.proofs.Common.{◌≡◌, ℕ, ◌+◌, ◌<◌, List, [], ◌∷◌, ◌++◌, drop, length, get_or, refl, ap, sym, ◌∙◌, append_assoc, add-one, suc}
use Rattle.std.proofs.Math.Seq.{drop-cons}
use Rattle.doc_model.specs.declared.edit.EditOp.{EditOp}
use Rattle.doc_model.specs.declared.edit.EditOp.TheVariants as op
use Rattle.edit_model.specs.Edit.{Edited, edited, touched, touched_by}

touched-any : (old other : Edited) (op : EditOp) → touched old op ≡ touched other op
touched-any old other (op.InsertText a b c) = refl
touched-any old other (op.DeleteRange a b c) = refl
touched-any old other (op.Split a b) = refl
touched-any old other (op.Join a) = refl
touched-any old other (op.MovePars a b c) = refl
touched-any old other (op.SetParStyle a b) = refl
touched-any old other (op.SetSpan a b c d) = refl
touched-any old other (op.SetHeading a b) = refl
touched-any old other (op.SetList a b) = refl
touched-any old other (op.InsertField a b c) = refl
touched-any old other (op.InsertNote a b c d) = refl
touched-any old other (op.AddBookmark a b c) = refl
touched-any old other (op.RemoveBookmark a) = refl
touched-any old other (op.WrapSection a b c d) = refl
touched-any old other (op.UnwrapSection a) = refl
touched-any old other (op.SetSection a b c) = refl
touched-any old other (op.DefineStyle a) = refl
touched-any old other (op.RemoveStyle a b) = refl
touched-any old other (op.SetParent a b c) = refl
touched-any old other (op.SetProp a b c) = refl
touched-any old other (op.AddDecl a b) = refl

pub touched_by-any : (old other : Edited) (ops : List EditOp) → touched_by old ops ≡ touched_by other ops
touched_by-any old other [] = refl
touched_by-any old other (op ∷ ops) =
    ap (λ (pars : List ℕ). pars ++ touched_by (edited old op) ops) (touched-any old other op)
    ∙ ap (λ (pars : List ℕ). touched other op ++ pars) (touched_by-any (edited old op) (edited other op) ops)

-- an edit, and then others, wherever these are made
pub touched_by-next : (old : Edited) (op : EditOp) (ops : List EditOp) → touched_by old (op ∷ ops) ≡ touched old op ++ touched_by old ops
touched_by-next old op ops = ap (λ (pars : List ℕ). touched old op ++ pars) (touched_by-any (edited old op) old ops)

-- what was touched so far, and then by the edits that are left, as the loop goes on
pub touched_more : (ops : List EditOp) (i : ℕ) (op : EditOp) (so_far more : List ℕ) → i < length ops → op ≡ get_or ops i op
    → ((old : Edited) → so_far ++ touched_by old (drop i ops) ≡ touched_by old ops) → ((old : Edited) → more ≡ so_far ++ touched old op)
    → (old : Edited) → more ++ touched_by old (drop (i + 1) ops) ≡ touched_by old ops
touched_more ops i op so_far more below is before added = λ old.
    let here : drop i ops ≡ op ∷ drop (i + 1) ops = drop-cons ops i op below ∙ (ap (λ (y : EditOp). y ∷ drop (suc i) ops) (sym is) ∙ ap (λ (n : ℕ). op ∷ drop n ops) (sym (add-one i))) in
    ap (λ (pars : List ℕ). pars ++ touched_by old (drop (i + 1) ops)) (added old)
    ∙ append_assoc so_far (touched old op) (touched_by old (drop (i + 1) ops))
    ∙ ap (λ (pars : List ℕ). so_far ++ pars) (sym (touched_by-next old op (drop (i + 1) ops)))
    ∙ ap (λ (rest : List EditOp). so_far ++ touched_by old rest) (sym here)
    ∙ before old
