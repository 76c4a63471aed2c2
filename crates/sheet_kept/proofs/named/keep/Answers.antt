use Rattle.std.proofs.Common.{◌∙◌, ◌++◌, ◌∷◌, [], map, ap, sym, cond, refl, chars}
use Rattle.std.proofs.lemmas.Bool.{not-true, not-false}
use Rattle.std.proofs.lemmas.List.{map-append}
use Rattle.sheet_kept.proofs.NamedLemmas.{keeps_known, keeps_new}
use Rattle.sheet_kept.proofs.named.keep.Goals as goal

pub returns-in_ok-push-in-Some : goal.returns-in_ok-push-in-Some
returns-in_ok-push-in-Some c = λ elements keeps.
    let new = not-true _ (sym c.in_ok-add-in-Some.ensures.is_new ∙ c.if-branch.true) in
    keeps_new c.args.tag elements c.args.element.now (chars c.in-Some.name.now) (sym c.is.ensures ∙ c.if-not-is.false) c.in-Some.ensures
    c.args.kept.now _ new
    (ap (map (λ one. one.now)) c.in_ok-push-in-Some.ensures.items ∙ map-append (λ one. one.now) c.args.kept.now.elements.items (c.args.element ∷ []))
    (c.in_ok-add-in-Some.ensures.names ∙ ap (λ b. cond b c.args.kept.now.names (c.args.kept.now.names ++ chars c.in-Some.name.now ∷ [])) new)
    keeps

pub returns-else-branch : goal.returns-else-branch
returns-else-branch c = λ elements keeps.
    let known = not-false _ (sym c.in_ok-add-in-Some.ensures.is_new ∙ c.if-branch.false) in
    keeps_known c.args.tag elements c.args.element.now (chars c.in-Some.name.now) (sym c.is.ensures ∙ c.if-not-is.false) c.in-Some.ensures
    c.args.kept.now _ known refl
    (c.in_ok-add-in-Some.ensures.names ∙ ap (λ b. cond b c.args.kept.now.names (c.args.kept.now.names ++ chars c.in-Some.name.now ∷ [])) known)
    keeps
