use Rattle.std.proofs.Common.{◌∙◌, ◌++◌, ◌∷◌, [], List, ℕ, ap, sym, cond, refl, chars, subst}
use Rattle.std.proofs.lemmas.Bool.{not-true, not-false}
use Rattle.met_read.specs.Read.{name_of}
use Rattle.declared_names.specs.Used.{Uses}
use Rattle.declared_names.proofs.UseLemmas.{used_again, used_new}
use Rattle.declared_names.proofs.used.add.Goals as goal

pub returns-in_ok-push : goal.returns-in_ok-push
returns-in_ok-push c = λ stated before uses.
    let old = c.args.names.now in
    let name = chars c.args.one.name.now in
    let new = not-true _ (sym c.in_ok-add.ensures.is_new ∙ c.if-branch.true) in
    subst (λ (names : List (List ℕ)). Uses stated (before ++ name_of c.args.one ∷ []) names c.push.new.self.items) (sym (c.in_ok-add.ensures.names ∙ ap (λ b. cond b old (old ++ name ∷ [])) new))
    (used_new stated before old c.args.used.now.items uses (name_of c.args.one) c.push.new.self.items c.args.one new c.in_ok-push.ensures.items refl)

pub returns-else-branch : goal.returns-else-branch
returns-else-branch c = λ stated before uses.
    let old = c.args.names.now in
    let name = chars c.args.one.name.now in
    let known = not-false _ (sym c.in_ok-add.ensures.is_new ∙ c.if-branch.false) in
    subst (λ (names : List (List ℕ)). Uses stated (before ++ name_of c.args.one ∷ []) names c.args.used.now.items) (sym (c.in_ok-add.ensures.names ∙ ap (λ b. cond b old (old ++ name ∷ [])) known))
    (used_again stated before old c.args.used.now.items uses (name_of c.args.one) known)
