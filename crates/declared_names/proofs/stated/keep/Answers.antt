use Rattle.std.proofs.Common.{◌∙◌, ◌++◌, ◌∷◌, [], ap, sym, cond, refl, chars}
use Rattle.std.proofs.lemmas.Bool.{not-true, not-false}
use Rattle.declared_names.specs.Kept.{stated_of}
use Rattle.declared_names.proofs.FirstLemmas.{keeps_again, keeps_new}
use Rattle.declared_names.proofs.stated.keep.Goals as goal

pub returns-in_ok-push : goal.returns-in_ok-push
returns-in_ok-push c = λ before keeps.
    let old = c.args.kept.now in
    let name = chars c.args.one.name.now in
    let new = not-true _ (sym c.in_ok-add.ensures.is_new ∙ c.if-branch.true) in
    keeps_new before old keeps (stated_of c.args.one) (record { kept = c.push.new.self; names = c.add.new.self }) c.args.one new c.in_ok-push.ensures.items refl
    (c.in_ok-add.ensures.names ∙ ap (λ b. cond b old.names (old.names ++ name ∷ [])) new)

pub returns-else-branch : goal.returns-else-branch
returns-else-branch c = λ before keeps.
    let old = c.args.kept.now in
    let name = chars c.args.one.name.now in
    let known = not-false _ (sym c.in_ok-add.ensures.is_new ∙ c.if-branch.false) in
    keeps_again before old keeps (stated_of c.args.one) (record { kept = old.kept; names = c.add.new.self }) known refl
    (c.in_ok-add.ensures.names ∙ ap (λ b. cond b old.names (old.names ++ name ∷ [])) known)
