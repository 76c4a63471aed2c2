use Rattle.std.proofs.Common.{◌≡◌, ◌∙◌, ◌++◌, ◌∷◌, [], ℕ, List, true, false, sym, ap, subst}
use Rattle.std.specs.Str.{chars}
use Rattle.std.proofs.lemmas.Bool.{not-true, not-false}
use Rattle.kept_names.specs.Firsts.{Holds}
use Rattle.kept_names.proofs.FirstLemmas.{came, knows_more, place_put, place_kept}
use Rattle.kept_names.proofs.firsts.Firsts.add.Goals as goal

pub returns-in_ok-add : goal.returns-in_ok-add
returns-in_ok-add c = λ before holds.
    let keys = c.args.self.now.names.keys in
    let key = c.as_text.result in
    let P : List ℕ → Type 0 = λ name. Holds (record { names = c.insert.new.self; places = c.add.new.self }) (before ++ record { place = c.args.one.place; name = name } ∷ []) in
    let gone : came keys key.now ≡ false = not-true _ (sym c.in_ok-insert.ensures.added ∙ c.if-branch.true) in
    subst P (ap chars c.as_text.ensures.same) (record {
      names = knows_more keys c.insert.new.self.keys key before c.args.one.place c.as_text.utf8 holds.names c.in_ok-insert.ensures.keys;
      places = place_put keys key before c.args.one.place c.args.self.now.places c.add.new.self c.as_text.utf8 holds.names gone holds.places c.in_ok-add.ensures;
    })

pub returns-else-branch : goal.returns-else-branch
returns-else-branch c = λ before holds.
    let keys = c.args.self.now.names.keys in
    let key = c.as_text.result in
    let P : List ℕ → Type 0 = λ name. Holds (record { names = c.insert.new.self; places = c.args.self.now.places }) (before ++ record { place = c.args.one.place; name = name } ∷ []) in
    let there : came keys key.now ≡ true = not-false _ (sym c.in_ok-insert.ensures.added ∙ c.if-branch.false) in
    subst P (ap chars c.as_text.ensures.same) (record {
      names = knows_more keys c.insert.new.self.keys key before c.args.one.place c.as_text.utf8 holds.names c.in_ok-insert.ensures.keys;
      places = place_kept keys key before c.args.one.place c.args.self.now.places c.as_text.utf8 holds.names there holds.places;
    })
