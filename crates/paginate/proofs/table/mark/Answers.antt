use Rattle.std.proofs.Common.{◌≡◌, ◌∙◌, Option, ℕ, true, false, ap, sym, arith, get_or}
use Rattle.std.specs.Option.{is_some}
use Rattle.paginate.proofs.TableLemmas.{marked-out, marked-same, marked-set}
use Rattle.paginate.proofs.table.mark.Goals as goal

pub returns-then-place-len : goal.returns-then-place-len
returns-then-place-len c = marked-out c.args.place c.args.page c.args.found.now.items (omega (arith, c.args.found.now.ok))

pub returns-then-is_some : goal.returns-then-is_some
returns-then-is_some c =
    let some : is_some (get_or c.args.found.now.items c.args.place c.index.result.now) ≡ true = sym (ap (λ (o : Option ℕ). is_some o) c.index.ensures) ∙ sym c.is_some.ensures ∙ c.if-is_some.true in
    marked-same c.args.place c.args.page c.args.found.now.items c.index.result.now (omega (arith, c.args.found.now.ok)) some

pub returns : goal.returns
returns c =
    let none : is_some (get_or c.args.found.now.items c.args.place c.index.result.now) ≡ false = sym (ap (λ (o : Option ℕ). is_some o) c.index.ensures) ∙ sym c.is_some.ensures ∙ c.if-is_some.false in
    marked-set c.args.place c.args.page c.args.found.now.items c.index.result.now (omega (arith, c.args.found.now.ok)) none
