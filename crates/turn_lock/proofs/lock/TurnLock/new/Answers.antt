use Rattle.std.proofs.Common.{rules, arith, ◌≡◌, ◌^◌, ◌<◌, [], ◌∷◌, Some, sym, ◌∙◌, subst}
use Rattle.atomic_table.specs.Table.{opening}
use Rattle.turn_lock.specs.declared.view.Terms.{Terms}
use Rattle.turn_lock.specs.Rule.{Kept, first_view}
use Rattle.turn_lock.proofs.Parting.{opens}
use Rattle.turn_lock.proofs.lock.TurnLock.new.Goals as goal

pub new-requires-2 : goal.new-requires-2
new-requires-2 g c = let t : Terms g.row.M.Denot g.row.M-Cmd.Denot g.row.M-Reply.Denot g.row.M-State.Denot = record { start = c.of.result; seats = c.args.seats; limit = c.args.limit } in
    let slots : c.push.new.self.items ≡ Some c.new.result ∷ [] = search rules in
    let narrow : c.args.limit < 2 ^ 32 = omega arith in let few : c.args.seats < 2 ^ 32 = omega arith in
    subst (λ xs. Kept t (opening (0 ∷ 0 ∷ []) xs (first_view t))) (sym slots) (opens g.M.Machine t c.new.result c.requires narrow few c.new.ensures.0 (c.new.ensures.1 ∙ sym c.of.ensures))
