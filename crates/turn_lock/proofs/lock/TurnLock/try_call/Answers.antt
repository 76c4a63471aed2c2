use Rattle.std.proofs.Common.{arith, ◌≡◌, ◌≤◌, ◌∷◌, length, Some, refl, sym, ap, ◌∙◌, subst}
use Rattle.turn_lock.specs.Numbers.{Gains}
use Rattle.turn_lock.proofs.Sitting.{same_terms}
use Rattle.turn_lock.proofs.Gaining.{gains_itself}
use Rattle.turn_lock.proofs.Calling.{on_err, apart_still, ungiven_after}
use Rattle.turn_lock.proofs.lock.TurnLock.try_call.Goals as goal

pub take_turn-found-requires : goal.take_turn-found-requires
take_turn-found-requires g c = let lock = c.args.self.now in let seat = c.args.seat.now in record {
  seat = (c.requires.0, lock.sized.0, lock.sized.1, c.requires.1 ∙ ap (λ t. Some t) (sym lock.keyed));
  rests = (seat.rests.0, seat.numbers.0);
}

pub answer-requires : goal.answer-requires
answer-requires g c = let lock = c.args.self.now in let seat = c.args.seat.now in let turn = c.take_turn-found.ensures.1.0 c.if-found-ne0.false in let now = turn.1 in
    let facts = turn.3 lock.table.shared.key (c.requires.1 ∙ ap (λ t. Some t) (sym lock.keyed)) in record {
      seat = ((c.take_turn-found.ensures.0.0 ∙ c.requires.0, lock.sized.0, lock.sized.1, ap (λ m. m.0.terms) now ∙ (c.requires.1 ∙ ap (λ t. Some t) (sym lock.keyed))), ap (λ m. m.0.stage) now);
      slot = (turn.0, ap (λ m. m.1) now ∙ ap (λ x. (0, Some turn.0) ∷ x) seat.rests.1, sym (ap (λ m. m.0.known.seen) now), facts.0);
      saw = facts.1;
      told = (seat.numbers.0 ∙ sym (ap (λ m. m.0.known.number) now), ap (λ t. t.limit) (sym lock.keyed));
    }

pub invariant_of-seat-2 : goal.invariant_of-seat-2
invariant_of-seat-2 g c = let seat = c.args.seat.now in let turn = c.take_turn-found.ensures.1.0 c.if-found-ne0.false in let now = turn.1 in let did = c.answer.ensures in let last = did.seat.1 in
    let number = ap (λ m. m.0.known.number) last ∙ ap (λ m. m.0.known.number) now in let left : c.answer.new.pass.me.0.known.left ≡ seat.pass.me.0.known.left = ap (λ m. m.0.known.left) last ∙ ap (λ m. m.0.known.left) now in
    let held : c.take_turn-found.new.pass.me.0.known.seen ≡ turn.0.journal.items = ap (λ m. m.0.known.seen) now in let lock = c.args.self.now in
    let terms = ap (λ m. m.0.terms) last ∙ (ap (λ m. m.0.terms) now ∙ (c.requires.1 ∙ ap (λ u. Some u) (sym lock.keyed))) in record {
      numbers = (seat.numbers.0 ∙ sym number, seat.numbers.1 ∙ sym left);
      rests = (ap (λ m. m.0.stage) last, ap (λ m. m.1) last);
      apart = apart_still seat.pass.me.0.known c.answer.new.pass.me.0.known (number, left, ap (λ m. m.0.known.joined) last ∙ ap (λ m. m.0.known.joined) now) seat.apart;
      within = λ t of. subst (λ u. length c.answer.new.pass.me.0.known.seen ≤ u.limit) (same_terms lock.table.shared.key c.answer.new.pass.me.0.terms t terms of) did.saw.within.0;
      ungiven = λ n low high. let within : n ≤ seat.pass.me.0.known.left = omega arith in
          ungiven_after seat.pass.me.0.known c.take_turn-found.new.pass.me.0.known.seen c.answer.new.pass.me.0.known.seen (subst (Gains seat.pass.me.0.known) (sym held) turn.2)
          (λ m other. did.others m (λ e. other (e ∙ seat.numbers.0))) seat.apart seat.ungiven n low within;
    }

pub returns-in_err-order-clause-refused : goal.returns-in_err-order-clause-refused
returns-in_err-order-clause-refused g c = let k = c.args.seat.now.pass.me.0.known in on_err c.from_residual.result _ (gains_itself k k.seen refl, refl)
