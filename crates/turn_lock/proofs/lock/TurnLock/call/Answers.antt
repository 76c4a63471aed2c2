use Rattle.std.proofs.Common.{arith, ◌≡◌, ◌≤◌, ◌∷◌, length, Some, refl, sym, ap, ◌∙◌, subst}
use Rattle.std.proofs.lemmas.Result.{IfOk-weaker, on_err_weaker}
use Rattle.turn_lock.specs.History.{calls_of}
use Rattle.turn_lock.specs.Numbers.{Gains}
use Rattle.turn_lock.proofs.Sitting.{same_terms}
use Rattle.turn_lock.proofs.Gaining.{gains_itself}
use Rattle.turn_lock.proofs.Calling.{on_err, apart_still, ungiven_after, grown_by, number_is, own_kept}
use Rattle.turn_lock.proofs.lock.TurnLock.call.Goals as goal

pub wait_for_turn-requires : goal.wait_for_turn-requires
wait_for_turn-requires g c = let lock = c.args.self.now in let seat = c.args.seat.now in record {
  seat = (c.requires.0, lock.sized.0, lock.sized.1, c.requires.1 ∙ ap (λ t. Some t) (sym lock.keyed));
  rests = (seat.rests.0, seat.numbers.0);
}

pub answer-requires : goal.answer-requires
answer-requires g c = let lock = c.args.self.now in let seat = c.args.seat.now in let turn = c.wait_for_turn.ensures.1.2 in let now = turn.1 in
    let facts = turn.3 lock.table.shared.key (c.requires.1 ∙ ap (λ t. Some t) (sym lock.keyed)) in record {
      seat = ((c.wait_for_turn.ensures.0.0 ∙ c.requires.0, lock.sized.0, lock.sized.1, ap (λ m. m.0.terms) now ∙ (c.requires.1 ∙ ap (λ t. Some t) (sym lock.keyed))), ap (λ m. m.0.stage) now);
      slot = (turn.0, ap (λ m. m.1) now ∙ ap (λ x. (0, Some turn.0) ∷ x) seat.rests.1, sym (ap (λ m. m.0.known.seen) now), facts.0);
      saw = facts.1;
      told = (seat.numbers.0 ∙ sym (ap (λ m. m.0.known.number) now), ap (λ t. t.limit) (sym lock.keyed));
    }

pub invariant_of-seat : goal.invariant_of-seat
invariant_of-seat g c = let seat = c.args.seat.now in let turn = c.wait_for_turn.ensures.1.2 in let now = turn.1 in let did = c.answer.ensures in let last = did.seat.1 in
    let number = ap (λ m. m.0.known.number) last ∙ ap (λ m. m.0.known.number) now in let left : c.answer.new.pass.me.0.known.left ≡ seat.pass.me.0.known.left = ap (λ m. m.0.known.left) last ∙ ap (λ m. m.0.known.left) now in
    let held : c.wait_for_turn.new.pass.me.0.known.seen ≡ turn.0.journal.items = ap (λ m. m.0.known.seen) now in let lock = c.args.self.now in
    let terms = ap (λ m. m.0.terms) last ∙ (ap (λ m. m.0.terms) now ∙ (c.requires.1 ∙ ap (λ u. Some u) (sym lock.keyed))) in record {
      numbers = (seat.numbers.0 ∙ sym number, seat.numbers.1 ∙ sym left);
      rests = (ap (λ m. m.0.stage) last, ap (λ m. m.1) last);
      apart = apart_still seat.pass.me.0.known c.answer.new.pass.me.0.known (number, left, ap (λ m. m.0.known.joined) last ∙ ap (λ m. m.0.known.joined) now) seat.apart;
      within = λ t of. subst (λ u. length c.answer.new.pass.me.0.known.seen ≤ u.limit) (same_terms lock.table.shared.key c.answer.new.pass.me.0.terms t terms of) did.saw.within.0;
      ungiven = λ n low high. let within : n ≤ seat.pass.me.0.known.left = omega arith in
          ungiven_after seat.pass.me.0.known c.wait_for_turn.new.pass.me.0.known.seen c.answer.new.pass.me.0.known.seen (subst (Gains seat.pass.me.0.known) (sym held) turn.2)
          (λ m other. did.others m (λ e. other (e ∙ seat.numbers.0))) seat.apart seat.ungiven n low within;
    }

pub returns-in_err-order-clause-refused : goal.returns-in_err-order-clause-refused
returns-in_err-order-clause-refused g c = let k = c.args.seat.now.pass.me.0.known in on_err c.from_residual.result _ (gains_itself k k.seen refl, refl)

pub returns-clause-grown : goal.returns-clause-grown
returns-clause-grown g c = let k = c.args.seat.now.pass.me.0.known in let turn = c.wait_for_turn.ensures.1.2 in let h = c.wait_for_turn.new.pass.me.0.known.seen in
    let gains : Gains k h = subst (Gains k) (sym (ap (λ m. m.0.known.seen) turn.1)) turn.2 in
    IfOk-weaker c.answer.result _ _ (λ e made. grown_by k h c.answer.new.pass.me.0.known.seen gains e made.0) c.answer.ensures.answer

pub returns-clause-entry : goal.returns-clause-entry
returns-clause-entry g c = let seat = c.args.seat.now in let k = seat.pass.me.0.known in let turn = c.wait_for_turn.ensures.1.2 in let h = c.wait_for_turn.new.pass.me.0.known.seen in
    let gains : Gains k h = subst (Gains k) (sym (ap (λ m. m.0.known.seen) turn.1)) turn.2 in
    IfOk-weaker c.answer.result _ _ (λ e made. (number_is k h c.answer.new.pass.me.0.known.seen gains e made.0 made.1, made.2 ∙ seat.numbers.0, made.3 ∙ c.in_ok-order.ensures)) c.answer.ensures.answer

pub returns-clause-refused : goal.returns-clause-refused
returns-clause-refused g c = let k = c.args.seat.now.pass.me.0.known in let turn = c.wait_for_turn.ensures.1.2 in let h = c.wait_for_turn.new.pass.me.0.known.seen in let s = c.answer.new.pass.me.0.known.seen in
    let gains : Gains k h = subst (Gains k) (sym (ap (λ m. m.0.known.seen) turn.1)) turn.2 in
    let number : c.answer.new.pass.me.0.known.number ≡ k.number = ap (λ m. m.0.known.number) c.answer.ensures.seat.1 ∙ ap (λ m. m.0.known.number) turn.1 in
    on_err_weaker c.answer.result (λ (same : s ≡ h). (subst (Gains k) (sym same) gains, ap (λ n. calls_of n s) number ∙ own_kept k h s gains same)) c.answer.ensures.refused
