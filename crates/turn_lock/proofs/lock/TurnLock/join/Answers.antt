use Rattle.std.proofs.Common.{arith, ◌≡◌, ◌≤◌, length, Some, sym, ap, ◌∙◌, subst, refl, inl, inr}
use Rattle.turn_lock.specs.declared.view.Stage.TheVariants.{Resting}
use Rattle.turn_lock.specs.History.{calls_of}
use Rattle.turn_lock.specs.Numbers.{IsApart, Gains}
use Rattle.turn_lock.specs.Rule.{joined_view}
use Rattle.turn_lock.proofs.Gaining.{gains_of, by_length}
use Rattle.turn_lock.proofs.lock.TurnLock.join.Goals as goal

pub compare_seen-requires-clause-met : goal.compare_seen-requires-clause-met
compare_seen-requires-clause-met g c = (c.args.seat.now.pass.me.0.known, c.args.other.pass.me.0.known, ap (λ m. m.0.stage) c.join_pass.ensures.1)

pub invariant_of-seat : goal.invariant_of-seat
invariant_of-seat g c = let seat = c.args.seat.now in let v = seat.pass.me.0 in let w = c.args.other.pass.me.0 in let new = c.compare_seen.new.pass.me in let met = c.join_pass.ensures.1 in let did = c.compare_seen.ensures.1 in
    let now : new ≡ (record (joined_view v w) { stage = Resting }, seat.pass.me.1) = did.0 ∙ ap (λ m. (record m.0 { stage = Resting }, m.1)) met in
    let gains : Gains v.known new.0.known.seen = subst (Gains v.known) (sym (ap (λ m. m.0.known.seen) did.0)) (did.1 v.known w.known (ap (λ m. m.0.stage) met)).0 in
    let left : new.0.known.left ≡ v.known.left = ap (λ m. m.0.known.left) now in record {
      numbers = (seat.numbers.0 ∙ sym (ap (λ m. m.0.known.number) now), seat.numbers.1 ∙ sym left);
      rests = (ap (λ m. m.0.stage) now, ap (λ m. m.1) now ∙ seat.rests.1);
      apart = subst (λ m. IsApart m.0.known m.0.known.number) (sym did.0) did.2;
      within = λ t of. let terms : v.terms ≡ Some t = sym (ap (λ m. m.0.terms) now) ∙ of in
          subst (λ h. length h ≤ t.limit) (sym (ap (λ m. m.0.known.seen) now)) (by_length v.known.seen w.known.seen (λ h. length h ≤ t.limit)
          (λ _. c.args.other.within t (c.requires.other.1 ∙ (sym c.requires.seat.1 ∙ terms))) (λ _. seat.within t terms));
      ungiven = λ n low high. let within : n ≤ v.known.left = omega arith in ap length (gains_of v.known new.0.known.seen gains n (inr (inl (low, within)))) ∙ seat.ungiven n low within;
    }

pub returns-clause-own : goal.returns-clause-own
returns-clause-own g c = let seat = c.args.seat.now in let v = seat.pass.me.0 in let w = c.args.other.pass.me.0 in let new = c.compare_seen.new.pass.me in let met = c.join_pass.ensures.1 in let did = c.compare_seen.ensures.1 in
    let now : new ≡ (record (joined_view v w) { stage = Resting }, seat.pass.me.1) = did.0 ∙ ap (λ m. (record m.0 { stage = Resting }, m.1)) met in
    let gains : Gains v.known new.0.known.seen = subst (Gains v.known) (sym (ap (λ m. m.0.known.seen) did.0)) (did.1 v.known w.known (ap (λ m. m.0.stage) met)).0 in
    ap (λ n. calls_of n new.0.known.seen) (ap (λ m. m.0.known.number) now) ∙ gains_of v.known new.0.known.seen gains v.known.number (inl refl)

pub returns-clause-room : goal.returns-clause-room
returns-clause-room g c = let seat = c.args.seat.now in let v = seat.pass.me.0 in let w = c.args.other.pass.me.0 in let t = c.args.self.now.terms in let met = c.join_pass.ensures.1 in
    let seen = ap (λ m. m.0.known.seen) c.compare_seen.ensures.1.0 ∙ ap (λ m. m.0.known.seen) met in
    subst (λ h. length h ≤ t.limit) (sym seen) (by_length v.known.seen w.known.seen (λ h. length h ≤ t.limit) (λ _. c.args.other.within t c.requires.other.1) (λ _. seat.within t c.requires.seat.1))
