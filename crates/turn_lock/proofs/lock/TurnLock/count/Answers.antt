use Rattle.std.proofs.Common.{arith, ◌≡◌, ◌≤◌, length, sym, ap, ◌∙◌, inl, inr}
use Rattle.turn_lock.specs.History.{calls_of}
use Rattle.turn_lock.proofs.Gaining.{gains_of}
use Rattle.turn_lock.proofs.Calling.{apart_still}
use Rattle.turn_lock.proofs.lock.TurnLock.count.Goals as goal

pub overflow_cast-result : goal.overflow_cast-result
overflow_cast-result g c = let read = c.load_count.ensures.1 in let saw = read.4 c.args.self.now.terms c.requires.1 in let within = saw.within in
    let shown : length c.load_count.new.pass.me.0.known.seen ≡ length read.0 = ap (λ m. length m.0.known.seen) read.1 in let size = read.3 in omega arith

pub returns-clause-legal : goal.returns-clause-legal
returns-clause-legal g c = let read = c.load_count.ensures.1 in let saw = read.4 c.args.self.now.terms c.requires.1 in let within = saw.within in
    let shown : length c.load_count.new.pass.me.0.known.seen ≡ length read.0 = ap (λ m. length m.0.known.seen) read.1 in let size = read.3 in (saw.legal, omega arith)

pub invariant_of-seat : goal.invariant_of-seat
invariant_of-seat g c = let seat = c.args.seat.now in let k = seat.pass.me.0.known in let read = c.load_count.ensures.1 in let now = read.1 in
    let left : c.load_count.new.pass.me.0.known.left ≡ k.left = ap (λ m. m.0.known.left) now in record {
      numbers = (seat.numbers.0 ∙ sym (ap (λ m. m.0.known.number) now), seat.numbers.1 ∙ sym left);
      rests = (ap (λ m. m.0.stage) now, ap (λ m. m.1) now ∙ seat.rests.1);
      apart = apart_still k c.load_count.new.pass.me.0.known (ap (λ m. m.0.known.number) now, left, ap (λ m. m.0.known.joined) now) seat.apart;
      within = λ t of. (read.4 t (sym (ap (λ m. m.0.terms) now) ∙ of)).within.0;
      ungiven = λ n low high. let inside : n ≤ k.left = omega arith in
          ap (λ m. length (calls_of n m.0.known.seen)) now ∙ (ap length (gains_of k read.0 read.2 n (inr (inl (low, inside)))) ∙ seat.ungiven n low inside);
    }
