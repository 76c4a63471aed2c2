use Rattle.std.proofs.Common.{arith, ◌≡◌, ◌+◌, [], ◌∷◌, ◌++◌, length, sym, ap, ◌∙◌, subst}
use Rattle.turn_lock.specs.declared.view.Stage.TheVariants.{Resting}
use Rattle.turn_lock.specs.History.{calls_of}
use Rattle.turn_lock.specs.Rule.{HasTurn}
use Rattle.turn_lock.specs.Plays.{Saw, seeing}
use Rattle.turn_lock.proofs.Histories.{of_others}
use Rattle.turn_lock.proofs.Turning.{one_book, grown_entry}
use Rattle.turn_lock.proofs.lock.turn.answer.Goals as goal

pub free_turn-requires : goal.free_turn-requires
free_turn-requires g c = let q = c.requires.seat.0 in let slot = c.requires.slot in let out = c.slot_out-book.ensures in let back = c.slot_in.ensures in
    let same : c.slot_in.new.pass.me.0 ≡ c.args.pass.now.me.0 = back.same.1 ∙ out.same.1 in
    let one : slot.0 ≡ c.slot_out-book.result = one_book g.M.Machine c.args.top.now.key _ _ _ slot.1 out.slot.0 in record {
      seat = (back.same.0.0 ∙ (out.same.0.0 ∙ q.0), q.1, q.2, ap (λ v. v.terms) same ∙ q.3);
      turn = subst HasTurn (sym (ap (λ v. v.stage) same ∙ c.requires.seat.1)) tt;
      slot = (c.slot_out-book.result, back.slot, sym (ap (λ b. b.journal.items) one) ∙ (slot.2 ∙ sym (ap (λ v. v.known.seen) same)), sym (ap (λ b. b.start.value) one) ∙ slot.3);
    }

pub free_turn-requires-in-Err : goal.free_turn-requires-in-Err
free_turn-requires-in-Err g c = let q = c.requires.seat.0 in let slot = c.requires.slot in let out = c.slot_out-book.ensures in let back = c.slot_in-in-Err.ensures in
    let same : c.slot_in-in-Err.new.pass.me.0 ≡ c.args.pass.now.me.0 = back.same.1 ∙ out.same.1 in
    let one : slot.0 ≡ c.slot_out-book.result = one_book g.M.Machine c.args.top.now.key _ _ _ slot.1 out.slot.0 in record {
      seat = (back.same.0.0 ∙ (out.same.0.0 ∙ q.0), q.1, q.2, ap (λ v. v.terms) same ∙ q.3);
      turn = subst HasTurn (sym (ap (λ v. v.stage) same ∙ c.requires.seat.1)) tt;
      slot = (
        c.enter.new.self,
        back.slot,
        c.in-Err.ensures.refused ∙ (sym (ap (λ b. b.journal.items) one) ∙ (slot.2 ∙ sym (ap (λ v. v.known.seen) same))),
        c.enter.ensures.start ∙ (sym (ap (λ b. b.start.value) one) ∙ slot.3),
      );
    }

pub count_entry-requires : goal.count_entry-requires
count_entry-requires g c = let q = c.requires.seat.0 in let slot = c.requires.slot in let out = c.slot_out-book.ensures in let back = c.slot_in-in-Ok.ensures in
    let same : c.slot_in-in-Ok.new.pass.me.0 ≡ c.args.pass.now.me.0 = back.same.1 ∙ out.same.1 in
    let one : slot.0 ≡ c.slot_out-book.result = one_book g.M.Machine c.args.top.now.key _ _ _ slot.1 out.slot.0 in
    let items : c.slot_out-book.result.journal.items ≡ c.slot_in-in-Ok.new.pass.me.0.known.seen = sym (ap (λ b. b.journal.items) one) ∙ (slot.2 ∙ sym (ap (λ v. v.known.seen) same)) in
    let start : c.slot_out-book.result.start.value ≡ c.args.top.now.key.start.value = sym (ap (λ b. b.start.value) one) ∙ slot.3 in
    let size : length c.slot_out-book.result.journal.items ≡ length c.slot_in-in-Ok.new.pass.me.0.known.seen = ap length items in
    let told = c.requires.told in record {
      seat = (back.same.0.0 ∙ (out.same.0.0 ∙ q.0), q.1, q.2, ap (λ v. v.terms) same ∙ q.3);
      turn = ap (λ v. v.stage) same ∙ c.requires.seat.1;
      room = omega arith;
      entry = (
        c.enter.new.self,
        c.args.order.kept,
        back.slot,
        grown_entry g.M.Machine c.args.top.now.key c.slot_in-in-Ok.new.pass.me.0 c.slot_out-book.result _ c.in-Ok.entry c.args.order.kept c.args.caller items start (told.0 ∙ sym (ap (λ v. v.known.number) same))
            c.in-Ok.ensures.journal c.in-Ok.ensures.entry,
      );
    }

pub free_turn-requires-in-Ok : goal.free_turn-requires-in-Ok
free_turn-requires-in-Ok g c = let q = c.requires.seat.0 in let slot = c.requires.slot in let out = c.slot_out-book.ensures in let back = c.slot_in-in-Ok.ensures in
    let same : c.slot_in-in-Ok.new.pass.me.0 ≡ c.args.pass.now.me.0 = back.same.1 ∙ out.same.1 in
    let one : slot.0 ≡ c.slot_out-book.result = one_book g.M.Machine c.args.top.now.key _ _ _ slot.1 out.slot.0 in
    let did = c.count_entry.ensures in let now = (did.1 c.enter.new.self back.slot).0 in record {
      seat = (did.0.0 ∙ (back.same.0.0 ∙ (out.same.0.0 ∙ q.0)), q.1, q.2, ap (λ m. m.0.terms) now ∙ (ap (λ v. v.terms) same ∙ q.3));
      turn = subst HasTurn (sym (ap (λ m. m.0.stage) now)) tt;
      slot = (
        c.enter.new.self,
        ap (λ m. m.1) now ∙ back.slot,
        sym (ap (λ m. m.0.known.seen) now),
        c.enter.ensures.start ∙ (sym (ap (λ b. b.start.value) one) ∙ slot.3),
      );
    }

pub returns-in-Ok-clause-answer : goal.returns-in-Ok-clause-answer
returns-in-Ok-clause-answer g c = let q = c.requires.seat.0 in let slot = c.requires.slot in let out = c.slot_out-book.ensures in let back = c.slot_in-in-Ok.ensures in
    let same : c.slot_in-in-Ok.new.pass.me.0 ≡ c.args.pass.now.me.0 = back.same.1 ∙ out.same.1 in
    let one : slot.0 ≡ c.slot_out-book.result = one_book g.M.Machine c.args.top.now.key _ _ _ slot.1 out.slot.0 in
    let items : c.slot_out-book.result.journal.items ≡ c.args.pass.now.me.0.known.seen = sym (ap (λ b. b.journal.items) one) ∙ slot.2 in
    let size : length c.slot_out-book.result.journal.items ≡ length c.args.pass.now.me.0.known.seen = ap length items in
    let did = c.count_entry.ensures in let counts = did.1 c.enter.new.self back.slot in let now = counts.0 in let freed = c.free_turn-in-Ok.ensures.1 in
    let e = c.in-Ok.entry in let made = c.in-Ok.ensures.entry in
    let grown : c.enter.new.self.journal.items ≡ c.args.pass.now.me.0.known.seen ++ e ∷ [] = c.in-Ok.ensures.journal ∙ ap (λ x. x ++ e ∷ []) items in
    let ends : c.free_turn-in-Ok.new.pass.me.0 ≡ seeing c.slot_in-in-Ok.new.pass.me.0 c.enter.new.self.journal.items Resting = ap (λ m. m.0) freed ∙ ap (λ m. record m.0 { stage = Resting }) now in (
      ap (λ v. v.known.seen) ends ∙ grown,
      ap (λ x. x.number) made ∙ ap (λ n. n + 1) size,
      ap (λ x. x.caller) made,
      ap (λ x. x.cmd) made,
    )

pub returns-in-Ok-clause-saw : goal.returns-in-Ok-clause-saw
returns-in-Ok-clause-saw g c = let back = c.slot_in-in-Ok.ensures in let counts = c.count_entry.ensures.1 c.enter.new.self back.slot in
    let same : c.slot_in-in-Ok.new.pass.me.0 ≡ c.args.pass.now.me.0 = back.same.1 ∙ c.slot_out-book.ensures.same.1 in
    let known : c.count_entry.new.pass.me.0.known ≡ c.free_turn-in-Ok.new.pass.me.0.known = sym (ap (λ m. m.0.known) c.free_turn-in-Ok.ensures.1) in
    subst (Saw g.M.Machine c.args.top.now.key) known (counts.1 c.args.top.now.key (ap (λ v. v.terms) same ∙ c.requires.seat.0.3))

pub returns-in-Err-clause-saw : goal.returns-in-Err-clause-saw
returns-in-Err-clause-saw g c = let same : c.slot_in-in-Err.new.pass.me.0 ≡ c.args.pass.now.me.0 = c.slot_in-in-Err.ensures.same.1 ∙ c.slot_out-book.ensures.same.1 in
    subst (Saw g.M.Machine c.args.top.now.key) (sym (ap (λ m. m.0.known) c.free_turn-in-Err.ensures.1 ∙ ap (λ v. v.known) same)) c.requires.saw

pub returns-in-Ok-clause-seat : goal.returns-in-Ok-clause-seat
returns-in-Ok-clause-seat g c = let out = c.slot_out-book.ensures in let back = c.slot_in-in-Ok.ensures in
    let same : c.slot_in-in-Ok.new.pass.me.0 ≡ c.args.pass.now.me.0 = back.same.1 ∙ out.same.1 in
    let did = c.count_entry.ensures in let now = (did.1 c.enter.new.self back.slot).0 in let freed = c.free_turn-in-Ok.ensures in
    let seen : c.free_turn-in-Ok.new.pass.me.0.known.seen ≡ c.enter.new.self.journal.items = ap (λ m. m.0.known.seen) freed.1 ∙ ap (λ m. m.0.known.seen) now in (
      (freed.0.0 ∙ (did.0.0 ∙ (back.same.0.0 ∙ out.same.0.0)), freed.0.1 ∙ (did.0.1 ∙ (back.same.0.1 ∙ out.same.0.1))),
      freed.1 ∙ (ap (λ m. (record m.0 { stage = Resting }, [])) now ∙ (λ i. (seeing (same i) (sym seen i) Resting, []))),
    )

pub returns-in-Ok-clause-others : goal.returns-in-Ok-clause-others
returns-in-Ok-clause-others g c = let slot = c.requires.slot in let out = c.slot_out-book.ensures in let back = c.slot_in-in-Ok.ensures in
    let one : slot.0 ≡ c.slot_out-book.result = one_book g.M.Machine c.args.top.now.key _ _ _ slot.1 out.slot.0 in
    let items : c.slot_out-book.result.journal.items ≡ c.args.pass.now.me.0.known.seen = sym (ap (λ b. b.journal.items) one) ∙ slot.2 in
    let now = (c.count_entry.ensures.1 c.enter.new.self back.slot).0 in let e = c.in-Ok.entry in
    let seen : c.free_turn-in-Ok.new.pass.me.0.known.seen ≡ c.args.pass.now.me.0.known.seen ++ e ∷ [] =
    ap (λ m. m.0.known.seen) c.free_turn-in-Ok.ensures.1 ∙ (ap (λ m. m.0.known.seen) now ∙ (c.in-Ok.ensures.journal ∙ ap (λ x. x ++ e ∷ []) items)) in
    λ n other. ap (calls_of n) seen ∙ of_others n c.args.pass.now.me.0.known.seen e (λ is. other (sym is ∙ ap (λ x. x.caller) c.in-Ok.ensures.entry))
