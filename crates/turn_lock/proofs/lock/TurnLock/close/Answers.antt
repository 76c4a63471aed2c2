use Rattle.std.proofs.Common.{arith, ◌≡◌, ◌<◌, ◌≤◌, length, All, Some, IsSome, true, false, get_or, unwrap_or, refl, sym, ap, ◌∙◌, subst}
use mathlib.Core.Option.{some-injective}
use Rattle.std.specs.Slots.{slots_items, slots_filled, slots_len}
use Rattle.turn_lock.specs.History.{state_after, IsLegal}
use Rattle.turn_lock.proofs.Parting.{Closes, closes}
use Rattle.turn_lock.proofs.lock.TurnLock.close.Goals as goal

pub take-slot-requires : goal.take-slot-requires
take-slot-requires g c = let closed = c.close_with-closed in let size : slots_len closed.result.slots ≡ 1 = closed.ensures.counts.1 ∙ c.args.self.sized.1 in
    let full : get_or (slots_filled closed.result.slots) 0 false ≡ true = closed.ensures.values.1 0 (omega arith) (omega arith) in (omega arith, full)

pub unwrap-requires : goal.unwrap-requires
unwrap-requires g c = let lock = c.args.self in let seat = c.args.seat in let t = lock.table.shared.key in let closed = c.close_with-closed in
    let found : Closes g.M.Machine t seat.pass.me.0 (slots_items closed.result.slots) = closes g.M.Machine t seat.pass.id seat.pass.me.0 _ _ (c.requires.seat.1 ∙ ap (λ u. Some u) (sym lock.keyed)) seat.rests.0
    (λ n l. c.requires.all n (subst (λ u. n < u.seats) lock.keyed l)) closed.ensures.values.2 in
    let same : c.take-slot.result ≡ Some found.book = some-injective c.take-slot.result (Some found.book) (sym c.take-slot.ensures.value ∙ found.slot) in
    subst IsSome (sym same) refl

pub returns-clause-journal : goal.returns-clause-journal
returns-clause-journal g c = let lock = c.args.self in let seat = c.args.seat in let t = lock.table.shared.key in let closed = c.close_with-closed in
    let found : Closes g.M.Machine t seat.pass.me.0 (slots_items closed.result.slots) = closes g.M.Machine t seat.pass.id seat.pass.me.0 _ _ (c.requires.seat.1 ∙ ap (λ u. Some u) (sym lock.keyed)) seat.rests.0
    (λ n l. c.requires.all n (subst (λ u. n < u.seats) lock.keyed l)) closed.ensures.values.2 in
    let same : c.take-slot.result ≡ Some found.book = some-injective c.take-slot.result (Some found.book) (sym c.take-slot.ensures.value ∙ found.slot) in
    let one : c.unwrap.result ≡ found.book = ap (λ o. unwrap_or o found.book) (sym c.unwrap.ensures ∙ same) in
    ap (λ b. b.journal.items) one ∙ found.journal

pub returns-clause-legal : goal.returns-clause-legal
returns-clause-legal g c = let lock = c.args.self in let seat = c.args.seat in let t = lock.table.shared.key in let closed = c.close_with-closed in
    let found : Closes g.M.Machine t seat.pass.me.0 (slots_items closed.result.slots) = closes g.M.Machine t seat.pass.id seat.pass.me.0 _ _ (c.requires.seat.1 ∙ ap (λ u. Some u) (sym lock.keyed)) seat.rests.0
    (λ n l. c.requires.all n (subst (λ u. n < u.seats) lock.keyed l)) closed.ensures.values.2 in (
      subst (λ u. IsLegal g.M.Machine.reply g.M.Machine.after (g.M.Machine.state u.start.value) seat.pass.me.0.known.seen) lock.keyed found.legal,
      subst (λ u. length seat.pass.me.0.known.seen ≤ u.limit) lock.keyed found.within,
    )

pub returns-clause-callers : goal.returns-clause-callers
returns-clause-callers g c = let lock = c.args.self in let seat = c.args.seat in let t = lock.table.shared.key in let closed = c.close_with-closed in
    let found : Closes g.M.Machine t seat.pass.me.0 (slots_items closed.result.slots) = closes g.M.Machine t seat.pass.id seat.pass.me.0 _ _ (c.requires.seat.1 ∙ ap (λ u. Some u) (sym lock.keyed)) seat.rests.0
    (λ n l. c.requires.all n (subst (λ u. n < u.seats) lock.keyed l)) closed.ensures.values.2 in
    subst (λ u. All (λ e. e.caller < u.seats) seat.pass.me.0.known.seen) lock.keyed found.callers

pub returns-clause-machine : goal.returns-clause-machine
returns-clause-machine g c = let lock = c.args.self in let seat = c.args.seat in let t = lock.table.shared.key in let closed = c.close_with-closed in
    let found : Closes g.M.Machine t seat.pass.me.0 (slots_items closed.result.slots) = closes g.M.Machine t seat.pass.id seat.pass.me.0 _ _ (c.requires.seat.1 ∙ ap (λ u. Some u) (sym lock.keyed)) seat.rests.0
    (λ n l. c.requires.all n (subst (λ u. n < u.seats) lock.keyed l)) closed.ensures.values.2 in
    let same : c.take-slot.result ≡ Some found.book = some-injective c.take-slot.result (Some found.book) (sym c.take-slot.ensures.value ∙ found.slot) in
    let one : c.unwrap.result ≡ found.book = ap (λ o. unwrap_or o found.book) (sym c.unwrap.ensures ∙ same) in
    let start : c.unwrap.result.start.value ≡ lock.terms.start.value = ap (λ b. b.start.value) one ∙ (found.start ∙ ap (λ u. u.start.value) lock.keyed) in
    let journal : c.unwrap.result.journal.items ≡ seat.pass.me.0.known.seen = ap (λ b. b.journal.items) one ∙ found.journal in
    c.unwrap.result.stands ∙ (λ i. state_after g.M.Machine.after (g.M.Machine.state (start i)) (journal i))
