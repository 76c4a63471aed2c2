use Rattle.std.proofs.Common.{◌∙◌, ap, sym, arith, ℕ, Some}
use Rattle.std.specs.Option.{option_map}
use Rattle.line_model.specs.declared.job.Stamp.{Stamp}
use Rattle.round_model.specs.Idle.{Idle, stamp_of}
use Rattle.idle_queue.proofs.Publishing.{live_at-items, stamp-zero}
use Rattle.idle_queue.proofs.agenda.Agenda.stamp.Goals as goal

pub returns-then-number-eq0 : goal.returns-then-number-eq0
returns-then-number-eq0 c = stamp-zero c.args.self.now c.args.number c.requires c.if-number-eq0.true

pub returns-in_err-live : goal.returns-in_err-live
returns-in_err-live c =
    let found = live_at-items c.args.self.now c.args.number c.as_slice.result.now (c.as_slice.ensures.value ∙ ap (λ (idle : Idle). idle.live) c.self.view_is) c.requires (omega arith) in
    c.from_residual.ensures ∙ ap (option_map (stamp_of c.args.self.now)) (c.in_err-live.ensures ∙ sym found)

pub returns : goal.returns
returns c =
    let found = live_at-items c.args.self.now c.args.number c.as_slice.result.now (c.as_slice.ensures.value ∙ ap (λ (idle : Idle). idle.live) c.self.view_is) c.requires (omega arith) in
    ap (λ (stamp : Stamp). Some stamp) c.stamp_of.ensures ∙ ap (option_map (stamp_of c.args.self.now)) (c.in_ok-live.ensures ∙ sym found)
