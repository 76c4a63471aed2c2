use Rattle.std.proofs.Common.{◌+◌, ◌∙◌, ap, sym, List}
use Rattle.desk_model.specs.declared.reply.Reply.{Reply}
use Rattle.desk_model.specs.Desk.{State}
use Rattle.desk.proofs.Runs.{steps-more, on_err}
use Rattle.desk.proofs.desk.Desk.answer.Goals as goal

pub returns-in_err-push-clause-err : goal.returns-in_err-push-clause-err
returns-in_err-push-clause-err c =
    let more = steps-more c.args.self.now c.commands.self c.step.new.self c.args.commands.now c.commands.command-index c.command-item.result c.commands.replies c.in_ok-reply.reply
    c.commands-test.true c.command-item.is c.commands.invariant c.in_ok-reply.ensures.ok in
    on_err c.from_residual-in_err-push.result (c.commands.command-index + 1, ap (λ (run : List Reply × State). run.1) (sym more))

pub commands-preserved : goal.commands-preserved
commands-preserved c =
    let more = steps-more c.args.self.now c.commands.self c.step.new.self c.args.commands.now c.commands.command-index c.command-item.result c.commands.replies c.in_ok-reply.reply
    c.commands-test.true c.command-item.is c.commands.invariant c.in_ok-reply.ensures.ok in
    let with_state : List Reply → List Reply × State = λ replies. (replies, c.step.new.self) in
    more ∙ ap with_state (sym c.in_ok-push.ensures.ok)
