use Rattle.std.proofs.Common.{ap, ◌∙◌, arith}
use Rattle.doc_model.specs.declared.document.Document.{Document}
use Rattle.desk_model.specs.declared.reply.Reply.{Reply}
use Rattle.round_model.specs.Rounds.{pages_in, last_round}
use Rattle.desk_model.specs.Desk.{State}
use Rattle.desk.proofs.PageReplies.{page_reply-settled}
use Rattle.desk.proofs.desk.Desk.page.Goals as goal

pub returns : goal.returns
returns c =
    let with_state : Reply → Reply × State = λ reply. (reply, c.args.self.now) in
    let present = c.present.ensures ∙ ap (λ (state : State). state.past.present) c.self.view_is in
    ap with_state (page_reply-settled c.args.self.now c.args.index c.page_reply.result c.in_ok-pages.pages
    (omega (arith, c.if-debt-ne0.false, c.debt-debt.ensures, ap (λ (state : State). state.idle.debt) c.self.view_is))
    (c.in_ok-pages.ensures ∙ ap (λ (doc : Document). pages_in doc (last_round doc)) present)
    (record { zero = c.page_reply.ensures.zero; page = c.page_reply.ensures.page; none = c.page_reply.ensures.none }))
