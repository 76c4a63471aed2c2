use Rattle.std.proofs.Common.{◌∙◌, ◌-◌, ap, sym, arith, List}
use Rattle.std.specs.Prelude.{slice_get}
use Rattle.std.specs.Option.{option_copied}
use Rattle.doc_model.specs.declared.block.Block.{Block}
use Rattle.desk.proofs.LiveParagraph.{live_paragraph-zero, live_paragraph-none, live_paragraph-some, live_paragraph-section}
use Rattle.desk.proofs.live.live_paragraph.Goals as goal

pub returns-then-par-eq0 : goal.returns-then-par-eq0
returns-then-par-eq0 c = live_paragraph-zero c.args.document.now c.requires c.args.par c.if-par-eq0.true

pub returns-in_err-live : goal.returns-in_err-live
returns-in_err-live c =
    ap option_copied c.from_residual.ensures
    ∙ live_paragraph-none c.args.document.now c.requires c.args.par (omega (arith, c.if-par-eq0.false))
    (sym (ap option_copied c.in_err-live.was) ∙ c.at.ensures ∙ ap (λ (blocks : List Block). slice_get blocks (c.args.par.0 - 1)) c.get.ensures)

pub returns-in-Par : goal.returns-in-Par
returns-in-Par c =
    live_paragraph-some c.args.document.now c.requires c.args.par c.in_ok-live.field-0.now c.in-Par.live (omega (arith, c.if-par-eq0.false))
    (sym (ap option_copied c.in_ok-live.was) ∙ c.at.ensures ∙ ap (λ (blocks : List Block). slice_get blocks (c.args.par.0 - 1)) c.get.ensures) c.in-Par.is

pub returns-in-Section : goal.returns-in-Section
returns-in-Section c =
    live_paragraph-section c.args.document.now c.requires c.args.par c.in_ok-live.field-0.now c.in-Section.field-0
    (sym (ap option_copied c.in_ok-live.was) ∙ c.at.ensures ∙ ap (λ (blocks : List Block). slice_get blocks (c.args.par.0 - 1)) c.get.ensures) c.in-Section.is
