-- A stop is told by its status and its line, and a text is put.
use Rattle.std.proofs.Common.{ℕ, List, take, Ok, refl, subst, inl, inr, arith}
use Rattle.std.specs.Io.KnownBytes.{Appends}
use Rattle.quill_top.specs.Words.{texts_of}
use Rattle.quill_top.specs.Stop.{output_fault}
use Rattle.quill_top.specs.Ending.{stop_of}
use Rattle.quill_top.specs.Made.{done_of}
use Rattle.quill_top.proofs.Told.{told_usage, told_six, told_known, told_line}
use Rattle.quill_top.proofs.lone.quill_lone.Goals as goal

pub returns-in-Err-clause-usage : goal.returns-in-Err-clause-usage
returns-in-Err-clause-usage g c = (
  told_usage _ (texts_of c.args.words.now) (stop_of c.in-Err.ending) c.tell.result.0 _ _ _ _ c.in-Err.ensures.stops c.tell.ensures.told,
  λ none. c.tell.ensures.usage (c.in-Err.ensures.usage none),
)

pub returns-in-Err-clause-known : goal.returns-in-Err-clause-known
returns-in-Err-clause-known g c = λ at told.
    told_known _ (texts_of c.args.words.now) (stop_of c.in-Err.ending) c.tell.result.0 _ _ _ _ at c.in-Err.ensures.stops c.tell.ensures.told c.in-Err.ensures.before_output told

pub returns-in-Err-clause-output_fault : goal.returns-in-Err-clause-output_fault
returns-in-Err-clause-output_fault g c = λ six.
    absurd (told_six (stop_of c.in-Err.ending) c.tell.result.0 _ _ _ _ c.tell.ensures.told c.in-Err.ensures.before_output six)

pub returns-in-Err-clause-partial : goal.returns-in-Err-clause-partial
returns-in-Err-clause-partial g c = λ six.
    absurd (told_six (stop_of c.in-Err.ending) c.tell.result.0 _ _ _ _ c.tell.ensures.told c.in-Err.ensures.before_output six)

pub returns-in-Err-clause-line : goal.returns-in-Err-clause-line
returns-in-Err-clause-line g c = λ _.
    told_line _ (texts_of c.args.words.now) (stop_of c.in-Err.ending) c.tell.result.0 _ _ _ _ c.in-Err.ensures.stops c.tell.ensures.told

pub returns-in-Ok-put-clause-usage : goal.returns-in-Ok-put-clause-usage
returns-in-Ok-put-clause-usage g c = (λ two. absurd (omega (arith, two)), λ none. absurd (c.in-Ok.ensures.usage none))

pub returns-in-Ok-put-clause-known : goal.returns-in-Ok-put-clause-known
returns-in-Ok-put-clause-known g c = λ at told. inr (Ok (done_of c.in-Ok.made), c.in-Ok.ensures.found at told, inl refl)

pub returns-in-Ok-put-clause-done : goal.returns-in-Ok-put-clause-done
returns-in-Ok-put-clause-done g c = λ _.
    (done_of c.in-Ok.made, c.in-Ok.ensures.found, subst (λ (piece : List ℕ). Appends (g.K.Sink.held c.args.out.now) (g.K.Sink.held c.put.new.self) piece) c.get.ensures c.in-Ok-put.ensures.told, c.report.ensures.told)

pub returns-clause-usage : goal.returns-clause-usage
returns-clause-usage g c =
    let six = c.tell-in-Err-Failed.ensures.output refl in
    (λ two. absurd (omega (arith, six, two)), λ none. absurd (c.in-Ok.ensures.usage none))

pub returns-clause-known : goal.returns-clause-known
returns-clause-known g c = λ at told. inr (Ok (done_of c.in-Ok.made), c.in-Ok.ensures.found at told, inr (c.tell-in-Err-Failed.ensures.output refl))

pub returns-clause-partial : goal.returns-clause-partial
returns-clause-partial g c = λ _.
    let (taken, came) = c.in-Err-Failed.ensures.told in (
      (done_of c.in-Ok.made),
      c.in-Ok.ensures.found,
      (taken, subst (λ (piece : List ℕ). Appends (g.K.Sink.held c.args.out.now) (g.K.Sink.held c.put.new.self) (take taken piece)) c.get.ensures came),
    )

pub returns-clause-line : goal.returns-clause-line
returns-clause-line g c = λ _.
    told_line _ (texts_of c.args.words.now) output_fault c.tell-in-Err-Failed.result.0 _ _ _ _ (inl (inr (inl refl))) c.tell-in-Err-Failed.ensures.told
