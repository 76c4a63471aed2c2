use Rattle.std.proofs.Common.{◌≡◌, ℕ, ◌+◌, List, arith, subst}
use Rattle.std.specs.Str.Lines.{lines}
use Rattle.script_lang.proofs.ScriptLemmas.{HasRead, line_read, all_read, commands_same, no_script, OnBadLine-weaker}
use Rattle.std.proofs.lemmas.Result.{err_from_is_err_and}
use Rattle.desk_model.specs.declared.script.Numbered.{Numbered}
use Rattle.desk_model.specs.Script.{IsBadLine, AreCommandsFrom}
use Rattle.script_lang.proofs.script.read_script.Goals as goal

pub returns-in_err-push_line-clause-none : goal.returns-in_err-push_line-clause-none
returns-in_err-push_line-clause-none c =
    let all = lines c.args.bytes.now in
    let line = c.in-Some.line.now in
    let rest = lines c.in-Some.after.now in
    let read = subst (λ (left : List (List ℕ)). HasRead all left c.lines.number c.lines.commands) c.in-Some.ensures.line c.lines.invariant.0 in
    let p = err_from_is_err_and c.from_residual.result c.from_residual.ensures.1 in
    rw (p.1, p.2) (OnBadLine-weaker (λ other. (other ≡ c.lines.number + 1) × IsBadLine line) (λ _. (script : List Numbered) → AreCommandsFrom 1 all script → ⊥)
    (λ number bad script h. no_script all rest line c.lines.number c.lines.commands script read bad.1 h) _ c.in_err-push_line.ensures.bad)

pub lines-preserved : goal.lines-preserved
lines-preserved c =
    let all = lines c.args.bytes.now in
    let read = subst (λ (left : List (List ℕ)). HasRead all left c.lines.number c.lines.commands) c.in-Some.ensures.line c.lines.invariant.0 in (
      line_read all (lines c.in-Some.after.now) c.in-Some.line.now c.lines.number c.lines.commands c.push_line.new.commands read c.in_ok-push_line.ensures.ok,
      omega (arith, c.in-Some.ensures.shorter, c.lines.invariant.1),
    )

pub returns-clause-found : goal.returns-clause-found
returns-clause-found c = all_read (lines c.args.bytes.now) (lines c.lines.rest.now) c.lines.number c.lines.commands c.lines.invariant.0 c.in_default.ensures.line

pub returns-clause-only : goal.returns-clause-only
returns-clause-only c = λ other h.
    commands_same 1 (lines c.args.bytes.now) c.lines.commands other
    (all_read (lines c.args.bytes.now) (lines c.lines.rest.now) c.lines.number c.lines.commands c.lines.invariant.0 c.in_default.ensures.line) h
