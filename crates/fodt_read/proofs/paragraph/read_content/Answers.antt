use Rattle.std.proofs.Common.{ℕ, ◌∙◌, sym, ap, refl, List, ◌++◌, arith, inl, inr}
use Rattle.std.proofs.lemmas.List.{length-replicate}
use Rattle.doc_model.specs.Chars.{IsPlainChar}
use Rattle.spelling_model.specs.Spelling.{paragraph_end}
use Rattle.fodt_read.proofs.Content.{reads_at, reads_run, reads_end, reads_marked, reads_count, room}
use Rattle.fodt_read.proofs.Faults.{only_memory}
use Rattle.fodt_read.proofs.Runs.{plain_run, plain_append, Each-replicate}
use Rattle.fodt_read.proofs.paragraph.read_content.Goals as goal

-- a run that has no room is none of the characters
pub returns-in_err-push_run-clause-read : goal.returns-in_err-push_run-clause-read
returns-in_err-push_run-clause-read c = λ chars more plain e.
    let run = reads_run chars more _ _ _ c.plain_run.ensures.plain (c.pieces.invariant.left chars more plain e) in
    only_memory _ _ _ c.from_residual.ensures.1
    (λ full. room chars more c.pieces.text.items _ _ plain run (rw (← c.split_at.ensures.front) (c.in_err-push_run.ensures.full full)))

pub returns-in-Some-clause-plain : goal.returns-in-Some-clause-plain
returns-in-Some-clause-plain c =
    plain_run c.pieces.text.items _ _ _ _ c.split_at.ensures.front c.in_ok-push_run.ensures.ok c.pieces.invariant.plain c.plain_run.ensures.plain c.push_run.ensures.most

pub returns-in-Some-clause-read : goal.returns-in-Some-clause-read
unfolding paragraph_end
returns-in-Some-clause-read c = λ chars more plain e.
    let run = reads_run chars more _ _ _ c.plain_run.ensures.plain (c.pieces.invariant.left chars more plain e) in
    let is = reads_end chars more _ _ c.in-Some.rest.now run (sym c.split_at.ensures.back ∙ c.in-Some.ensures) in
    (is.1, c.in_ok-push_run.ensures.ok ∙ ap (λ (xs : List ℕ). c.pieces.text.items ++ xs) c.split_at.ensures.front ∙ sym is.0)

-- where neither the end tag nor what stands for characters is next, no characters are spelled
pub returns-in_default-read_escape-clause-read : goal.returns-in_default-read_escape-clause-read
unfolding paragraph_end
returns-in_default-read_escape-clause-read c = λ chars more plain e.
    let next = reads_marked chars more _ _ _ _ _ _ c.split_at.ensures.front c.split_at.ensures.back c.in_ok-push_run.ensures.ok c.plain_run.ensures.plain c.plain_run.ensures.stop
    c.in_default.ensures (c.pieces.invariant.left chars more plain e) in
    elim next [
      | inl entity ↦ absurd (c.in_default-read_escape.ensures.entity entity.c entity.piece.after entity.entity entity.piece.spelled)
      | inr some ↦ absurd (c.in_default-read_escape.ensures.spaces some.count some.piece.after some.some (omega (arith, some.most, plain.most)) some.piece.spelled)
    ]

pub returns-in_err-push_times-clause-read : goal.returns-in_err-push_times-clause-read
unfolding paragraph_end
returns-in_err-push_times-clause-read c = λ chars more plain e.
    let next = reads_marked chars more _ _ _ _ _ _ c.split_at.ensures.front c.split_at.ensures.back c.in_ok-push_run.ensures.ok c.plain_run.ensures.plain c.plain_run.ensures.stop
    c.in_default.ensures (c.pieces.invariant.left chars more plain e) in
    let read = reads_count chars more _ _ _ _ _ plain c.in-Some-read_escape.ensures.entity c.in-Some-read_escape.ensures.spaces next in
    let count = length-replicate {A = ℕ} c.in-Some-read_escape.escape.count c.in-Some-read_escape.escape.character in
    only_memory _ _ _ c.from_residual-in_err-push_times.ensures.1
    (λ full. room chars more c.push_run.new.text.items _ _ plain read (rw count (c.in_err-push_times.ensures.full full)))

pub pieces-preserved : goal.pieces-preserved
unfolding paragraph_end
pieces-preserved c =
    let run = plain_run c.pieces.text.items _ _ _ _ c.split_at.ensures.front c.in_ok-push_run.ensures.ok c.pieces.invariant.plain c.plain_run.ensures.plain c.push_run.ensures.most in
    record {
      plain = plain_append _ _ _ c.in_ok-push_times.ensures.ok run
          (Each-replicate IsPlainChar c.in-Some-read_escape.escape.count c.in-Some-read_escape.escape.character c.in-Some-read_escape.ensures.plain) c.push_times.ensures.most;
      shorter = omega (arith, c.in-Some-read_escape.ensures.shorter);
      left = λ chars more plain e.
          let next = reads_marked chars more _ _ _ _ _ _ c.split_at.ensures.front c.split_at.ensures.back c.in_ok-push_run.ensures.ok c.plain_run.ensures.plain c.plain_run.ensures.stop
          c.in_default.ensures (c.pieces.invariant.left chars more plain e) in
          let read = reads_count chars more _ _ _ _ _ plain c.in-Some-read_escape.ensures.entity c.in-Some-read_escape.ensures.spaces next in
          reads_at chars more _ _ _ _ (sym c.in_ok-push_times.ensures.ok) refl read;
    }
