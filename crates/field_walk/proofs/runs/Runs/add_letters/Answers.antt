use Rattle.std.proofs.Common.{◌≡◌, ℕ, List, map, take, chars, ap, sym, ◌∙◌}
use Rattle.std.proofs.lemmas.Iterator.{YieldsList-from_chars, YieldsList-from_take}
use Rattle.std.proofs.lemmas.Iterator.Consumers.{YieldsList-end}
use Rattle.std.proofs.lemmas.List.{map-id}
use Rattle.field_model.specs.declared.gathered.Piece.TheVariants.{Char}
use Rattle.field_model.specs.Quotes.{pieces_and}
use Rattle.field_walk.specs.Lists.{run_in}
use Rattle.field_walk.proofs.PieceLemmas.{none_added, letter_added}
use Rattle.field_walk.proofs.ForgetLemmas.{always_err, front_left, same_length}
use Rattle.field_walk.proofs.runs.Runs.add_letters.Goals as goal

pub loop-letter-init : goal.loop-letter-init
loop-letter-init c = λ noted. none_added noted c.args.in_note (run_in c.args.self.now noted)

pub loop-letter-preserved : goal.loop-letter-preserved
loop-letter-preserved c = λ noted. letter_added noted c.args.in_note (run_in c.args.self.now noted) (run_in c.loop-letter.self noted) (run_in c.push.new.self noted) c.loop-letter.yielded c.in-Some.letter (c.loop-letter.invariant noted) (c.in_ok-push.ensures.ok noted)

pub returns-clause-ok : goal.returns-clause-ok
returns-clause-ok c =
    let end = YieldsList-end (YieldsList-from_take 512 (YieldsList-from_chars c.args.text.now c.utf8.text cc) cc) c.loop-letter.yielded _ c.loop-letter.yielded_by _ _ c.in-None.is c.next.ensures.steps in
    let all : c.loop-letter.yielded ≡ take 512 (chars c.args.text.now) = sym (map-id c.loop-letter.yielded) ∙ end.0 in
    λ noted. c.loop-letter.invariant noted ∙ ap (λ (letters : List ℕ). pieces_and noted c.args.in_note (run_in c.args.self.now noted) (map Char letters)) all

pub returns-in_err-push-clause-err : goal.returns-in_err-push-clause-err
returns-in_err-push-clause-err c = always_err c.from_residual.result (λ noted. front_left noted c.args.in_note (run_in c.args.self.now noted) (run_in c.push.new.self noted) (map Char c.loop-letter.yielded) _ (c.in_err-push.ensures.err noted ∙ c.loop-letter.invariant noted) (same_length c.args.self.now noted c.args.in_note))
