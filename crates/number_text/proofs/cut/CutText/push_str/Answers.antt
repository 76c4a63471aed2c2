use Rattle.std.proofs.Common.{◌≡◌, ℕ, List, [], ◌++◌, ◌∷◌, length, take, chars, ap, sym, ◌∙◌, arith}
use Rattle.std.proofs.lemmas.Iterator.{YieldsList-from_chars, YieldsList-from_take}
use Rattle.std.proofs.lemmas.Iterator.Consumers.{YieldsList-end}
use Rattle.std.proofs.lemmas.List.{map-id}
use Rattle.field_model.specs.Cut.{cut}
use Rattle.number_text.proofs.CutLemmas.{cut_none, cut_then, cut_room}
use Rattle.number_text.proofs.cut.CutText.push_str.Goals as goal

pub loop-letter-init : goal.loop-letter-init
loop-letter-init c = cut_none c.args.self.now (omega (arith, c.self.invariant, ap (length {A = ℕ}) c.self.view_is))

pub loop-letter-preserved : goal.loop-letter-preserved
loop-letter-preserved c = cut_then c.args.self.now c.loop-letter.self c.push.new.self c.loop-letter.yielded (c.in-Some.letter ∷ []) c.loop-letter.invariant c.in_ok-push.ensures.ok

pub returns : goal.returns
returns c =
    let end = YieldsList-end (YieldsList-from_take c.self.inside.room (YieldsList-from_chars c.args.text.now c.utf8.text cc) cc) c.loop-letter.yielded _ c.loop-letter.yielded_by _ _ c.in-None.is c.next.ensures.steps in
    let all : c.loop-letter.yielded ≡ take c.self.inside.room (chars c.args.text.now) = sym (map-id c.loop-letter.yielded) ∙ end.0 in
    c.loop-letter.invariant
    ∙ ap (λ (letters : List ℕ). cut (c.args.self.now ++ letters)) all
    ∙ cut_room c.args.self.now (chars c.args.text.now) c.self.inside.room (omega (arith, c.self.invariant, ap (length {A = ℕ}) c.self.view_is))
