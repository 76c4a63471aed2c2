use Rattle.std.proofs.Common.{◌≡◌, ◌++◌, ◌∷◌, [], ◌∙◌, map, chars, ap, sym}
use Rattle.std.proofs.lemmas.Iterator.{YieldsList-from_chars}
use Rattle.std.proofs.lemmas.Iterator.Consumers.{YieldsList-end}
use Rattle.std.proofs.lemmas.List.{map-id, map-append}
use Rattle.load_model.specs.Content.{raw_character}
use Rattle.content_read.proofs.AddLemmas.{gains_is, gains_one}
use Rattle.content_read.proofs.pushes.push_run.Goals as goal

pub loop-c-preserved : goal.loop-c-preserved
loop-c-preserved c =
    let spans = c.args.spans.now in
    gains_is c.args.items.now c.push_char.new.self (map (raw_character spans) c.loop-c.yielded ++ raw_character spans c.in-Some.c ∷ []) (map (raw_character spans) (c.loop-c.yielded ++ c.in-Some.c ∷ []))
    (sym (map-append (raw_character spans) c.loop-c.yielded (c.in-Some.c ∷ [])))
    (gains_one c.args.items.now c.loop-c.items c.push_char.new.self (map (raw_character spans) c.loop-c.yielded) (raw_character spans c.in-Some.c) c.loop-c.invariant c.in_ok-push_char.ensures)

pub returns : goal.returns
returns c =
    let end = YieldsList-end (YieldsList-from_chars c.args.run.now c.utf8.run cc) c.loop-c.yielded _ c.loop-c.yielded_by _ _ c.in-None.is c.next.ensures.steps in
    let all : c.loop-c.yielded ≡ chars c.args.run.now = sym (map-id c.loop-c.yielded) ∙ end.0 in
    gains_is c.args.items.now c.loop-c.items (map (raw_character c.args.spans.now) c.loop-c.yielded) (map (raw_character c.args.spans.now) (chars c.args.run.now)) (ap (map (raw_character c.args.spans.now)) all) c.loop-c.invariant
