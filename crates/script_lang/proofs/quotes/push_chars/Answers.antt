use Rattle.std.proofs.Common.{◌≡◌, ◌++◌, ◌∙◌, ℕ, List, chars, ap, sym}
use Rattle.std.specs.List.{flat_map}
use Rattle.std.proofs.lemmas.Iterator.{YieldsList-from_chars}
use Rattle.std.proofs.lemmas.Iterator.Consumers.{YieldsList-end}
use Rattle.std.proofs.lemmas.List.{map-id}
use Rattle.desk_model.specs.Replies.{quoted_char}
use Rattle.script_lang.proofs.PrintLemmas.{front_kept}
use Rattle.script_lang.proofs.quotes.push_chars.Goals as goal

pub returns-in_err-push_char-clause-front : goal.returns-in_err-push_char-clause-front
returns-in_err-push_char-clause-front c =
    front_kept c.args.out.now.items (flat_map quoted_char c.loop-letter.yielded) c.loop-letter.out.items c.push_char.new.out.items c.loop-letter.invariant c.push_char.ensures.front

pub returns-clause-ok : goal.returns-clause-ok
returns-clause-ok c =
    let end = YieldsList-end (YieldsList-from_chars c.args.text.now c.utf8.text cc) c.loop-letter.yielded _ c.loop-letter.yielded_by _ _ c.in-None.is c.next.ensures.steps in
    let all : c.loop-letter.yielded ≡ chars c.args.text.now = sym (map-id c.loop-letter.yielded) ∙ end.0 in
    c.loop-letter.invariant ∙ ap (λ (letters : List ℕ). c.args.out.now.items ++ flat_map quoted_char letters) all
