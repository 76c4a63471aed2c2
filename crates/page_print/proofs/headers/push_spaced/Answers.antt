use Rattle.std.proofs.Common.{◌≡◌, ℕ, List, ◌++◌, map, chars, ap, ap₂, sym, ◌∙◌, encode_utf8, encode_utf8_all, string_bytes}
use Rattle.std.proofs.lemmas.List.{map-id}
use Rattle.std.proofs.lemmas.Iterator.{YieldsList-from_chars}
use Rattle.std.proofs.lemmas.Iterator.Consumers.{YieldsList-end}
use Rattle.page_print.specs.Headers.{spaced}
use Rattle.page_print.proofs.Joined.{spaced_more}
use Rattle.page_print.proofs.headers.push_spaced.Goals as goal

pub loop-letter-preserved : goal.loop-letter-preserved
loop-letter-preserved c =
    c.in_ok-push.ensures.bytes ∙ ap₂ (λ (front back : List ℕ). front ++ back) c.loop-letter.invariant (ap encode_utf8 c.spaced.ensures)
    ∙ spaced_more (string_bytes c.args.out.now) c.loop-letter.yielded c.in-Some.letter

pub returns : goal.returns
returns c =
    let end = YieldsList-end (YieldsList-from_chars c.get.result.now c.get.utf8 cc) c.loop-letter.yielded _ c.loop-letter.yielded_by _ _ c.in-None.is c.next.ensures.steps in
    let all : c.loop-letter.yielded ≡ chars c.get.result.now = sym (map-id c.loop-letter.yielded) ∙ end.0 in
    c.loop-letter.invariant ∙ ap (λ (letters : List ℕ). string_bytes c.args.out.now ++ encode_utf8_all (map spaced letters)) (all ∙ c.get.ensures)
