use Rattle.std.proofs.Common.{◌∙◌, ◌<◌, arith}
use Rattle.std.proofs.lemmas.Str.Pattern.{strip_prefix_char}
use Rattle.read_values.proofs.PageCounts.{pages_below, pages_above}
use Rattle.read_values.proofs.pages.page_adjust.Goals as goal

pub returns-in-Some : goal.returns-in-Some
returns-in-Some c =
    let ascii : 45 < 128 = omega arith in
    let cut = strip_prefix_char 45 c.args.text.now c.strip_prefix.result c.strip_prefix.ensures.cases ascii in
    c.adjust.ensures ∙ pages_below c.args.text.now c.in-Some.digits.now c.utf8.text (rw c.in-Some.is at cut)

pub returns-in-None : goal.returns-in-None
returns-in-None c =
    let ascii : 45 < 128 = omega arith in
    let cut = strip_prefix_char 45 c.args.text.now c.strip_prefix.result c.strip_prefix.ensures.cases ascii in
    c.adjust-in-None.ensures ∙ pages_above c.args.text.now c.utf8.text (rw c.in-None.is at cut)
