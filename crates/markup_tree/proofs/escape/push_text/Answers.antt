-- A character or its entity behind what was written.
use Rattle.std.proofs.Common.{◌≡◌, ◌∙◌, ap, sym, codes, [], ◌∷◌, arith, rules}
use Rattle.std.proofs.lemmas.Grind.{common_steps}
use Rattle.std.specs.Str.{chars}
use Rattle.markup_tree.specs.Escapes.{text_escape}
use Rattle.markup_tree.proofs.EscapeLemmas.{pushed, char_alone}
use Rattle.markup_tree.proofs.escape.push_text.Goals as goal

pub returns-in-38 : goal.returns-in-38
unfolding chars
returns-in-38 c = pushed c.push_str.result c.args.out.now _ (codes "&amp;") (text_escape c.args.c) c.push_str.ensures.bytes (ap text_escape (sym c.in-38.is))

pub returns-in-60 : goal.returns-in-60
unfolding chars
returns-in-60 c = pushed c.push_str-in-60.result c.args.out.now _ (codes "&lt;") (text_escape c.args.c) c.push_str-in-60.ensures.bytes (ap text_escape (sym c.in-60.is))

pub returns-in-62 : goal.returns-in-62
unfolding chars
returns-in-62 c = pushed c.push_str-in-62.result c.args.out.now _ (codes "&gt;") (text_escape c.args.c) c.push_str-in-62.ensures.bytes (ap text_escape (sym c.in-62.is))

pub returns-in_default : goal.returns-in_default
returns-in_default c =
    let plain : c.args.c ∷ [] ≡ text_escape c.args.c = first_of (search rules, grind (arith, common_steps)) in
    pushed c.push.result c.args.out.now _ _ (text_escape c.args.c) c.push.ensures.bytes (char_alone c.args.c c.ranges.c.0 ∙ plain)
