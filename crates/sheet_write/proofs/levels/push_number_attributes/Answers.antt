-- One attribute after another.
use Rattle.std.proofs.Common.{◌≡◌, ◌++◌, [], ◌∷◌, ℕ, List, OnOk, codes, decimal, sym, subst}
use Rattle.std.specs.List.{flat_map}
use Rattle.std.specs.Str.{chars}
use Rattle.std.specs.String.{string_bytes}
use Rattle.markup_nodes.specs.declared.words.Attr.{Attr}
use Rattle.doc_model.specs.declared.list_style.LevelWhat.{LevelWhat}
use Rattle.doc_model.specs.declared.list_style.ListLevel.{ListLevel}
use Rattle.tree_text.specs.Writing.{attr_text}
use Rattle.written_model.specs.Elements.{attribute}
use Rattle.written_model.specs.Styles.{number_attributes}
use Rattle.written_model.specs.Values as named
use Rattle.style_write.proofs.JoinLemmas.{joined, joined_last}
use Rattle.sheet_write.proofs.levels.push_number_attributes.Goals as goal

pub returns-in_ok-push_number-in-Number : goal.returns-in_ok-push_number-in-Number
unfolding chars
returns-in_ok-push_number-in-Number c =
    let old = chars (string_bytes c.args.out.now) in
    let level : ListLevel = c.args.level.now in
    let a : List Attr = attribute (codes "text:level") (decimal level.level) ∷ [] in
    let b : List Attr = attribute (codes "style:num-format") (named.format_text c.in-Number.format) ∷ [] in
    let d : List Attr = attribute (codes "style:num-prefix") c.in-Number.prefix ∷ [] in
    let x : List Attr = attribute (codes "style:num-suffix") c.in-Number.suffix ∷ [] in
    let y : List Attr = attribute (codes "text:start-value") (decimal c.in-Number.start) ∷ [] in
    let z : List Attr = attribute (codes "text:display-levels") (decimal c.in-Number.display) ∷ [] in
    let s0 : chars (string_bytes c.push_level_number.new.out) ≡ old ++ flat_map attr_text a = c.in_ok-push_level_number-in-Number.ensures in
    let h1 : chars (string_bytes c.push_text.new.out) ≡ chars (string_bytes c.push_level_number.new.out) ++ flat_map attr_text b =
    subst (λ (value : List ℕ). chars (string_bytes c.push_text.new.out) ≡ chars (string_bytes c.push_level_number.new.out) ++ flat_map attr_text (attribute (codes "style:num-format") value ∷ [])) c.format_text.ensures c.in_ok-push_text-in-Number.ensures in
    let h2 : chars (string_bytes c.push_text-in-Number.new.out) ≡ chars (string_bytes c.push_text.new.out) ++ flat_map attr_text d =
    subst (λ (value : List ℕ). chars (string_bytes c.push_text-in-Number.new.out) ≡ chars (string_bytes c.push_text.new.out) ++ flat_map attr_text (attribute (codes "style:num-prefix") value ∷ [])) c.get.ensures c.in_ok-push_text-in-Number-2.ensures in
    let h3 : chars (string_bytes c.push_text-in-Number-2.new.out) ≡ chars (string_bytes c.push_text-in-Number.new.out) ++ flat_map attr_text x =
    subst (λ (value : List ℕ). chars (string_bytes c.push_text-in-Number-2.new.out) ≡ chars (string_bytes c.push_text-in-Number.new.out) ++ flat_map attr_text (attribute (codes "style:num-suffix") value ∷ [])) c.get-in-Number.ensures c.in_ok-push_text-in-Number-3.ensures in
    let s1 = joined (chars (string_bytes c.push_text.new.out)) (chars (string_bytes c.push_level_number.new.out)) old a b s0 h1 in
    let s2 = joined (chars (string_bytes c.push_text-in-Number.new.out)) (chars (string_bytes c.push_text.new.out)) old (a ++ b) d s1 h2 in
    let s3 = joined (chars (string_bytes c.push_text-in-Number-2.new.out)) (chars (string_bytes c.push_text-in-Number.new.out)) old (a ++ b ++ d) x s2 h3 in
    let s4 = joined (chars (string_bytes c.push_number.new.out)) (chars (string_bytes c.push_text-in-Number-2.new.out)) old (a ++ b ++ d ++ x) y s3 c.in_ok-push_number-in-Number.ensures in
    let all = joined_last c.push_level_number-in-Number.result (chars (string_bytes c.push_level_number-in-Number.new.out)) (chars (string_bytes c.push_number.new.out)) old (a ++ b ++ d ++ x ++ y) z s4 c.push_level_number-in-Number.ensures in
    subst (λ (what : LevelWhat). OnOk c.push_level_number-in-Number.result (chars (string_bytes c.push_level_number-in-Number.new.out) ≡ old ++ flat_map attr_text (number_attributes level what))) (sym c.in-Number.is) all
