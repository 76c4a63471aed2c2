use Rattle.std.proofs.Common.{◌++◌, [], ℕ, List, codes, refl, ap, ◌∙◌}
use Rattle.std.specs.Str.{chars}
use Rattle.std.specs.String.{string_bytes}
use Rattle.tree_text.specs.Writing.{tag_text}
use Rattle.written_model.specs.Blocks.{below}
use Rattle.value_write.proofs.ChainLemmas.{four}
use Rattle.paragraph_write.specs.Around.{times, entry_name, list_attributes}
use Rattle.paragraph_write.proofs.lists.push_list_start.Goals as goal

pub returns : goal.returns
unfolding chars
returns c =
    let place = c.args.place.now in
    four c.push_tag_end.result (chars (string_bytes c.push_tag_end.new.out)) (chars (string_bytes c.push_name.new.out)) (chars (string_bytes c.push_times.new.out)) (chars (string_bytes c.push_outermost.new.out)) (chars (string_bytes c.args.out.now))
    (tag_text (codes "text:list") (list_attributes place) ++ codes ">") (times (below place.level) (codes "<text:list-item><text:list>")) (tag_text (entry_name place.item) []) (codes ">")
    c.in_ok-push_outermost.ensures
    (c.in_ok-push_times.ensures ∙ ap (λ (count : ℕ). chars (string_bytes c.push_outermost.new.out) ++ times count (codes "<text:list-item><text:list>")) c.below.ensures)
    (c.in_ok-push_name.ensures ∙ ap (λ (name : List ℕ). chars (string_bytes c.push_times.new.out) ++ tag_text name []) c.entry_name.ensures)
    c.push_tag_end.ensures refl
