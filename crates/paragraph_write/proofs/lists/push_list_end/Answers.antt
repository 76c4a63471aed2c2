use Rattle.std.proofs.Common.{◌++◌, ℕ, List, codes, refl, ap, ◌∙◌}
use Rattle.std.specs.Str.{chars}
use Rattle.std.specs.String.{string_bytes}
use Rattle.tree_text.specs.Writing.{end_text}
use Rattle.written_model.specs.Blocks.{below}
use Rattle.value_write.proofs.ChainLemmas.{three}
use Rattle.paragraph_write.specs.Around.{times, entry_name}
use Rattle.paragraph_write.proofs.lists.push_list_end.Goals as goal

pub returns : goal.returns
unfolding chars
returns c =
    let place = c.args.place.now in
    three c.push_end-2.result (chars (string_bytes c.push_end-2.new.out)) (chars (string_bytes c.push_times.new.out)) (chars (string_bytes c.push_end.new.out)) (chars (string_bytes c.args.out.now))
    (end_text (entry_name place.item)) (times (below place.level) (codes "</text:list></text:list-item>")) (end_text (codes "text:list"))
    (c.in_ok-push_end.ensures ∙ ap (λ (name : List ℕ). chars (string_bytes c.args.out.now) ++ end_text name) c.entry_name.ensures)
    (c.in_ok-push_times.ensures ∙ ap (λ (count : ℕ). chars (string_bytes c.push_end.new.out) ++ times count (codes "</text:list></text:list-item>")) c.below.ensures)
    c.push_end-2.ensures refl
