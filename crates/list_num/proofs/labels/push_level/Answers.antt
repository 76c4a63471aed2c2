use Rattle.std.proofs.Common.{[], ◌∙◌, chars, refl}
use Rattle.std.proofs.lemmas.Str.{chars-nil}
use Rattle.field_model.specs.Labels.{shown_level}
use Rattle.list_num.specs.Counters.{count_in}
use Rattle.number_text.proofs.CutLemmas.{cut_same}
use Rattle.list_num.proofs.labels.push_level.Goals as goal

pub returns-in-Bullet : goal.returns-in-Bullet
returns-in-Bullet c =
    cut_same c.push_str.result c.args.out.now c.push_str.new.self (chars []) (shown_level (count_in c.args.counters.now) c.args.level.now)
    (chars-nil ∙ (rw c.in-Bullet.is refl)) c.push_str.ensures
