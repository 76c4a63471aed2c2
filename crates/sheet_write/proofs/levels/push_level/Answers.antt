use Rattle.std.proofs.Common.{◌≡◌, ◌++◌, OnOk, codes, sym, subst}
use Rattle.std.specs.Str.{chars}
use Rattle.std.specs.String.{string_bytes}
use Rattle.doc_model.specs.declared.list_style.LevelWhat.{LevelWhat}
use Rattle.doc_model.specs.declared.list_style.ListLevel.{ListLevel}
use Rattle.tree_text.specs.Writing.{child_text}
use Rattle.written_model.specs.Elements.{empty_element}
use Rattle.written_model.specs.Styles.{number_attributes, level_element}
use Rattle.sheet_write.proofs.levels.push_level.Goals as goal

pub returns-in-Number : goal.returns-in-Number
unfolding chars
returns-in-Number c =
    let level : ListLevel = c.args.level.now in
    let numbers = subst (λ (what : LevelWhat). OnOk c.push_numbering.result (chars (string_bytes c.push_numbering.new.out) ≡ chars (string_bytes c.args.out.now) ++ child_text (empty_element (codes "text:list-level-style-number") (number_attributes level what))))
    c.in-Number.is c.push_numbering.ensures in
    subst (λ (what : LevelWhat). OnOk c.push_numbering.result (chars (string_bytes c.push_numbering.new.out) ≡ chars (string_bytes c.args.out.now) ++ child_text (level_element (record level { what = what }))))
    (sym c.in-Number.is) numbers
