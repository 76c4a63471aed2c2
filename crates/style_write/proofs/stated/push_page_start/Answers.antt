use Rattle.std.proofs.Common.{◌≡◌, ◌++◌, [], ◌∷◌, OnOk, sym, subst}
use Rattle.std.specs.List.{flat_map}
use Rattle.std.specs.Str.{chars}
use Rattle.std.specs.String.{string_bytes}
use Rattle.doc_model.specs.declared.style.PageStart.{PageStart}
use Rattle.tree_text.specs.Writing.{attr_text}
use Rattle.written_model.specs.Elements.{attribute}
use Rattle.written_model.specs.Values as named
use Rattle.style_write.proofs.stated.push_page_start.Goals as goal

pub returns-in-Auto : goal.returns-in-Auto
unfolding chars
returns-in-Auto c =
    subst (λ (start : PageStart). OnOk c.push_text.result (chars (string_bytes c.push_text.new.out) ≡ chars (string_bytes c.args.out.now) ++ flat_map attr_text (attribute (chars c.args.name.now) (named.page_start_text start) ∷ [])))
    (sym c.in-Auto.is) c.push_text.ensures
