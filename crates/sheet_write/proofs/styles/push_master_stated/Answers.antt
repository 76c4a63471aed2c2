use Rattle.std.proofs.Common.{◌≡◌, ◌++◌, [], ◌∷◌, ℕ, List, Option, OnOk, codes, sym, subst}
use Rattle.std.specs.List.{flat_map}
use Rattle.std.specs.Str.{chars}
use Rattle.std.specs.String.{string_bytes}
use Rattle.tree_text.specs.Writing.{attr_text}
use Rattle.written_model.specs.Elements.{attribute, where_stated}
use Rattle.sheet_write.proofs.styles.push_master_stated.Goals as goal

pub returns-in-Some : goal.returns-in-Some
unfolding chars
returns-in-Some c =
    let named = subst (λ (value : List ℕ). OnOk c.push_text.result (chars (string_bytes c.push_text.new.out) ≡ chars (string_bytes c.args.out.now) ++ flat_map attr_text (attribute (codes "style:master-page-name") value ∷ []))) c.get.ensures c.push_text.ensures in
    subst (λ (master : Option (List ℕ)). OnOk c.push_text.result (chars (string_bytes c.push_text.new.out) ≡ chars (string_bytes c.args.out.now) ++ flat_map attr_text (where_stated (codes "style:master-page-name") (λ (name : List ℕ). name) master))) (sym c.in-Some.is) named
