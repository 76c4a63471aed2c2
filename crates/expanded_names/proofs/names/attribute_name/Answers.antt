use Rattle.std.proofs.Common.{◌≡◌, List, ℕ, Some, sym, ap, ap₂}
use Rattle.std.specs.Str.{chars}
use Rattle.load_model.specs.Names.{Cut, Expanded, cut_name}
use Rattle.expanded_names.proofs.Texts.{declarations_characters}
use Rattle.expanded_names.proofs.names.attribute_name.Goals as goal

pub returns-then-is_declaration : goal.returns-then-is_declaration
returns-then-is_declaration c = λ bindings holds.
    let local_name : chars c.cut.result.1.now ≡ (cut_name (chars c.args.name.now)).local_name = ap (λ (cut : Cut). cut.local_name) c.cut.ensures in
    rw (sym c.if-is_declaration.ensures) (ap₂ (λ (a b : List ℕ). let one : Expanded = record { namespace = a; local_name = b } in Some one) declarations_characters local_name)
