use Rattle.std.proofs.Common.{◌≡◌, ◌&&◌, false, take}
use Rattle.std.specs.List.{list_any}
use Rattle.load_model.specs.declared.names.Tag.TheVariants as tag
use Rattle.load_model.specs.Left.{is, children}
use Rattle.tree_faults.proofs.texts.has_text.Given as goal

abbrev pub invariant-turns : goal.invariant-turns
invariant-turns l = list_any (λ turn. is tag.Body turn.elem && list_any (is tag.Text) (children turn.elem)) (take l.turn-index l.turns) ≡ false
