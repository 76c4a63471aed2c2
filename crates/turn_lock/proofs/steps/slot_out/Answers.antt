use Rattle.std.proofs.Common.{◌∷◌, sym, ap, ◌∙◌, Some}
use Rattle.atomic_table.specs.Table.{rest}
use Rattle.turn_lock.proofs.steps.slot_out.Goals as goal

pub exchange-requires : goal.exchange-requires
exchange-requires g c = let q = c.requires in (q.0, (Some q.1.0, q.1.1 ∙ ap (λ cs. (0, Some q.1.0) ∷ rest cs) (sym q.1.1)))
