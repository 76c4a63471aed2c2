use Rattle.std.proofs.Common.{◌≡◌, ◌++◌, map, take, chars}
use Rattle.met_read.specs.declared.things.MetName.{MetName}
use Rattle.declared_names.specs.declared.stated.Stated.{Stated}
use Rattle.declared_names.proofs.names.DeclaredNames.names.Given as goal

abbrev pub invariant-kept : goal.invariant-kept
invariant-kept l = l.names ≡ map (λ (one : Stated). chars one.name.now) (take l.one-index l.self.kept.items)

abbrev pub invariant-used : goal.invariant-used
invariant-used l = l.names ≡ map (λ (one : Stated). chars one.name.now) l.self.kept.items ++ map (λ (one : MetName). chars one.name.now) (take l.one-index l.self.used.items)
