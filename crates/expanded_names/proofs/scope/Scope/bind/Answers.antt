use Rattle.std.proofs.Common.{◌∙◌, ap, map, string_bytes}
use Rattle.std.specs.Option.{option_and_then}
use Rattle.std.specs.Str.{bytes_eq, chars}
use Rattle.indexmap.specs.IndexMap.{insert_entry}
use Rattle.expanded_names.specs.Scope.{Pairs, in_force, unless_empty}
use Rattle.expanded_names.proofs.Scopes.{characters, inserted, in_force_after, force_was}
use Rattle.expanded_names.proofs.scope.Scope.bind.Goals as goal

pub returns-clause-bound : goal.returns-clause-bound
returns-clause-bound c = λ key.
    ap (λ entries. in_force (map characters entries) key) c.in_ok-was.ensures.entries
    ∙ ap (λ (pairs : Pairs). in_force pairs key) (inserted c.self.inside.bound.entries c.args.prefix c.args.namespace
    ∙ ap (λ (pairs : Pairs). insert_entry bytes_eq pairs (chars (string_bytes c.args.prefix)) (chars (string_bytes c.args.namespace))) c.self.view_is)
    ∙ in_force_after c.args.self.now (chars (string_bytes c.args.prefix)) (chars (string_bytes c.args.namespace)) key

pub returns-clause-was : goal.returns-clause-was
returns-clause-was c =
    c.text_or_empty.ensures ∙ ap (option_and_then (λ one. unless_empty (chars (string_bytes one)))) c.in_ok-was.ensures.old
    ∙ force_was c.self.inside.bound.entries c.args.self.now c.args.prefix c.self.view_is
