use Rattle.std.proofs.Common.{◌∙◌, ap, sym, string_bytes}
use Rattle.std.specs.Str.{chars}
use Rattle.expanded_names.specs.Scope.{in_force}
use Rattle.expanded_names.specs.Shadows.{without_all}
use Rattle.expanded_names.proofs.Declared.{declared_holds, shadowed}
use Rattle.expanded_names.proofs.shadows.declare.Goals as goal

pub returns-clause-bindings : goal.returns-clause-bindings
returns-clause-bindings c = λ around holds.
    declared_holds c.args.scope.now c.bind.new.self around c.args.attr.now (chars c.get.result.now) (chars c.in-Some.prefix.now)
    (chars (string_bytes c.in_ok-put.put)) (chars (string_bytes c.in_ok-namespace.namespace)) c.get.ensures c.in-Some.ensures
    (ap chars c.in_ok-put.ensures.ok) (ap chars c.in_ok-namespace.ensures.ok ∙ c.get-2.ensures) c.in_ok-was.ensures.bound holds

pub returns-clause-shadows : goal.returns-clause-shadows
returns-clause-shadows c = λ prefix.
    ap (λ items. without_all items (in_force c.bind.new.self) prefix) c.in_ok-push.ensures.items
    ∙ shadowed c.args.scope.now c.bind.new.self c.args.shadows.now.items (record { prefix = c.in_ok-kept.kept; namespace = c.in_ok-was.was' })
    (chars (string_bytes c.in_ok-put.put)) (chars (string_bytes c.in_ok-namespace.namespace))
    (ap chars (c.in_ok-kept.ensures.ok ∙ sym c.in_ok-put.ensures.ok)) c.in_ok-was.ensures.bound c.in_ok-was.ensures.was prefix
