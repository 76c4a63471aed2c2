use Rattle.std.proofs.Common.{◌++◌, [], List, Option, subst, sym, append-nil}
use Rattle.std.specs.List.{cons_option}
use Rattle.std.proofs.lemmas.Result.{on_ok_weaker}
use Rattle.load_model.specs.Met.{MetName}
use Rattle.declared_names.specs.Used.{Uses}
use Rattle.declared_names.proofs.used.add_met.Goals as goal

pub returns-in-Some : goal.returns-in-Some
returns-in-Some c =
    on_ok_weaker c.add.result (λ added stated before uses.
    subst (λ (o : Option MetName). Uses stated (before ++ cons_option o []) c.add.new.names c.add.new.used.items) c.in-Some.ensures (added stated before uses)) c.add.ensures

pub returns-in-None : goal.returns-in-None
returns-in-None c = λ stated before uses.
    subst (λ (o : Option MetName). Uses stated (before ++ cons_option o []) c.args.names.now c.args.used.now.items) c.in-None.ensures
    (subst (λ (some : List MetName). Uses stated some c.args.names.now c.args.used.now.items) (sym (append-nil before)) uses)
