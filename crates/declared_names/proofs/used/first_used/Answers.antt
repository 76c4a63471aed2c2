use Rattle.std.proofs.Common.{List, map, take, subst, sym}
use Rattle.load_model.specs.Met.{MetName}
use Rattle.met_read.specs.Read.{met_of}
use Rattle.declared_names.specs.Used.{Uses, names_used}
use Rattle.declared_names.proofs.UseLemmas.{used_more}
use Rattle.declared_names.proofs.used.first_used.Goals as goal

pub met-preserved : goal.met-preserved
met-preserved c =
    let at = c.met.one-index in
    subst (λ (some : List MetName). Uses c.args.names.now some c.add_met.new.names c.add_met.new.used.items) (sym (used_more c.args.sequences c.args.met.now at _ c.met-test.true))
    (c.in_ok-add_met.ensures c.args.names.now (names_used c.args.sequences (map met_of (take at c.args.met.now))) c.met.invariant)
