use Rattle.std.proofs.Common.{◌∙◌, List, map, ap}
use Rattle.std.specs.List.{filter_map}
use Rattle.std.proofs.lemmas.List.{take_all}
use Rattle.met_read.specs.declared.things.Met.{Met}
use Rattle.met_read.specs.Read.{met_of}
use Rattle.tree_faults.specs.Tables.{table_in}
use Rattle.tree_faults.proofs.TableLemmas.{tables_more, tables_by}
use Rattle.tree_faults.proofs.tables.table_places.Goals as goal

pub met-preserved : goal.met-preserved
met-preserved c =
    tables_more c.args.met.now c.met.one-index _ c.met.places.items c.push_table.new.places.items c.met-test.true c.met.invariant c.in_ok-push_table.ensures

pub returns : goal.returns
returns c = λ all same.
    c.met.invariant ∙ ap (λ (some : List Met). filter_map table_in (map met_of some)) (take_all c.met.one-index c.args.met.now c.met-test.false) ∙ tables_by c.args.met.now all same
