use Rattle.load_model.specs.Loaded.{met_of}
use Rattle.doc_load.proofs.text.met_faults.Goals as goal

pub returns : goal.returns
returns c = λ root met kept ordered. record {
  section_is = c.section_beyond.ensures (met_of root) met kept ordered.sections.apart;
  deep_are = c.in_ok-deep.ensures (met_of root) met kept ordered.sections;
  tables_are = c.in_ok-tables.ensures (met_of root) met;
}
