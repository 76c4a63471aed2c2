use Rattle.std.proofs.Common.{sym}
use Rattle.met_read.proofs.WalkLemmas.{last_behind}
use Rattle.met_read.proofs.walk.Here.in_section.Goals as goal

pub returns : goal.returns
returns c = λ at stands. record {
  text = stands.text;
  in_list = stands.in_list;
  section = sym (last_behind at.sections c.args.place);
}
