use Rattle.std.proofs.Common.{sym}
use Rattle.page_style.proofs.Names.{first_named, first_of_all}
use Rattle.page_style.proofs.masters.first.Goals as goal

pub returns-in-Some : goal.returns-in-Some
returns-in-Some c = first_named c.args.masters.now c.place_of.result c.in-Some.place c.place_of.ensures c.in-Some.is

pub returns-in-None : goal.returns-in-None
returns-in-None c = first_of_all c.args.masters.now c.place_of.result (sym c.if-is_empty.ensures) c.place_of.ensures c.in-None.is
