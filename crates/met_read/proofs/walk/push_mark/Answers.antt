use Rattle.std.proofs.Common.{Some}
use Rattle.std.specs.Prelude.{chars}
use Rattle.load_model.specs.declared.names.Key.TheVariants as key
use Rattle.load_model.specs.declared.element.Element.{out-Element}
use Rattle.met_read.specs.Read.{kind_of}
use Rattle.met_read.specs.Walk.{name_in}
use Rattle.met_read.proofs.WalkLemmas.{mark_here, name_is}
use Rattle.met_read.proofs.walk.push_mark.Goals as goal

pub returns-in-Some : goal.returns-in-Some
returns-in-Some c =
    let element = c.args.element.now in
    mark_here c.push.result c.args.here c.args.met.now.items c.push.new.met.items (kind_of c.args.kind) (out-Element element).place (chars c.in-Some.name.now) (name_in key.TextName element)
    (name_is key.TextName element c.get.result.now (Some (chars c.in-Some.name.now)) c.get.ensures c.in-Some.ensures)
    c.push.ensures
