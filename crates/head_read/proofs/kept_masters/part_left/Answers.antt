use Rattle.std.proofs.Common.{◌≡◌, [], Option, map, subst}
use Rattle.std.specs.Option.{option_to_list}
use Rattle.load_model.specs.declared.element.Element.{Element}
use Rattle.load_model.specs.Left.{all_but, all_of, attributes_of, children, nothing, only_attributes}
use Rattle.load_model.specs.Values.{attributes_left}
use Rattle.element_parts.specs.Shown.{shown}
use Rattle.head_read.specs.Masters.{part_left}
use Rattle.head_read.proofs.kept_masters.part_left.Goals as goal

pub returns-in-Some : goal.returns-in-Some
returns-in-Some c =
    let part = c.in-Some.part.now in
    let P : Option Element → Type 0 = λ found. c.both.result ≡ shown (all_of (map (part_left c.args.kept) (option_to_list found))) in
    subst P c.in-Some.ensures (c.both.ensures nothing (part_left c.args.kept part) c.nothing.ensures
    (c.both-own.ensures (only_attributes (attributes_left [] (attributes_of part))) (all_but c.args.kept (children part)) c.attributes_out.ensures c.children_left.ensures))
