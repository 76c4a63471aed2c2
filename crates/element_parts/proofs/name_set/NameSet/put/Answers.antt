use Rattle.element_parts.proofs.Names.{put_behind}
use Rattle.element_parts.proofs.name_set.NameSet.put.Goals as goal

pub returns-clause-names : goal.returns-clause-names
returns-clause-names c = put_behind c.self.inside.names.keys c.insert.new.self.keys c.args.name c.args.self.now c.self.view_is c.requires c.in_ok-insert.ensures.keys
