use Rattle.std.proofs.Common.{◌∙◌}
use Rattle.std.specs.Str.{chars}
use Rattle.style_loops.proofs.LoopLemmas.{found_flag, no_flag}
use Rattle.style_loops.proofs.loops.StyleLoops.has.Goals as goal

pub returns-in-Some : goal.returns-in-Some
returns-in-Some c = λ styles tells.
    c.flag_at.ensures ∙ found_flag styles c.args.family (chars c.args.name.now) c.in-Some.place c.args.self.now.looped.items (c.in-Some.ensures styles tells.places) tells.flags

pub returns-in-None : goal.returns-in-None
returns-in-None c = λ styles tells. no_flag styles c.args.family (chars c.args.name.now) (c.in-None.ensures styles tells.places)
