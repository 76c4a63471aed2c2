use Rattle.std.proofs.Common.{Option, sym, subst, ◌∙◌}
use Rattle.std.specs.Prelude.{MatchOption}
use Rattle.list_num.specs.declared.counts.StyleCounts.{StyleCounts}
use Rattle.list_num.specs.Counts.{AreOfStyle, IsUnknown}
use Rattle.list_num.proofs.counts.Counts.style_counts.Goals as goal

pub returns-in-Some-clause-style : goal.returns-in-Some-clause-style
returns-in-Some-clause-style c before counted =
    subst (λ (found : Option StyleCounts). MatchOption found (IsUnknown c.args.lists.now before c.args.self.now.known c.args.name.now) (AreOfStyle c.args.lists.now before c.args.name.now))
    (sym (c.in-Some.ensures ∙ c.get.ensures.value)) (counted.styles c.args.name.now c.requires)
