use Rattle.std.proofs.Common.{subst, sym, ap, ◌∙◌}
use Rattle.undo_groups.specs.Past.{FitFromLast}
use Rattle.undo_groups.proofs.Pasts.{FitFromLast-last}
use Rattle.undo_groups.proofs.groups.Groups.ready_undo.Goals as goal

pub of_kept-requires : goal.of_kept-requires
of_kept-requires g c =
    let m = g.T.Invertible.meaning in
    let value = g.T.Invertible.value c.args.target.now in
    (FitFromLast-last m value c.in-Some.ensures.0 c.in-Some.group.now (subst (FitFromLast m value) (sym (ap (λ lists. lists.earlier) c.self.view_is) ∙ c.in-Some.ensures.1) c.requires.of_target.earlier)).0
