use Rattle.std.proofs.Common.{◌∙◌, sym, subst}
use Rattle.undo_groups.specs.Meaning.{inverse}
use Rattle.undo_groups.specs.Lists.{Moves, IsNext}
use Rattle.undo_groups.specs.Step.{Applies}
use Rattle.undo_groups.proofs.Inverses.{IsInvertible}
use Rattle.undo_groups.proofs.Pasts.{Applies-steps, Applies-are_of}
use Rattle.undo_groups.proofs.groups.Groups.commit.Given as given
use Rattle.undo_groups.proofs.groups.Groups.commit.Goals as goal

laws : (g : given.Over) → IsInvertible g.T.Invertible.meaning
laws g = record { fits = g.met.T.Invertible.answer_fits; restores = g.met.T.Invertible.answer_restores }

applies : (g : given.Over) (c : goal.After-keep g) → Applies g.T.Invertible.after g.T.Invertible.value g.T.Invertible.meaning c.args.ready.way c.args.ready.prims c.args.target.now c.into_parts-way.result.1 c.args.self.now c.keep.new.self
applies g c =
    let kept = c.into_parts-way.ensures.2 ∙ c.requires.ready.readied.kept in
    let way = c.into_parts-way.ensures.0 in
    let prims = c.args.ready.prims in
    record {
      target = c.into_parts-way.ensures.1 ∙ c.requires.ready.readied.target;
      lists =
          subst (λ w. Moves w prims (inverse g.T.Invertible.meaning (g.T.Invertible.value c.args.target.now) prims) c.args.self.now c.keep.new.self) way
          (subst (λ k. Moves c.into_parts-way.result.0 prims k c.args.self.now c.keep.new.self) kept
          (c.keep.ensures.moves prims (subst (λ w. IsNext w prims c.args.self.now) (sym way) c.requires.ready.next)));
    }

pub returns-clause-past : goal.returns-clause-past
returns-clause-past g c = Applies-steps _ _ _ (laws g) g.met.T.Invertible.value_after _ _ _ _ _ _ c.requires.ready.readied.fits c.requires.of_target (applies g c)

pub returns-clause-of_target : goal.returns-clause-of_target
returns-clause-of_target g c = Applies-are_of _ _ _ (laws g) g.met.T.Invertible.value_after _ _ _ _ _ _ c.requires.ready.readied.fits c.requires.of_target (applies g c)
