use Rattle.std.proofs.Common.{◌++◌, ◌∷◌, [], map, subst, sym, take}
use Rattle.met_read.specs.Read.{met_of, name_of}
use Rattle.kept_names.specs.declared.firsts.Firsts.{Firsts}
use Rattle.kept_names.specs.Firsts.{Holds, named}
use Rattle.kept_names.proofs.FirstLemmas.{holds_named, holds_other}
use Rattle.kept_names.proofs.firsts.first_places.Goals as goal
use Rattle.kept_names.proofs.firsts.first_places.Goals.{in-Some+in_ok-add-in-Some, in-None}

pub loop-one-preserved : goal.loop-one-preserved
loop-one-preserved c =
    let before = named c.args.kind (map met_of (take c.loop-one.one-index c.args.met.now)) in
    elim c.match-named.branch [
      | in-Some+in_ok-add-in-Some w ↦
          holds_named c.args.kind c.args.met.now c.loop-one.one-index _ c.match-named.firsts (name_of w.in-Some.one) c.loop-one-test.true w.in-Some.ensures
          (let P : Firsts → Type 0 = λ firsts. Holds firsts (before ++ name_of w.in-Some.one ∷ []) in
          subst P (sym w.firsts-is) (w.in_ok-add-in-Some.ensures before c.loop-one.invariant))
      | in-None w ↦
          holds_other c.args.kind c.args.met.now c.loop-one.one-index _ c.match-named.firsts c.loop-one-test.true w.in-None.ensures
          (let P : Firsts → Type 0 = λ firsts. Holds firsts before in subst P (sym w.firsts-is) c.loop-one.invariant)
    ]
