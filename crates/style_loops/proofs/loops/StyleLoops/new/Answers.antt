use Rattle.std.proofs.Common.{◌≡◌, ◌∙◌, ap, ℕ, ◌<◌, List, Option, false, map, length, get_or, subst}
use Rattle.std.specs.Bool.{Decides}
use Rattle.parent_loops.specs.Ancestors.{IsOwnAncestor}
use Rattle.style_loops.specs.Loops.{parent_in}
use Rattle.style_loops.proofs.LoopLemmas.{flags_are}
use Rattle.style_loops.proofs.loops.StyleLoops.new.Goals as goal

pub returns : goal.returns
returns c = λ distinct.
    let styles = c.args.styles.now in
    let parents : c.as_slice.result.now ≡ map (parent_in styles) styles = c.as_slice.ensures.value ∙ c.in_ok-parents.ensures styles c.in_ok-places.ensures in
    let looped = c.in_ok-looped.looped.items in
    record {
      places = c.in_ok-places.ensures;
      flags = flags_are styles looped distinct (c.in_ok-looped.ensures.all ∙ ap (λ (some : List (Option ℕ)). length some) parents)
          (subst (λ (some : List (Option ℕ)). (at : ℕ) → at < length some → Decides (get_or looped at false) (IsOwnAncestor some at)) parents c.in_ok-looped.ensures.exact);
    }
