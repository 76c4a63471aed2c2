use Rattle.std.proofs.Common.{◌++◌, ap, ◌∙◌}
use Rattle.std.specs.List.{splice, between}
use Rattle.tagged_list.proofs.Parts.{wider_splice}
use Rattle.tagged_list.proofs.tagged_list.TaggedList.respaced.Goals as goal

pub returns-clause-ok : goal.returns-clause-ok
returns-clause-ok g c =
    let low = c.window-low.result.0 in
    let high = c.window-low.result.1 in
    let from = c.args.from in
    let to = c.args.to in
    c.in_ok-replace.ensures.ok
    ∙ (ap (λ xs. splice c.args.self.now low high xs) (c.deref.ensures.value ∙ (c.in_ok-all.ensures ∙ ap (λ xs. between low from xs ++ (c.args.tagged.now ++ between to high xs)) c.self.view_is))
    ∙ wider_splice c.args.self.now c.args.tagged.now low from to high c.window-low.ensures.before c.requires.in_order c.window-low.ensures.behind)
