-- The answer at a listed call is `Failed`.
use Rattle.std.proofs.Common.{ℕ, List, refl, subst, ap, ◌∙◌}
use Rattle.std.specs.Prelude.{Contains}
use Rattle.quill_io.proofs.mem_shelf.MemShelfShelf.fetch.Goals as goal

pub returns-then-is_listed-clause-listed : goal.returns-then-is_listed-clause-listed
returns-then-is_listed-clause-listed c =
    let listed = c.is_listed.ensures.0 c.if-is_listed.true in
    let call = c.one_more-self-inside.result in
    ((λ _. subst (λ (xs : List ℕ). Contains xs call) (c.deref.ensures.value ∙ ap (λ shelf. shelf.failing) c.self.view_is) listed), (λ _. refl))
